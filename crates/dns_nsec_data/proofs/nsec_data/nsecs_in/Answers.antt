use Rattle.std.proofs.Common.{List, refl, subst, sym, arith}
use Rattle.std.proofs.lemmas.List.{take_all}
use Rattle.std.proofs.lemmas.Option.{slice_get_read}
use Rattle.dns_message.specs.declared.record.Record.{Record}
use Rattle.dns_nsec_data.specs.NsecData.{AreNsecs, Keeps, nsec_records}
use Rattle.dns_nsec_data.proofs.NsecLaws.{nsecs_next}
use Rattle.dns_nsec_data.proofs.nsec_data.nsecs_in.Goals as goal

pub returns-then-branch : goal.returns-then-branch
returns-then-branch c =
    let r = c.index-records-index.result in
    let k = subst (Keeps r c.each.nsecs.items c.keep_nsec.new.nsecs.items) c.if-branch.true c.in_ok-keep_nsec.ensures in
    record {
      one = r;
      place = sym (slice_get_read c.args.records.now _ c.each.index r refl c.each-test.true c.index-records-index.is);
      rtype = k.0;
      none = k.1;
      before = (c.each.nsecs.items, c.each.invariant);
    }

pub each-preserved : goal.each-preserved
each-preserved c =
    let r = c.index-records-index.result in
    nsecs_next c.args.records.now c.each.index r c.each.nsecs.items _ c.each-test.true c.index-records-index.is c.each.invariant
    (subst (Keeps r c.each.nsecs.items _) c.if-branch.false c.in_ok-keep_nsec.ensures)

pub returns : goal.returns
returns c = subst (λ (rs : List Record). AreNsecs (nsec_records rs) c.each.nsecs.items) (take_all c.each.index c.args.records.now (omega arith)) c.each.invariant

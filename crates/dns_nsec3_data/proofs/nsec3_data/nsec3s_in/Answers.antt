use Rattle.std.proofs.Common.{List, refl, subst, sym, arith}
use Rattle.std.proofs.lemmas.List.{take_all}
use Rattle.std.proofs.lemmas.Option.{slice_get_read}
use Rattle.dns_message.specs.declared.record.Record.{Record}
use Rattle.dns_denial.specs.Nsec3.{Hashing}
use Rattle.dns_nsec3_data.specs.Nsec3Data.{AreNsec3s, Keeps3, nsec3_records}
use Rattle.dns_nsec3_data.proofs.Nsec3Laws.{nsec3s_next}
use Rattle.dns_nsec3_data.proofs.nsec3_data.nsec3s_in.Goals as goal

pub returns-then-branch : goal.returns-then-branch
returns-then-branch c =
    let h : Hashing = record { salt = c.args.param.now.salt.now; iterations = c.args.param.now.iterations } in
    let r = c.index-records-index.result in
    let k = subst (Keeps3 c.args.apex.now h r c.each.nsecs.items c.keep_nsec3.new.nsecs.items) c.if-branch.true c.in_ok-keep_nsec3.ensures in
    record {
      hashing = h;
      is = c.requires;
      one = r;
      place = sym (slice_get_read c.args.records.now _ c.each.index r refl c.each-test.true c.index-records-index.is);
      rtype = k.0;
      none = k.1;
      before = (c.each.nsecs.items, c.each.invariant);
    }

pub each-preserved : goal.each-preserved
each-preserved c =
    let h : Hashing = record { salt = c.args.param.now.salt.now; iterations = c.args.param.now.iterations } in
    let r = c.index-records-index.result in
    nsec3s_next c.args.apex.now h c.args.records.now c.each.index r c.each.nsecs.items _ c.each-test.true c.index-records-index.is c.each.invariant
    (subst (Keeps3 c.args.apex.now h r c.each.nsecs.items _) c.if-branch.false c.in_ok-keep_nsec3.ensures)

pub returns : goal.returns
returns c =
    let h : Hashing = record { salt = c.args.param.now.salt.now; iterations = c.args.param.now.iterations } in
    subst (λ (rs : List Record). AreNsec3s c.args.apex.now h (nsec3_records rs) c.each.nsecs.items) (take_all c.each.index c.args.records.now (omega arith)) c.each.invariant

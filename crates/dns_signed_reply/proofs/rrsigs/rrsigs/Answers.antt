use Rattle.std.proofs.Common.{List, ◌++◌, ap, ◌∙◌, arith}
use Rattle.dns_message.specs.declared.record.Record.{Record}
use Rattle.dns_signed_reply.proofs.RrsigLaws.{ended, next, none_yet, rest}
use Rattle.dns_signed_reply.proofs.rrsigs.rrsigs.Goals as goal

pub each-init : goal.each-init
each-init c = ap (λ (l : List Record). l ++ rest c.args.zone.now c.args.records.now 0) c.new-found.ensures.items ∙ none_yet c.args.zone.now c.args.records.now

pub each-preserved : goal.each-preserved
each-preserved c =
    let r = c.index-records-place.result in
    next c.args.zone.now c.args.records.now c.each.place r _ c.each.found.items c.add_rrsigs.new.into.items c.each-test.true c.index-records-place.is (grind arith) c.each.invariant c.in_ok-add_rrsigs.ensures

pub returns : goal.returns
returns c = ended c.args.zone.now c.args.records.now c.each.place c.each.found.items (omega arith) c.each.invariant

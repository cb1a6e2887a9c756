use Rattle.std.proofs.Common.{sym, refl, take, drop, ◌-◌}
use Rattle.dns_name.proofs.Whole.{part_spelt}
use Rattle.dns_name.proofs.name.NameRef.at.Goals as goal

pub part-name-requires-clause-order : goal.part-name-requires-clause-order
part-name-requires-clause-order c = (part_spelt c.args.octets.now (take (c.in_ok-end.end - c.args.at) (drop c.args.at c.args.octets.now)) c.args.at c.in_ok-end.end (sym c.in_ok-end.ensures.value) refl).2

pub invariant_of-result : goal.invariant_of-result
invariant_of-result c = (part_spelt c.args.octets.now c.part-name.result.now c.args.at c.in_ok-end.end (sym c.in_ok-end.ensures.value) c.part-name.ensures).0

pub returns-clause-value : goal.returns-clause-value
returns-clause-value c = sym (part_spelt c.args.octets.now c.part-name.result.now c.args.at c.in_ok-end.end (sym c.in_ok-end.ensures.value) c.part-name.ensures).1

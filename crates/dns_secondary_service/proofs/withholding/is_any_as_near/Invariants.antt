use Rattle.std.proofs.Common.{◌≡◌, drop}
use Rattle.std.specs.List.{list_any}
use Rattle.dns_secondary_service.specs.Withheld.{is_as_near}
use Rattle.dns_secondary_service.proofs.withholding.is_any_as_near.Given as goal

abbrev pub invariant-loop-apex : goal.invariant-loop-apex
invariant-loop-apex l = list_any (is_as_near l.question.qname l.other) (drop l.apex-index l.served) ≡ list_any (is_as_near l.question.qname l.other) l.served

use Rattle.std.proofs.Common.{◌≡◌, drop}
use Rattle.std.specs.List.{list_any}
use Rattle.dns_secondary_service.specs.Withheld.{is_nearest}
use Rattle.dns_secondary_service.proofs.withholding.is_withheld.Given as goal

abbrev pub invariant-loop-apex : goal.invariant-loop-apex
invariant-loop-apex l = list_any (is_nearest l.served l.question.qname) (drop l.apex-index l.withheld) ≡ list_any (is_nearest l.served l.question.qname) l.withheld

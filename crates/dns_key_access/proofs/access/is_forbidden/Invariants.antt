use Rattle.std.proofs.Common.{◌≡◌, drop}
use Rattle.std.specs.List.{list_any}
use Rattle.dns_key_access.specs.Access.{forbids}
use Rattle.dns_key_access.proofs.access.is_forbidden.Given as goal

abbrev pub invariant-loop-zone : goal.invariant-loop-zone
invariant-loop-zone l = list_any (forbids l.question.qname l.asker) (drop l.zone-index l.zones) ≡ list_any (forbids l.question.qname l.asker) l.zones

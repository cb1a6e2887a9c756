use Rattle.std.proofs.Common.{◌≡◌, drop}
use Rattle.std.specs.List.{list_any}
use Rattle.dns_key_access.specs.Access.{permits}
use Rattle.dns_key_access.proofs.access.is_permitted.Given as goal

abbrev pub invariant-loop-access : goal.invariant-loop-access
invariant-loop-access l = list_any (permits l.asker) (drop l.access-index l.allowed) ≡ list_any (permits l.asker) l.allowed

use Rattle.std.proofs.Common.{◌≡◌, take, map, Some}
use Rattle.dns_key_access.specs.Rules.{access_in}
use Rattle.dns_key_access.proofs.rules.zone_access.Given as goal

abbrev pub invariant-rules : goal.invariant-rules
invariant-rules l = map (access_in l.keys) (take l.place l.rules) ≡ map Some l.made.items

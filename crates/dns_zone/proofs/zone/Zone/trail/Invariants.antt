use Rattle.std.proofs.Common.{ℕ, List}
use Rattle.dns_zone.specs.Found.{AreAliases}
use Rattle.dns_zone.proofs.AliasLaws.{OnTrail}
use Rattle.dns_zone.proofs.zone.Zone.trail.Given as goal

abbrev pub invariant-aliases : goal.invariant-aliases
invariant-aliases l = (name : List (List ℕ)) → AreAliases l.self name l.first → OnTrail l.self l.rtype name l._given l.trail.items l.next

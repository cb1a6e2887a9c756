use Rattle.std.proofs.Common.{◌≡◌, ℕ, ◌-◌, List, length}
use Rattle.std.specs.Prelude.{IsTrue}
use Rattle.dns_route.specs.Routes.{ends_name}
use Rattle.dns_zone.specs.Paths.{name_path}
use Rattle.dns_zone.proofs.CutLaws.{IsAlong}
use Rattle.dns_zone.proofs.zone.Zone.standing.Given as goal

abbrev pub invariant-labels : goal.invariant-labels
invariant-labels l = (name : List (List ℕ)) → l.path ≡ name_path name → IsTrue (ends_name name l.self.apex) → IsAlong l.self name l.path l.end

abbrev pub decreases-labels : goal.decreases-labels
decreases-labels l = length l.path - l.end

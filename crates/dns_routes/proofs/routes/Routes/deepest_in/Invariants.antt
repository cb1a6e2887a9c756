use Rattle.std.proofs.Common.{◌≡◌, ◌+◌, length, drop}
use Rattle.dns_routes.specs.Places.{name_key}
use Rattle.dns_routes.proofs.RouteLaws.{AllUnder, IsTail}
use Rattle.dns_routes.proofs.routes.Routes.deepest_in.Given as goal

abbrev pub invariant-suffixes : goal.invariant-suffixes
invariant-suffixes g l = record {
  tail : IsTail l.name l.left;
  octets : drop l.at l.octets ≡ name_key l.left;
  under : AllUnder (length l.left + 1) l.name l.self;
}

abbrev pub decreases-suffixes : goal.decreases-suffixes
decreases-suffixes g l = length l.left

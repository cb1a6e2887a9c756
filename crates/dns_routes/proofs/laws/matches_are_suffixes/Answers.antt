use Rattle.dns_routes.proofs.RouteLaws.{ends_exactly}
use Rattle.dns_routes.proofs.laws.matches_are_suffixes.Goals as goal

pub returns : goal.returns
returns c = ends_exactly

use Rattle.std.proofs.Common.{◌≡◌, true, rules}
use Rattle.dns_name.specs.Canonical.{same_name}
use Rattle.dns_denial.proofs.StandLaws.{stands_as}
use Rattle.dns_denial.proofs.standing.standing_behind.Goals as goal

pub returns-then-eq : goal.returns-then-eq
returns-then-eq c =
    let same : same_name c.args.before.now c.args.name.now ≡ true = search rules in
    stands_as c.args.zone.now c.args.before.now c.args.name.now c.args.standing same c.requires.stands

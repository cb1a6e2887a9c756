use Rattle.dns_zone_copies.proofs.Places.{place_found}
use Rattle.dns_zone_copies.proofs.before.Before.place_of.Goals as goal

pub returns-in_default : goal.returns-in_default
returns-in_default c = place_found c.args.self.now.zones.now c.args.entry.now c.first_of.result c.first_of.ensures

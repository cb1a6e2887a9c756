use Rattle.dns_hashed_zone.specs.HashedStates.{items_of}
use Rattle.dns_hashed_zone.proofs.MadeLaws.{kept_by}
use Rattle.dns_hashed_zone.proofs.hashed_zone.chained.Goals as goal

pub invariant_of-result : goal.invariant_of-result
invariant_of-result c =
    kept_by c.args.zone c.args.names.hashing c.args.names.chain c.args.hashed.items (items_of c.in-Ok.groups.items) c.args.count c.requires.zone c.requires.lawful c.requires.count c.in-Ok.ensures

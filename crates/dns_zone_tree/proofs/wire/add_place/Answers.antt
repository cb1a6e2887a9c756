use Rattle.dns_zone_tree.proofs.WireLaws.{add_no}
use Rattle.dns_zone_tree.proofs.wire.add_place.Goals as goal

pub returns-in-None : goal.returns-in-None
returns-in-None c = add_no c.args.records.now c.args.place c.args.into.now c.in-None.ensures

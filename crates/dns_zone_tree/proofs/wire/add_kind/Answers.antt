use Rattle.dns_zone_tree.proofs.WireLaws.{add_none}
use Rattle.dns_zone_tree.proofs.wire.add_kind.Goals as goal

pub push-requires : goal.push-requires
push-requires c = c.in-Some.ensures.lawful c.requires

pub returns-in-None : goal.returns-in-None
returns-in-None c = add_none c.args.records.now _ c.args.into.now c.in-None.ensures.value

use Rattle.dns_zone_tree.proofs.KeyOrder.{key_read, key_unread}
use Rattle.dns_zone_tree.proofs.names.key_of.Goals as goal

pub returns-in-Some : goal.returns-in-Some
returns-in-Some c = key_read c.args.octets.now c.args.span c.in-Some.key.now c.in-Some.ensures.lookup.0.0 c.in-Some.ensures.lookup.0.1 c.in-Some.ensures.lookup.0.2

pub returns-in-None : goal.returns-in-None
returns-in-None c = key_unread c.args.octets.now c.args.span c.in-None.ensures.lookup.0

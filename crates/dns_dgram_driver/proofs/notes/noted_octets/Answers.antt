use Rattle.dns_dgram_driver.proofs.EventHeads.{no_octets}
use Rattle.dns_dgram_driver.proofs.notes.noted_octets.Goals as goal

pub unreachable-requires : goal.unreachable-requires
unreachable-requires c = no_octets c.args.kind c.requires c.in_default.not-Datagram

use Rattle.std.proofs.Common.{◌≡◌, refl, sym}
use Rattle.dns_incoming.proofs.incoming.IncomingTransfer.add_limited.Goals as goal

pub returns-then-has_room : goal.returns-then-has_room
returns-then-has_room c = rw (sym c.has_room.ensures, c.if-has_room.true) c.keep.ensures

pub returns : goal.returns
returns c = rw (sym c.has_room.ensures, c.if-has_room.false) c.fail.ensures

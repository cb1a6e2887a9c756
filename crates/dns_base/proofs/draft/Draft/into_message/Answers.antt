use Rattle.std.proofs.Common.{arith, ap, length, length-drop}
use Rattle.dns_base.proofs.Pushed.{room}
use Rattle.dns_base.proofs.draft.Draft.into_message.Goals as goal

pub of-requires : goal.of-requires
of-requires c =
    let o = c.self.inside.octets.items in
    let r = room o c.self.inside.limit c.self.invariant.0 in
    omega (arith, r.0, ap length c.drop_length.ensures, length-drop 2 o)

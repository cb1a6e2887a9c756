use Rattle.std.proofs.Common.{◌-◌, arith, ap, length, length-drop, length-take, drop}
use Rattle.dns_base.proofs.Pushed.{room, draft_wire}
use Rattle.dns_base.proofs.draft.Draft.as_slice.Goals as goal

pub returns-clause-header : goal.returns-clause-header
returns-clause-header c =
    let r = room c.self.inside.octets.items c.self.inside.limit c.self.invariant.0 in
    let s = c.as_slice.result.now in
    omega (arith, r.0, ap length c.as_slice.ensures.value, length-drop 2 s, length-take (length s - 2) (drop 2 s))

pub returns-clause-lawful : goal.returns-clause-lawful
returns-clause-lawful c = (draft_wire c.self.inside.octets.items c.self.inside.limit c.args.self.now c.self.invariant.0 c.self.view_is).1

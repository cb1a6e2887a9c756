use Rattle.std.proofs.Common.{arith}
use Rattle.dns_base.proofs.Pushed.{room, header_done}
use Rattle.dns_base.proofs.Placed.{starts_headed}
use Rattle.dns_base.proofs.draft.Draft.set_header.Goals as goal

pub put_header-requires : goal.put_header-requires
put_header-requires c = let r = room c.self.inside.octets.items c.self.inside.limit c.self.invariant.0 in omega (arith, r.0)

pub invariant_of-self : goal.invariant_of-self
invariant_of-self c =
    let i = c.self.inside in
    let b = c.args.self.now in
    let o = c.put_header.new.octets.items in
    let k = header_done i.octets.items o i.limit b c.args.header c.self.invariant.0 c.self.view_is c.put_header.ensures.lawful c.put_header.ensures.header c.put_header.ensures.len in
    (k.0, starts_headed i.octets.items o i.limit b c.args.header i.starts c.self.invariant.0 c.self.view_is c.self.invariant.1 k.0 k.1)

pub returns : goal.returns
returns c =
    (header_done c.self.inside.octets.items c.put_header.new.octets.items c.self.inside.limit c.args.self.now c.args.header c.self.invariant.0 c.self.view_is
    c.put_header.ensures.lawful c.put_header.ensures.header c.put_header.ensures.len).1

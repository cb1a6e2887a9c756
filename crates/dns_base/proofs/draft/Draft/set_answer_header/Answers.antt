use Rattle.std.proofs.Common.{arith}
use Rattle.dns_base.specs.Built.{zero_header}
use Rattle.dns_base.specs.Header.{header_of}
use Rattle.dns_base.specs.Replies.{answer_header}
use Rattle.dns_base.proofs.Pushed.{room, header_done}
use Rattle.dns_base.proofs.Placed.{starts_headed}
use Rattle.dns_base.proofs.draft.Draft.set_answer_header.Goals as goal

pub put_answer_header-requires : goal.put_answer_header-requires
put_answer_header-requires c = let r = room c.self.inside.octets.items c.self.inside.limit c.self.invariant.0 in omega (arith, r.0)

pub invariant_of-self : goal.invariant_of-self
invariant_of-self c =
    let i = c.self.inside in
    let b = c.args.self.now in
    let o = c.put_answer_header.new.octets.items in
    let h = answer_header zero_header (header_of c.args.query.now) c.args.rcode in
    let e = rw c.as_slice.ensures.value at c.put_answer_header.ensures.header in
    let l = rw c.as_slice.ensures.value at c.put_answer_header.ensures.lawful in
    let k = header_done i.octets.items o i.limit b h c.self.invariant.0 c.self.view_is l e c.put_answer_header.ensures.len in
    (k.0, starts_headed i.octets.items o i.limit b h i.starts c.self.invariant.0 c.self.view_is c.self.invariant.1 k.0 k.1)

pub returns : goal.returns
returns c =
    let h = answer_header zero_header (header_of c.args.query.now) c.args.rcode in
    let e = rw c.as_slice.ensures.value at c.put_answer_header.ensures.header in
    let l = rw c.as_slice.ensures.value at c.put_answer_header.ensures.lawful in
    (header_done c.self.inside.octets.items c.put_answer_header.new.octets.items c.self.inside.limit c.args.self.now h c.self.invariant.0 c.self.view_is l e c.put_answer_header.ensures.len).1

use Rattle.std.proofs.Common.{arith, sym}
use Rattle.dns_base.specs.Built.{less_questions}
use Rattle.dns_base.proofs.Pushed.{room}
use Rattle.dns_base.proofs.Rewound.{rewound_questions}
use Rattle.dns_base.proofs.Placed.{starts_all}
use Rattle.dns_base.proofs.draft.Draft.rewind_questions.Goals as goal

pub cut-requires-clause-within : goal.cut-requires-clause-within
cut-requires-clause-within c = let r = room c.self.inside.octets.items c.self.inside.limit c.self.invariant.0 in omega (arith, r.0)

pub invariant_of-self : goal.invariant_of-self
invariant_of-self c =
    let i = c.self.inside in
    let b = c.args.self.now in
    let o = c.cut.new.octets.items in
    let r = c.requires in
    let k = rewound_questions i.octets.items o i.limit b c.self.invariant.0 c.self.view_is r c.cut.ensures.message c.cut.ensures.len in
    (k.0, starts_all o i.limit 12 (less_questions b) c.all-self-inside.result k.0 k.1 (record { answers = r.answers; authority = r.authority; additional = r.additional }) (sym c.cut.ensures.len) c.all-self-inside.ensures)

pub returns : goal.returns
returns c = (rewound_questions c.self.inside.octets.items c.cut.new.octets.items c.self.inside.limit c.args.self.now c.self.invariant.0 c.self.view_is c.requires c.cut.ensures.message c.cut.ensures.len).1

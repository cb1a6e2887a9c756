use Rattle.std.proofs.Common.{arith}
use Rattle.dns_base.proofs.Placed.{start_within, rewound_whole}
use Rattle.dns_base.proofs.draft.Draft.rewind.Goals as goal

pub cut-requires-clause-after : goal.cut-requires-clause-after
cut-requires-clause-after c =
    let i = c.self.inside in
    let p = start_within i.octets.items i.limit c.of-start.result c.args.self.now i.starts c.args.section c.self.invariant.0 c.self.view_is c.self.invariant.1 c.of-start.ensures.value in
    omega (arith, p.0, c.count_place.ensures.within)

pub cut-requires-clause-within : goal.cut-requires-clause-within
cut-requires-clause-within c =
    let i = c.self.inside in
    (start_within i.octets.items i.limit c.of-start.result c.args.self.now i.starts c.args.section c.self.invariant.0 c.self.view_is c.self.invariant.1 c.of-start.ensures.value).1

pub invariant_of-self : goal.invariant_of-self
invariant_of-self c =
    let i = c.self.inside in
    (rewound_whole i.octets.items c.cut.new.octets.items i.limit c.of-start.result c.count_place.result c.args.self.now c.args.section i.starts c.behind-self-inside.result c.self.invariant.0 c.self.view_is c.self.invariant.1 c.requires c.of-start.ensures.value c.count_place.ensures.value c.cut.ensures.message c.cut.ensures.len c.behind-self-inside.ensures).0

pub returns : goal.returns
returns c =
    let i = c.self.inside in
    (rewound_whole i.octets.items c.cut.new.octets.items i.limit c.of-start.result c.count_place.result c.args.self.now c.args.section i.starts c.behind-self-inside.result c.self.invariant.0 c.self.view_is c.self.invariant.1 c.requires c.of-start.ensures.value c.count_place.ensures.value c.cut.ensures.message c.cut.ensures.len c.behind-self-inside.ensures).1

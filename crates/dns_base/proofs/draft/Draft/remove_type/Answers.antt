use Rattle.std.proofs.Common.{[], drop, arith, sym, ◌∙◌, append-nil}
use Rattle.dns_base.specs.Wire.{wire}
use Rattle.dns_base.proofs.Pushed.{room, draft_wire}
use Rattle.dns_base.proofs.Replacing.{none_removed, removed, spelt_draft, start_late}
use Rattle.dns_base.proofs.Placed.{starts_removed}
use Rattle.dns_base.proofs.draft.Draft.remove_type.Goals as goal

pub returns-then-others : goal.returns-then-others
returns-then-others c = none_removed c.args.rtype c.args.self.now (sym c.others-others.ensures.kept ∙ (c.if-others.true ∙ c.others-others.ensures.count))

pub squeeze-requires-clause-header : goal.squeeze-requires-clause-header
squeeze-requires-clause-header c = let r = room c.self.inside.octets.items c.self.inside.limit c.self.invariant.0 in omega (arith, r.0)

pub squeeze-requires-clause-spelt : goal.squeeze-requires-clause-spelt
squeeze-requires-clause-spelt c =
    let i = c.self.inside in
    let b = c.args.self.now in
    let e = c.others-others.ensures in
    spelt_draft i.octets.items [] (drop 2 i.octets.items) i.limit b c.others-others.result.start c.others-others.result.count c.self.invariant.0 c.self.view_is e.start e.count
    ((draft_wire i.octets.items i.limit b c.self.invariant.0 c.self.view_is).0 ∙ sym (append-nil (wire b.message)))

pub squeeze-requires-clause-behind : goal.squeeze-requires-clause-behind
squeeze-requires-clause-behind c = start_late c.self.inside.octets.items c.self.inside.limit c.args.self.now c.others-others.result.start c.self.invariant.0 c.self.view_is c.others-others.ensures.start

pub invariant_of-self : goal.invariant_of-self
invariant_of-self c =
    let i = c.self.inside in
    let e = c.others-others.ensures in
    let r = c.others-others.result in
    let b = c.args.self.now in
    let o = c.squeeze.new.octets.items in
    let k = removed i.octets.items o i.limit b c.args.rtype r.start r.count r.kept c.self.invariant.0 c.self.view_is e.start e.count e.kept c.squeeze.ensures.message c.squeeze.ensures.framed in
    (k.0, starts_removed i.octets.items o i.limit b c.args.rtype i.starts c.self.invariant.0 c.self.view_is c.self.invariant.1 k.0 k.1)

pub returns : goal.returns
returns c =
    let i = c.self.inside in
    let e = c.others-others.ensures in
    let r = c.others-others.result in
    (removed i.octets.items c.squeeze.new.octets.items i.limit c.args.self.now c.args.rtype r.start r.count r.kept c.self.invariant.0 c.self.view_is e.start e.count e.kept c.squeeze.ensures.message c.squeeze.ensures.framed).1

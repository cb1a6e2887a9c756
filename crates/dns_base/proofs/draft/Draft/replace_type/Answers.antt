use Rattle.std.proofs.Common.{drop, ◌∙◌, refl, rules, arith, ap}
use Rattle.std.proofs.lemmas.Result.{err_from_is_err_and}
use Rattle.dns_base.specs.declared.draft.Section.TheVariants.{Additional}
use Rattle.dns_base.specs.Built.{with_record}
use Rattle.dns_base.specs.Replaced.{less_type}
use Rattle.dns_base.specs.Wire.{record_octets}
use Rattle.dns_base.proofs.Pushed.{viewed, longer, room_on, no_memory}
use Rattle.dns_base.proofs.Replacing.{others_fit, replaced_length, replaced, spelt_draft, start_late}
use Rattle.dns_base.proofs.Placed.{starts_replaced}
use Rattle.dns_base.proofs.draft.Draft.replace_type.Goals as goal

pub overflow_add-others : goal.overflow_add-others
overflow_add-others g c =
    let f = others_fit c.self.inside.octets.items c.self.inside.limit c.args.self.now c.args.rtype c.others-others.result.start c.self.invariant.0 c.self.view_is c.others-others.ensures.start in
    search (rules, f.0, c.others-others.ensures.size)

pub overflow_add-others-2 : goal.overflow_add-others-2
overflow_add-others-2 g c =
    let f = others_fit c.self.inside.octets.items c.self.inside.limit c.args.self.now c.args.rtype c.others-others.result.start c.self.invariant.0 c.self.view_is c.others-others.ensures.start in
    search (rules, f.0, c.others-others.ensures.size, c.record_len.ensures.short)

pub overflow_add-others-3 : goal.overflow_add-others-3
overflow_add-others-3 g c =
    let f = others_fit c.self.inside.octets.items c.self.inside.limit c.args.self.now c.args.rtype c.others-others.result.start c.self.invariant.0 c.self.view_is c.others-others.ensures.start in
    search (rules, f.1, c.others-others.ensures.kept)

pub returns-then-others-record_len : goal.returns-then-others-record_len
returns-then-others-record_len g c =
    let h = replaced_length c.self.inside.octets.items c.self.inside.limit c.args.self.now c.args.rtype c.others-others.result.start (g.R.ComposeRecord.resource c.args.added.now) c.self.invariant.0 c.self.view_is c.others-others.ensures.start in
    (refl, omega (arith, h.0, h.1, c.others-others.ensures.size, c.record_len.ensures.value, c.if-others-record_len.true))

pub squeeze-requires-clause-header : goal.squeeze-requires-clause-header
squeeze-requires-clause-header g c =
    let r = room_on c.self.inside.octets.items _ _ c.self.inside.limit c.args.self.now c.self.invariant.0 c.self.view_is c.in_ok-compose_record.ensures.ok in omega (arith, r.0)

pub squeeze-requires-clause-spelt : goal.squeeze-requires-clause-spelt
squeeze-requires-clause-spelt g c =
    let i = c.self.inside in
    let b = c.args.self.now in
    let e = c.others-others.ensures in
    let p = c.compose_record.new.target.items in
    spelt_draft i.octets.items (record_octets (g.R.ComposeRecord.resource c.args.added.now)) (drop 2 p) i.limit b c.others-others.result.start c.others-others.result.count c.self.invariant.0 c.self.view_is e.start e.count
    (longer i.octets.items p _ i.limit b c.self.invariant.0 c.self.view_is c.in_ok-compose_record.ensures.ok)

pub squeeze-requires-clause-behind : goal.squeeze-requires-clause-behind
squeeze-requires-clause-behind g c = start_late c.self.inside.octets.items c.self.inside.limit c.args.self.now c.others-others.result.start c.self.invariant.0 c.self.view_is c.others-others.ensures.start

pub returns-in_err-compose_record : goal.returns-in_err-compose_record
returns-in_err-compose_record g c =
    let h = replaced_length c.self.inside.octets.items c.self.inside.limit c.args.self.now c.args.rtype c.others-others.result.start (g.R.ComposeRecord.resource c.args.added.now) c.self.invariant.0 c.self.view_is c.others-others.ensures.start in
    let p = err_from_is_err_and c.from_residual.result c.from_residual.ensures.1 in
    no_memory _ _ (with_record Additional (less_type c.args.rtype c.args.self.now) (g.R.ComposeRecord.resource c.args.added.now)) c.from_residual.result p.0 p.1 p.2
    (ap (λ o. viewed o c.self.inside.limit) c.in_err-compose_record.ensures.err ∙ c.self.view_is) (omega (arith, h.0, h.1, c.others-others.ensures.size, c.record_len.ensures.value, c.if-others-record_len.false))

pub invariant_of-self-2 : goal.invariant_of-self-2
invariant_of-self-2 g c =
    let i = c.self.inside in
    let e = c.others-others.ensures in
    let r = c.others-others.result in
    let b = c.args.self.now in
    let o = c.squeeze.new.octets.items in
    let k = replaced i.octets.items c.compose_record.new.target.items o i.limit b c.args.rtype r.start r.count r.kept (g.R.ComposeRecord.resource c.args.added.now) c.self.invariant.0 c.self.view_is e.start e.count e.kept
    c.record_len.ensures.named c.in_ok-compose_record.ensures.ok (omega (arith, e.size, c.record_len.ensures.value, c.if-others-record_len.false)) c.squeeze.ensures.message c.squeeze.ensures.framed in
    (k.0, starts_replaced i.octets.items o i.limit b c.args.rtype (g.R.ComposeRecord.resource c.args.added.now) i.starts c.self.invariant.0 c.self.view_is c.self.invariant.1 k.0 k.1)

pub returns : goal.returns
returns g c =
    let i = c.self.inside in
    let e = c.others-others.ensures in
    let r = c.others-others.result in
    let h = replaced_length i.octets.items i.limit c.args.self.now c.args.rtype r.start (g.R.ComposeRecord.resource c.args.added.now) c.self.invariant.0 c.self.view_is e.start in (
      (replaced i.octets.items c.compose_record.new.target.items c.squeeze.new.octets.items i.limit c.args.self.now c.args.rtype r.start r.count r.kept (g.R.ComposeRecord.resource c.args.added.now) c.self.invariant.0 c.self.view_is e.start e.count e.kept
          c.record_len.ensures.named c.in_ok-compose_record.ensures.ok (omega (arith, e.size, c.record_len.ensures.value, c.if-others-record_len.false)) c.squeeze.ensures.message c.squeeze.ensures.framed).1,
      omega (arith, h.0, h.1, e.size, c.record_len.ensures.value, c.if-others-record_len.false),
    )

use Rattle.std.proofs.Common.{◌∙◌, refl, arith, ap, length, length-append}
use Rattle.std.proofs.lemmas.Result.{err_from_is_err_and}
use Rattle.dns_base.specs.Built.{with_question}
use Rattle.dns_base.proofs.Pushed.{viewed, room_on, question_grows, question_done, no_memory}
use Rattle.dns_base.proofs.Placed.{starts_all}
use Rattle.dns_base.proofs.draft.Draft.push_question.Goals as goal

pub returns-then-len-compose_len : goal.returns-then-len-compose_len
returns-then-len-compose_len g c =
    let k = question_grows c.self.inside.octets.items c.self.inside.limit c.args.self.now (g.Q.ComposeQuestion.asked c.args.question.now) c.self.invariant.0 c.self.view_is in
    (refl, omega (arith, k.0, k.1, c.len.ensures, c.compose_len.ensures.value))

pub returns-in_err-compose_question : goal.returns-in_err-compose_question
returns-in_err-compose_question g c =
    let k = question_grows c.self.inside.octets.items c.self.inside.limit c.args.self.now (g.Q.ComposeQuestion.asked c.args.question.now) c.self.invariant.0 c.self.view_is in
    let p = err_from_is_err_and c.from_residual.result c.from_residual.ensures.1 in
    no_memory _ _ (with_question c.args.self.now (g.Q.ComposeQuestion.asked c.args.question.now)) c.from_residual.result p.0 p.1 p.2
    (ap (λ o. viewed o c.self.inside.limit) c.in_err-compose_question.ensures.err ∙ c.self.view_is) (omega (arith, k.0, k.1, c.len.ensures, c.compose_len.ensures.value))

pub count_more-requires-clause-within : goal.count_more-requires-clause-within
count_more-requires-clause-within g c = let r = room_on c.self.inside.octets.items _ _ c.self.inside.limit c.args.self.now c.self.invariant.0 c.self.view_is c.in_ok-compose_question.ensures.ok in omega (arith, r.0)

pub count_more-requires-clause-few : goal.count_more-requires-clause-few
count_more-requires-clause-few g c = (room_on c.self.inside.octets.items _ _ c.self.inside.limit c.args.self.now c.self.invariant.0 c.self.view_is c.in_ok-compose_question.ensures.ok).1

pub overflow_sub-len-2 : goal.overflow_sub-len-2
overflow_sub-len-2 g c = let r = room_on c.self.inside.octets.items _ _ c.self.inside.limit c.args.self.now c.self.invariant.0 c.self.view_is c.in_ok-compose_question.ensures.ok in omega (arith, r.0, c.count_more.ensures.len, c.len-2.ensures)

pub invariant_of-self-2 : goal.invariant_of-self-2
invariant_of-self-2 g c =
    let i = c.self.inside in
    let b = c.args.self.now in
    let q = g.Q.ComposeQuestion.asked c.args.question.now in
    let o = c.count_more.new.octets.items in
    let r = room_on i.octets.items _ _ i.limit b c.self.invariant.0 c.self.view_is c.in_ok-compose_question.ensures.ok in
    let k = question_done i.octets.items c.compose_question.new.target.items o i.limit b q c.self.invariant.0 c.self.view_is c.compose_len.ensures.named c.requires
    c.in_ok-compose_question.ensures.ok c.count_more.ensures.message c.count_more.ensures.len (omega (arith, c.len.ensures, c.compose_len.ensures.value)) in (
      k.0,
      starts_all o i.limit _ (with_question b q) c.all-self-inside.result k.0 k.1 (record { answers = c.requires.answers; authority = c.requires.authority; additional = c.requires.additional })
          (omega (arith, r.0, c.count_more.ensures.len, c.len-2.ensures)) c.all-self-inside.ensures,
    )

pub returns : goal.returns
returns g c =
    let i = c.self.inside in
    let k = question_grows i.octets.items i.limit c.args.self.now (g.Q.ComposeQuestion.asked c.args.question.now) c.self.invariant.0 c.self.view_is in (
      (question_done i.octets.items c.compose_question.new.target.items c.count_more.new.octets.items i.limit c.args.self.now (g.Q.ComposeQuestion.asked c.args.question.now) c.self.invariant.0 c.self.view_is c.compose_len.ensures.named c.requires
          c.in_ok-compose_question.ensures.ok c.count_more.ensures.message c.count_more.ensures.len (omega (arith, c.len.ensures, c.compose_len.ensures.value))).1,
      omega (arith, k.0, k.1, c.len.ensures, c.compose_len.ensures.value),
    )

pub all-self-inside-requires : goal.all-self-inside-requires
all-self-inside-requires g c =
    omega (arith, c.len-2.ensures, c.count_more.ensures.len, simp length-append at (ap length c.in_ok-compose_question.ensures.ok), simp length-append at c.compose_len.ensures.value, c.len.ensures, c.if-len-compose_len.false, c.self.invariant.0.limited)

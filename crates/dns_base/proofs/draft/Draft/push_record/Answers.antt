use Rattle.std.proofs.Common.{◌≡◌, ◌+◌, ℕ, drop, ◌∙◌, refl, arith, ap, subst, length, length-append}
use Rattle.std.proofs.lemmas.Result.{err_from_is_err_and}
use Rattle.dns_base.specs.Built.{with_record}
use Rattle.dns_base.specs.Draft.{counted}
use Rattle.dns_base.specs.Sections.{field}
use Rattle.dns_base.proofs.Pushed.{viewed, room_on, count_room_on, record_grows, record_done, no_memory}
use Rattle.dns_base.proofs.Placed.{starts_pushed}
use Rattle.dns_base.proofs.draft.Draft.push_record.Goals as goal

pub returns-then-len-record_len : goal.returns-then-len-record_len
returns-then-len-record_len g c =
    let h = record_grows c.self.inside.octets.items c.self.inside.limit c.args.self.now c.args.section (g.R.ComposeRecord.resource c.args.added.now) c.self.invariant.0 c.self.view_is c.requires.last in
    (refl, omega (arith, h.0, h.1, c.len.ensures, c.record_len.ensures.value))

pub returns-in_err-compose_record : goal.returns-in_err-compose_record
returns-in_err-compose_record g c =
    let h = record_grows c.self.inside.octets.items c.self.inside.limit c.args.self.now c.args.section (g.R.ComposeRecord.resource c.args.added.now) c.self.invariant.0 c.self.view_is c.requires.last in
    let p = err_from_is_err_and c.from_residual.result c.from_residual.ensures.1 in
    no_memory _ _ (with_record c.args.section c.args.self.now (g.R.ComposeRecord.resource c.args.added.now)) c.from_residual.result p.0 p.1 p.2
    (ap (λ o. viewed o c.self.inside.limit) c.in_err-compose_record.ensures.err ∙ c.self.view_is) (omega (arith, h.0, h.1, c.len.ensures, c.record_len.ensures.value))

pub count_more-requires-clause-within : goal.count_more-requires-clause-within
count_more-requires-clause-within g c =
    let r = room_on c.self.inside.octets.items _ _ c.self.inside.limit c.args.self.now c.self.invariant.0 c.self.view_is c.in_ok-compose_record.ensures.ok in
    omega (arith, r.0, c.count_place.ensures.within)

pub count_more-requires-clause-few : goal.count_more-requires-clause-few
count_more-requires-clause-few g c =
    rw c.count_place.ensures.value (count_room_on c.self.inside.octets.items _ _ c.self.inside.limit c.args.self.now c.args.section c.self.invariant.0 c.self.view_is c.in_ok-compose_record.ensures.ok)

pub overflow_sub-end : goal.overflow_sub-end
overflow_sub-end g c =
    let r = room_on c.self.inside.octets.items _ _ c.self.inside.limit c.args.self.now c.self.invariant.0 c.self.view_is c.in_ok-compose_record.ensures.ok in
    omega (arith, r.0, c.count_more.ensures.len, c.len-end.ensures)

pub invariant_of-self-2 : goal.invariant_of-self-2
invariant_of-self-2 g c =
    let i = c.self.inside in
    let b = c.args.self.now in
    let s = c.args.section in
    let r = g.R.ComposeRecord.resource c.args.added.now in
    let o = c.count_more.new.octets.items in
    let m = room_on i.octets.items _ _ i.limit b c.self.invariant.0 c.self.view_is c.in_ok-compose_record.ensures.ok in
    let k = record_done i.octets.items c.compose_record.new.target.items o i.limit b s r c.self.invariant.0 c.self.view_is c.record_len.ensures.named c.requires.last
    c.in_ok-compose_record.ensures.ok (subst (λ (x : ℕ). drop 2 o ≡ counted x (field x (drop 2 c.compose_record.new.target.items) + 1) (drop 2 c.compose_record.new.target.items)) c.count_place.ensures.value c.count_more.ensures.message) c.count_more.ensures.len (omega (arith, c.len.ensures, c.record_len.ensures.value)) in (
      k.0,
      starts_pushed i.octets.items o i.limit _ b s r i.starts c.behind-self-inside.result c.self.invariant.0 c.self.view_is c.self.invariant.1 c.requires.last k.0 k.1
          (omega (arith, m.0, c.count_more.ensures.len, c.len-end.ensures)) c.behind-self-inside.ensures,
    )

pub returns : goal.returns
returns g c =
    let i = c.self.inside in
    let h = record_grows i.octets.items i.limit c.args.self.now c.args.section (g.R.ComposeRecord.resource c.args.added.now) c.self.invariant.0 c.self.view_is c.requires.last in (
      (record_done i.octets.items c.compose_record.new.target.items c.count_more.new.octets.items i.limit c.args.self.now c.args.section (g.R.ComposeRecord.resource c.args.added.now) c.self.invariant.0 c.self.view_is c.record_len.ensures.named c.requires.last
          c.in_ok-compose_record.ensures.ok (subst (λ (x : ℕ). drop 2 c.count_more.new.octets.items ≡ counted x (field x (drop 2 c.compose_record.new.target.items) + 1) (drop 2 c.compose_record.new.target.items)) c.count_place.ensures.value c.count_more.ensures.message) c.count_more.ensures.len (omega (arith, c.len.ensures, c.record_len.ensures.value))).1,
      omega (arith, h.0, h.1, c.len.ensures, c.record_len.ensures.value),
    )

pub behind-self-inside-requires : goal.behind-self-inside-requires
behind-self-inside-requires g c =
    omega (arith, c.len-end.ensures, c.count_more.ensures.len, simp length-append at (ap length c.in_ok-compose_record.ensures.ok), simp length-append at c.record_len.ensures.value, c.len.ensures, c.if-len-record_len.false, c.self.invariant.0.limited)

use Rattle.std.proofs.Common.{◌≡◌, ◌+◌, ◌-◌, ◌≤◌, ◌<◌, ℕ, length, drop, ◌∙◌, ◌++◌, refl, arith, ap, sym, subst, length-append}
use Rattle.std.proofs.lemmas.Result.{err_from_is_err_and}
use Rattle.dns_base.specs.Builds.{with_records}
use Rattle.dns_base.specs.Draft.{count_place, counted}
use Rattle.dns_base.specs.Replaced.{spelling}
use Rattle.dns_base.specs.Sections.{field}
use Rattle.dns_base.proofs.Pushed.{viewed, no_memory}
use Rattle.dns_base.proofs.RecordsInWireForm.{records_grow, counts_room, records_done, starts_appended}
use Rattle.dns_base.proofs.draft.Draft.push_records.Goals as goal

pub returns-then-len-as_slice : goal.returns-then-len-as_slice
returns-then-len-as_slice c =
    let h = records_grow c.self.inside.octets.items c.self.inside.limit c.args.self.now c.args.section c.args.added.now c.self.invariant.0 c.self.view_is c.requires in
    (refl, omega (arith, h.0, h.1, c.len.ensures, ap length c.as_slice.ensures.value, c.if-len-as_slice.true))

pub returns-in_err-extend_from_slice : goal.returns-in_err-extend_from_slice
returns-in_err-extend_from_slice c =
    let h = records_grow c.self.inside.octets.items c.self.inside.limit c.args.self.now c.args.section c.args.added.now c.self.invariant.0 c.self.view_is c.requires in
    let p = err_from_is_err_and c.from_residual.result c.from_residual.ensures.1 in
    no_memory _ _ (with_records c.args.section c.args.self.now c.args.added.now) c.from_residual.result p.0 p.1 p.2
    (ap (λ o. viewed o c.self.inside.limit) c.in_err-extend_from_slice.ensures.items ∙ c.self.view_is) (omega (arith, h.0, h.1, c.len.ensures, ap length c.as_slice.ensures.value, c.if-len-as_slice.false))

pub count_by-requires-clause-within : goal.count_by-requires-clause-within
count_by-requires-clause-within c =
    let r = counts_room c.self.inside.octets.items c.extend_from_slice.new.self.items c.self.inside.limit c.args.self.now c.args.section c.args.added.now c.self.invariant.0 c.self.view_is c.requires
    (c.in_ok-extend_from_slice.ensures.items ∙ ap (λ t. c.self.inside.octets.items ++ t) c.as_slice-2.ensures.value) (omega (arith, c.len.ensures, ap length c.as_slice.ensures.value, c.if-len-as_slice.false)) in
    omega (arith, r.0, c.count_place.ensures.within)

pub count_by-requires-clause-few : goal.count_by-requires-clause-few
count_by-requires-clause-few c =
    let r = counts_room c.self.inside.octets.items c.extend_from_slice.new.self.items c.self.inside.limit c.args.self.now c.args.section c.args.added.now c.self.invariant.0 c.self.view_is c.requires
    (c.in_ok-extend_from_slice.ensures.items ∙ ap (λ t. c.self.inside.octets.items ++ t) c.as_slice-2.ensures.value) (omega (arith, c.len.ensures, ap length c.as_slice.ensures.value, c.if-len-as_slice.false)) in
    rw (c.count_place.ensures.value, c.len-2.ensures) r.1

pub invariant_of-self-2 : goal.invariant_of-self-2
invariant_of-self-2 c =
    let i = c.self.inside in
    let b = c.args.self.now in
    let s = c.args.section in
    let rs = c.args.added.now in
    let o = c.count_by.new.octets.items in
    let p = c.extend_from_slice.new.self.items in
    let hp : p ≡ i.octets.items ++ spelling rs = c.in_ok-extend_from_slice.ensures.items ∙ ap (λ t. i.octets.items ++ t) c.as_slice-2.ensures.value in
    let f : length i.octets.items - 2 + length (spelling rs) ≤ i.limit = omega (arith, c.len.ensures, ap length c.as_slice.ensures.value, c.if-len-as_slice.false) in
    let m = counts_room i.octets.items p i.limit b s rs c.self.invariant.0 c.self.view_is c.requires hp f in
    let k = records_done i.octets.items p o i.limit b s rs c.self.invariant.0 c.self.view_is c.as_slice-2.ensures.named c.requires hp
    (subst (λ (x : ℕ × ℕ). drop 2 o ≡ counted x.0 (field x.0 (drop 2 p) + x.1) (drop 2 p)) (ap (λ x. (x, c.len-2.result)) c.count_place.ensures.value ∙ ap (λ x. (count_place s, x)) c.len-2.ensures) c.count_by.ensures.message) c.count_by.ensures.len f in (
      k.0,
      starts_appended i.octets.items o i.limit _ b s rs i.starts c.behind-self-inside.result c.self.invariant.0 c.self.view_is c.self.invariant.1 c.requires k.0 k.1
          (omega (arith, m.0, c.count_by.ensures.len, c.len-end.ensures)) c.behind-self-inside.ensures,
    )

pub returns : goal.returns
returns c =
    let i = c.self.inside in
    let b = c.args.self.now in
    let s = c.args.section in
    let rs = c.args.added.now in
    let o = c.count_by.new.octets.items in
    let p = c.extend_from_slice.new.self.items in
    let hp : p ≡ i.octets.items ++ spelling rs = c.in_ok-extend_from_slice.ensures.items ∙ ap (λ t. i.octets.items ++ t) c.as_slice-2.ensures.value in
    let f : length i.octets.items - 2 + length (spelling rs) ≤ i.limit = omega (arith, c.len.ensures, ap length c.as_slice.ensures.value, c.if-len-as_slice.false) in
    let h = records_grow i.octets.items i.limit b s rs c.self.invariant.0 c.self.view_is c.requires in
    let k = records_done i.octets.items p o i.limit b s rs c.self.invariant.0 c.self.view_is c.as_slice-2.ensures.named c.requires hp
    (subst (λ (x : ℕ × ℕ). drop 2 o ≡ counted x.0 (field x.0 (drop 2 p) + x.1) (drop 2 p)) (ap (λ x. (x, c.len-2.result)) c.count_place.ensures.value ∙ ap (λ x. (count_place s, x)) c.len-2.ensures) c.count_by.ensures.message) c.count_by.ensures.len f in
    (k.1, omega (arith, h.0, h.1, c.len.ensures, ap length c.as_slice.ensures.value, c.if-len-as_slice.false))

pub behind-self-inside-requires : goal.behind-self-inside-requires
behind-self-inside-requires c =
    omega (arith, c.len-end.ensures, c.count_by.ensures.len, simp length-append at (ap length c.in_ok-extend_from_slice.ensures.items), ap length c.as_slice-2.ensures.value, ap length c.as_slice.ensures.value, c.len.ensures, c.if-len-as_slice.false, c.self.invariant.0.limited)

use Rattle.std.proofs.Common.{◌≡◌, ◌∙◌, ◌<◌, ◌||◌, Bool, ap, arith, get_or, length, sym}
use Rattle.std.proofs.lemmas.List.{get_or_default}
use Rattle.dns_zone_copies.specs.Looking.{has_obsolete_copy}
use Rattle.dns_zone_copies.proofs.Looks.{any_more, discards_more}
use Rattle.dns_zone_copies.proofs.OneByOne.{Turn, turn}
use Rattle.dns_zone_copies.proofs.copies.discard_all.Goals as goal
use Rattle.dns_zone_copies.proofs.copies.discard_all.Goals.{then-any, else-any}

pub each-preserved : goal.each-preserved
each-preserved g c =
    let i = c.each.secondary-index in
    let xs = c.args.secondaries.now in
    let ys = c.each.secondaries in
    let x = get_or ys i c.secondary-item.result in
    let y = c.discard-lost.new.self in
    let lost = c.discard-lost.result in
    let lt : i < length ys = omega arith in
    let t : Turn xs ys i x y = turn xs ys i x y lt (omega arith) (get_or_default ys i c.secondary-item.result x lt) c.each.invariant.rest in
    let flag : c.if-any.any ≡ (c.each.any || lost) = elim c.if-any.branch [
      | then-any w ↦ w.any-is ∙ (w.if-any.true ∙ sym (ap (λ (z : Bool). z || lost) w.if-any.true))
      | else-any w ↦ w.any-is ∙ sym (ap (λ (z : Bool). z || lost) w.if-any.false)
    ] in
    record {
      any = any_more (has_obsolete_copy c.args.now) xs ys i x y c.each.any lost c.if-any.any t flag c.each.invariant.any c.discard-lost.ensures.obsolete;
      done = discards_more c.args.now xs ys i x y t c.discard-lost.ensures.copy c.each.invariant.done;
      rest = t.rest;
    }

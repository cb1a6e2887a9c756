use Rattle.std.proofs.Common.{◌≡◌, ◌∙◌, ◌<◌, ◌||◌, Bool, ap, arith, get_or, length, sym}
use Rattle.std.proofs.lemmas.List.{get_or_default}
use Rattle.dns_zone_copies.proofs.Looks.{looks_more}
use Rattle.dns_zone_copies.proofs.OneByOne.{Turn, turn}
use Rattle.dns_zone_copies.proofs.copies.look_at_all.Goals as goal
use Rattle.dns_zone_copies.proofs.copies.look_at_all.Goals.{then-changed, else-changed}

pub each-preserved : goal.each-preserved
each-preserved g c =
    let i = c.each.secondary-index in
    let xs = c.args.secondaries.now in
    let ys = c.each.secondaries in
    let x = get_or ys i c.secondary-item.result in
    let y = c.look-looked.new.self in
    let looked = c.look-looked.result in
    let lt : i < length ys = omega arith in
    let t : Turn xs ys i x y = turn xs ys i x y lt (omega arith) (get_or_default ys i c.secondary-item.result x lt) c.each.invariant.rest in
    let flag : c.if-changed.changed ≡ (c.each.changed || looked) = elim c.if-changed.branch [
      | then-changed w ↦ w.changed-is ∙ (w.if-changed.true ∙ sym (ap (λ (z : Bool). z || looked) w.if-changed.true))
      | else-changed w ↦ w.changed-is ∙ sym (ap (λ (z : Bool). z || looked) w.if-changed.false)
    ] in
    record {
      looked = looks_more c.args.now xs ys i x y c.each.changed looked c.if-changed.changed t flag c.each.invariant.looked c.look-looked.ensures;
      rest = t.rest;
    }

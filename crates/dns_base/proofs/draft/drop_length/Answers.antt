-- The octets after the first two, moved to the front, and then cut.
use Rattle.std.proofs.Common.{rules, ap, ◌∙◌, ◌-◌, ◌+◌, ◌≡◌, length, take, drop, arith, length-drop, take_all}
use lib.Seq.{paste}
use Rattle.std.proofs.lemmas.List.{with_items_is, places}
use Rattle.std.proofs.lemmas.List.Edits.{take-paste}
use Rattle.dns_base.proofs.draft.drop_length.Goals as goal

pub returns : goal.returns
returns c =
    let all = c.as_mut_slice.result.now in
    let left = c.len-len.result - 2 in
    let long : length all ≡ c.len-len.result = search rules in
    let same : left ≡ 0 + left = omega arith in
    let size : length (drop 2 all) ≡ left = omega (arith, length-drop 2 all) in
    let moved = with_items_is c.args.octets.now c.copy_within.new.self (search (rules, places)) ∙ c.copy_within.ensures.after in
    let kept = take-paste all 0 (drop 2 all) left (omega arith) (omega arith) ∙ take_all left (drop 2 all) (omega arith) in
    c.truncate.ensures.items ∙ (ap (take left) moved ∙ (ap (λ k. take k (paste all 0 (drop 2 all) left)) same ∙ (kept ∙ ap (drop 2) c.as_mut_slice.ensures.value)))

use Rattle.std.proofs.Common.{◌≡◌, ℕ, List, [], ◌∷◌, true, false, nat_eq, ap, sym, subst, ◌∙◌, arith}
use Rattle.std.proofs.lemmas.Bool.Decides.{nat_tests}
use Rattle.dns_base.specs.Records.{data_type}
use Rattle.dns_zone_tree.proofs.KeptLaws.{on_ok}
use Rattle.dns_signed_reply.specs.SignedReplies.{led_to}
use Rattle.dns_hashed_reply.specs.Choices.{AddsFor, inside}
use Rattle.dns_hashed_reply.proofs.ChoiceLaws.{for_none, target_alias, target_nowhere, target_other}
use Rattle.dns_hashed_reply.proofs.denials.add_target.Goals as goal

pub returns-in-Some : goal.returns-in-Some
returns-in-Some c =
    let s = c.args.zone.now in
    let t = c.args.rtype in
    let r = c.args.alias.now in
    let d : data_type r.rdata ≡ c.to_int.result = sym (c.to_int.ensures.value ∙ c.rtype.ensures) in
    let k : nat_eq (data_type r.rdata) 5 ≡ true = grind (arith, nat_tests) in
    let l : c.for_ref.result ∷ [] ≡ led_to r = ap (λ (n : List (List ℕ)). n ∷ []) c.for_ref.ensures.value ∙ target_alias r c.in-Some.name.now k c.in-Some.ensures in
    on_ok c.add_inside.result c.add_inside.ensures (λ e. subst (λ (x : List (List (List ℕ))). AddsFor s t (inside s x) c.args.chosen.now c.add_inside.new.chosen) l e)

pub returns-in-None : goal.returns-in-None
returns-in-None c =
    let s = c.args.zone.now in
    let t = c.args.rtype in
    let r = c.args.alias.now in
    let old = c.args.chosen.now in
    let d : data_type r.rdata ≡ c.to_int.result = sym (c.to_int.ensures.value ∙ c.rtype.ensures) in
    let k : nat_eq (data_type r.rdata) 5 ≡ true = grind (arith, nat_tests) in
    subst (λ (x : List (List (List ℕ))). AddsFor s t (inside s x) old old) (target_nowhere r k c.in-None.ensures) (for_none s t old)

pub returns-then-to_int-ne-CNAME : goal.returns-then-to_int-ne-CNAME
returns-then-to_int-ne-CNAME c =
    let s = c.args.zone.now in
    let t = c.args.rtype in
    let r = c.args.alias.now in
    let old = c.args.chosen.now in
    let d : data_type r.rdata ≡ c.to_int.result = sym (c.to_int.ensures.value ∙ c.rtype.ensures) in
    let k : nat_eq (data_type r.rdata) 5 ≡ false = grind (arith, nat_tests) in
    subst (λ (x : List (List (List ℕ))). AddsFor s t (inside s x) old old) (target_other r k) (for_none s t old)

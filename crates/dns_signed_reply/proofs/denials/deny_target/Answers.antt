use Rattle.std.proofs.Common.{◌≡◌, ℕ, List, [], ◌∷◌, true, false, nat_eq, ap, sym, ◌∙◌, arith}
use Rattle.std.proofs.lemmas.Bool.Decides.{nat_tests}
use Rattle.dns_base.specs.Records.{data_type}
use Rattle.dns_zone_tree.proofs.KeptLaws.{on_ok}
use Rattle.dns_signed_reply.specs.PlainReplies.{nsecs_inside}
use Rattle.dns_signed_reply.specs.SignedReplies.{led_to, nsec_records_of}
use Rattle.dns_signed_reply.proofs.NearLaws.{led_alias, led_nowhere, led_other}
use Rattle.dns_signed_reply.proofs.denials.deny_target.Goals as goal

pub returns-in-Some : goal.returns-in-Some
returns-in-Some c =
    let s = c.args.zone.now in
    let t = c.args.rtype in
    let r = c.args.alias.now in
    let d : data_type r.rdata ≡ c.to_int.result = sym (c.to_int.ensures.value ∙ c.rtype.ensures) in
    let k : nat_eq (data_type r.rdata) 5 ≡ true = grind (arith, nat_tests) in
    let l : c.for_ref.result ∷ [] ≡ led_to r = ap (λ (n : List (List ℕ)). n ∷ []) c.for_ref.ensures.value ∙ led_alias s t r c.in-Some.name.now k c.in-Some.ensures in
    on_ok c.deny_inside.result c.deny_inside.ensures (λ e. e ∙ ap (λ (x : List (List (List ℕ))). nsec_records_of s.zone c.args.into.now.items (nsecs_inside s t x)) l)

pub returns-in-None : goal.returns-in-None
returns-in-None c =
    let s = c.args.zone.now in
    let t = c.args.rtype in
    let r = c.args.alias.now in
    let d : data_type r.rdata ≡ c.to_int.result = sym (c.to_int.ensures.value ∙ c.rtype.ensures) in
    let k : nat_eq (data_type r.rdata) 5 ≡ true = grind (arith, nat_tests) in
    ap (λ (x : List (List (List ℕ))). nsec_records_of s.zone c.args.into.now.items (nsecs_inside s t x)) (led_nowhere s t r k c.in-None.ensures)

pub returns-then-to_int-ne-CNAME : goal.returns-then-to_int-ne-CNAME
returns-then-to_int-ne-CNAME c =
    let s = c.args.zone.now in
    let t = c.args.rtype in
    let r = c.args.alias.now in
    let d : data_type r.rdata ≡ c.to_int.result = sym (c.to_int.ensures.value ∙ c.rtype.ensures) in
    let k : nat_eq (data_type r.rdata) 5 ≡ false = grind (arith, nat_tests) in
    ap (λ (x : List (List (List ℕ))). nsec_records_of s.zone c.args.into.now.items (nsecs_inside s t x)) (led_other s t r k)

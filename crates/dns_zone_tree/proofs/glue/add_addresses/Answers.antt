use Rattle.std.proofs.Common.{◌≡◌, ℕ, List, nat_eq, ap, ◌∙◌}
use Rattle.std.specs.Prelude.{◌||◌}
use Rattle.std.specs.BTreeSet.{contains}
use Rattle.std.specs.List.{list_any}
use Rattle.std.specs.Ordering.{nat_cmp}
use Rattle.dns_zone_tree.specs.Kinds.{kind_places, places_of}
use Rattle.dns_zone_tree.proofs.KeptLaws.{on_ok}
use Rattle.dns_zone_tree.proofs.glue.add_addresses.Goals as goal

pub returns : goal.returns
returns c =
    let m = c.args.kinds.now in
    let one : places_of c.to_int.result c.as_slice.result.now ≡ kind_places 1 m = ap (λ (t : ℕ). places_of t c.as_slice.result.now) c.to_int.ensures.value ∙ ap (places_of 1) c.as_slice.ensures in
    let two : places_of c.to_int-2.result c.as_slice-2.result.now ≡ kind_places 28 m = ap (λ (t : ℕ). places_of t c.as_slice-2.result.now) c.to_int-2.ensures.value ∙ ap (places_of 28) c.as_slice-2.ensures in
    on_ok c.add_all-2.result c.add_all-2.ensures
    (λ f i. f i ∙ (λ j. (c.in_ok-add_all.ensures i ∙ ap (λ (is : List ℕ). contains nat_cmp c.args.set.now i || list_any (nat_eq i) is) one) j || list_any (nat_eq i) (two j)))

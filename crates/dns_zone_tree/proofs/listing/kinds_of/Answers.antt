use Rattle.std.proofs.Common.{◌≡◌, ℕ, List, ap, ◌∙◌}
use Rattle.dns_order.specs.Keys.{canonical_key}
use Rattle.dns_zone_tree.specs.Kinds.{kind_places, places_in, places_of}
use Rattle.dns_zone_tree.specs.Nodes.{kinds_under, places_under}
use Rattle.dns_zone_tree.specs.declared.kinds.TypedPlace.{TypedPlace}
use Rattle.dns_zone_tree.proofs.KeptLaws.{if_ok}
use Rattle.dns_zone_tree.proofs.listing.kinds_of.Goals as goal

pub returns-in-Some : goal.returns-in-Some
returns-in-Some c =
    let names = c.args.names.now in
    let o : c.as_slice.result.now ≡ canonical_key c.args.name.now = c.as_slice.ensures.value ∙ (c.in_ok-key.ensures ∙ ap canonical_key c.for_ref.ensures.value) in
    if_ok (λ m. m.places.items ≡ c.in-Some.kinds.now.places.items) (λ m. (t : ℕ) → kind_places t m ≡ places_under names (canonical_key c.args.name.now) t) c.try_clone.result c.try_clone.ensures
    (λ m f t. ap (λ (ks : List TypedPlace). places_of t ks) f ∙ ap (places_in t) (c.in-Some.ensures ∙ ap (kinds_under names) o))

pub returns : goal.returns
returns c = λ t.
    let names = c.args.names.now in
    let o : c.as_slice.result.now ≡ canonical_key c.args.name.now = c.as_slice.ensures.value ∙ (c.in_ok-key.ensures ∙ ap canonical_key c.for_ref.ensures.value) in
    ap (λ (ks : List TypedPlace). places_of t ks) c.new.ensures ∙ ap (places_in t) (c.in-None.ensures ∙ ap (kinds_under names) o)

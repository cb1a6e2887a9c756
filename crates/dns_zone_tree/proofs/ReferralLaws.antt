-- Referrals that are made with a zone.
use Rattle.std.proofs.Common.{◌≡◌, ℕ, ◌+◌, ◌<◌, ◌≤◌, List, [], ◌∷◌, ◌++◌, length, take, take_all, get_or, sym, subst, ◌∙◌}
use Rattle.std.specs.List.{AllByRecursion}
use Rattle.std.proofs.lemmas.List.{take_more}
use Rattle.dns_zone.specs.Owned.{ZoneState}
use Rattle.dns_zone_tree.specs.Kinds.{kind_places, places_of}
use Rattle.dns_zone_tree.specs.Referrals.{AreReferrals, IsReferral}
use Rattle.dns_zone_tree.specs.declared.kinds.Kinds.{Kinds}
use Rattle.dns_zone_tree.specs.declared.kinds.TypedPlace.{TypedPlace}
use Rattle.dns_zone_tree.specs.declared.referrals.Referral.{Referral}

all_more : {A : Type 0} (P : A → Type 0) (xs : List A) (x : A) → AllByRecursion P xs → P x → AllByRecursion P (xs ++ x ∷ [])
all_more P [] x h p = (p, tt)
all_more P (y ∷ ys) x h p = (h.0, all_more P ys x h.1 p)

-- one more
pub referred_more : (z : ZoneState) (rs : List Referral) (k : Referral) (m : Kinds) → AreReferrals z rs → IsReferral z (kind_places 2 m) k → k.cut.places.items ≡ m.places.items → AreReferrals z (rs ++ k ∷ [])
referred_more z rs k m h w e =
    all_more (λ (r : Referral). IsReferral z (kind_places 2 r.cut) r) rs k h (subst (λ (ks : List TypedPlace). IsReferral z (places_of 2 ks) k) (sym e) w)

-- places that are the same so far
pub same_more : (xs ys : List TypedPlace) (i : ℕ) (d e : TypedPlace) → i < length xs → i < length ys → take i xs ≡ take i ys → get_or xs i d ≡ get_or ys i e → take (i + 1) xs ≡ take (i + 1) ys
same_more xs ys i d e h k t g = take_more xs i d h ∙ ((λ j. t j ++ g j ∷ []) ∙ sym (take_more ys i e k))

pub same_all : (xs ys : List TypedPlace) (i : ℕ) → length xs ≤ i → length ys ≤ i → take i xs ≡ take i ys → xs ≡ ys
same_all xs ys i h k t = sym (take_all i xs h) ∙ (t ∙ take_all i ys k)

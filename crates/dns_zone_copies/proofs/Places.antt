-- Where a secondary of an entry stands.
use Rattle.std.proofs.Common.{◌≡◌, ◌<◌, ℕ, Bool, true, List, [], ◌∷◌, length, get_or, Option, Some, None, subst, sym}
use Rattle.std.specs.List.{position}
use Rattle.std.proofs.lemmas.List.Quantifiers.{position-Some}
use Rattle.dns_config.specs.declared.config.ZoneEntry.{ZoneEntry}
use Rattle.dns_zone_copies.specs.Following.{IsKnown, IsPlaceOf, is_its}
use Rattle.dns_zone_copies.specs.Secondaries.{SecondaryState}

position_within : {X : Type 0} (p : X → Bool) (xs : List X) (i : ℕ) → position p xs ≡ Some i → i < length xs
position_within p [] i e = cc
position_within p (x ∷ xs) i e = (position-Some p (x ∷ xs) i x e).0

pub place_found : (zones : List SecondaryState) (entry : ZoneEntry) (o : Option ℕ) → o ≡ position (is_its entry) zones → IsPlaceOf zones entry o
place_found zones entry None e = sym e
place_found zones entry (Some i) e =
    (position_within (is_its entry) zones i (sym e), λ d. (position-Some (is_its entry) zones i d (sym e)).1)

pub known_at : (zones : List SecondaryState) (entry : ZoneEntry) (i : ℕ) (s : SecondaryState) → IsPlaceOf zones entry (Some i) → s ≡ get_or zones i s → IsKnown zones entry (Some s)
known_at zones entry i s h is = ((i, h.0, sym is), subst (λ (z : SecondaryState). is_its entry z ≡ true) (sym is) (h.1 s))

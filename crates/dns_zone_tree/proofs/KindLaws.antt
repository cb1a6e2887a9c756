-- Places with types: how they join, one more, and whether there is one of a type.
use Rattle.std.proofs.Common.{◌≡◌, Bor, ℕ, ◌+◌, ◌<◌, Bool, true, false, List, [], ◌∷◌, ◌++◌, length, map, take, drop, get_or, cond, refl, ap, sym, ◌∙◌, arith}
use Rattle.std.specs.Prelude.{◌||◌, IfSome, MatchBool, MatchOption, Option, Some, None}
use Rattle.std.specs.List.{cons_option, count_by, filter, list_any, slice_get}
use Rattle.std.specs.Option.{option_copied}
use Rattle.std.proofs.lemmas.List.{drop_more, length-map, take_more}
use Rattle.std.proofs.lemmas.List.Sums.{length-filter}
use Rattle.dns_base.specs.Records.{IsLawful}
use Rattle.dns_message.specs.declared.record.Record.{Record}
use Rattle.dns_zone.specs.Owned.{AreLawful}
use Rattle.dns_zone.specs.Places.{at_places}
use Rattle.dns_zone.proofs.BuildLaws.{lawful_at}
use Rattle.dns_zone_tree.specs.Kinds.{is_kind, places_of}
use Rattle.dns_zone_tree.specs.declared.kinds.TypedPlace.{TypedPlace}

abbrev place_of : TypedPlace → ℕ
place_of k = k.place

join_step : (b : Bool) (x : TypedPlace) (ks zs : List TypedPlace) (is : List ℕ) → map place_of ks ≡ map place_of zs ++ is → map place_of (cond b (x ∷ ks) ks) ≡ map place_of (cond b (x ∷ zs) zs) ++ is
join_step true x ks zs is h = ap (λ (l : List ℕ). x.place ∷ l) h
join_step false x ks zs is h = h

pub places_join : (t : ℕ) (xs ys : List TypedPlace) → places_of t (xs ++ ys) ≡ places_of t xs ++ places_of t ys
places_join t [] ys = refl
places_join t (x ∷ xs) ys = join_step (is_kind t x) x (filter (is_kind t) (xs ++ ys)) (filter (is_kind t) xs) (places_of t ys) (places_join t xs ys)

-- in loops
pub places_ahead : (t : ℕ) (ks : List TypedPlace) (i : ℕ) (d : TypedPlace) → i < length ks → places_of t (drop i ks) ≡ places_of t (get_or ks i d ∷ []) ++ places_of t (drop (i + 1) ks)
places_ahead t ks i d h = ap (places_of t) (drop_more ks i d h) ∙ places_join t (get_or ks i d ∷ []) (drop (i + 1) ks)

pub places_next : (t : ℕ) (ks : List TypedPlace) (i : ℕ) (d : TypedPlace) → i < length ks → places_of t (take (i + 1) ks) ≡ places_of t (take i ks) ++ places_of t (get_or ks i d ∷ [])
places_next t ks i d h = ap (places_of t) (take_more ks i d h) ∙ places_join t (take i ks) (get_or ks i d ∷ [])

-- one place, if it is of a type or not
pub one_place : (t : ℕ) (k : TypedPlace) → is_kind t k ≡ true → places_of t (k ∷ []) ≡ k.place ∷ []
one_place t k e = ap (λ (b : Bool). map place_of (cond b (k ∷ []) [])) e

pub no_place : (t : ℕ) (k : TypedPlace) → is_kind t k ≡ false → places_of t (k ∷ []) ≡ []
no_place t k e = ap (λ (b : Bool). map place_of (cond b (k ∷ []) [])) e

-- ---- whether there is one

some_step : (b c : Bool) (k : TypedPlace) (ks : List TypedPlace) → (c ≡ true → 0 < length (map place_of ks)) → (b || c) ≡ true → 0 < length (map place_of (cond b (k ∷ ks) ks))
some_step true c k ks ih h = omega arith
some_step false c k ks ih h = ih h

kinds_some : (t : ℕ) (ks : List TypedPlace) → list_any (is_kind t) ks ≡ true → 0 < length (places_of t ks)
kinds_some t [] h = absurd (cc)
kinds_some t (k ∷ ks) h = some_step (is_kind t k) (list_any (is_kind t) ks) k (filter (is_kind t) ks) (kinds_some t ks) h

none_step : (b c : Bool) (k : TypedPlace) (ks : List TypedPlace) → (c ≡ false → map place_of ks ≡ []) → (b || c) ≡ false → map place_of (cond b (k ∷ ks) ks) ≡ []
none_step true c k ks ih h = absurd (cc)
none_step false c k ks ih h = ih h

kinds_none : (t : ℕ) (ks : List TypedPlace) → list_any (is_kind t) ks ≡ false → places_of t ks ≡ []
kinds_none t [] h = refl
kinds_none t (k ∷ ks) h = none_step (is_kind t k) (list_any (is_kind t) ks) k (filter (is_kind t) ks) (kinds_none t ks) h

pub kinds_any : (t : ℕ) (ks : List TypedPlace) (b : Bool) → b ≡ list_any (is_kind t) ks → MatchBool b (0 < length (places_of t ks)) (places_of t ks ≡ [])
kinds_any t ks true e = kinds_some t ks (sym e)
kinds_any t ks false e = kinds_none t ks (sym e)

pub kinds_count : (t : ℕ) (ks : List TypedPlace) → count_by (is_kind t) ks ≡ length (places_of t ks)
kinds_count t ks = sym (length-filter (is_kind t) ks) ∙ sym (length-map (filter (is_kind t) ks) place_of)

-- what a test that was passed says, or one that wasn't
pub at_true : (P Q : Type 0) (b : Bool) → MatchBool b P Q → b ≡ true → P
at_true P Q true h e = h
at_true P Q false h e = absurd (cc)

pub at_false : (P Q : Type 0) (b : Bool) → MatchBool b P Q → b ≡ false → Q
at_false P Q true h e = absurd (cc)
at_false P Q false h e = h

-- ---- the record at a place

pub record_got : (rs : List Record) (is : List ℕ) (p : ℕ) (o : Option (Bor Record)) → is ≡ p ∷ [] → option_copied o ≡ slice_get rs p → MatchOption o (at_places rs is ≡ []) (λ r. at_places rs is ≡ r.now ∷ [])
record_got rs is p None e f = ap (at_places rs) e ∙ ap (λ (x : Option Record). cons_option x []) (sym f)
record_got rs is p (Some r) e f = ap (at_places rs) e ∙ ap (λ (x : Option Record). cons_option x []) (sym f)

pub record_lawful : (rs : List Record) (p : ℕ) (o : Option (Bor Record)) → option_copied o ≡ slice_get rs p → AreLawful rs → IfSome o (λ r. IsLawful r.now.rdata)
record_lawful rs p None e h = tt
record_lawful rs p (Some r) e h = lawful_at rs p r.now h (sym e)

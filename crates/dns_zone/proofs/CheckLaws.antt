-- The first record that passes a test, how many do, and what a list is refused for.
use Rattle.std.proofs.Common.{◌≡◌, ℕ, ◌+◌, ◌<◌, Bool, true, false, List, [], ◌∷◌, length, map, drop, cond, get_or, Some, None, refl, ap, sym, ◌∙◌, arith}
use Rattle.std.specs.Prelude.{◌&&◌, nat_lt}
use Rattle.std.specs.List.{filter, position, position_from}
use Rattle.std.proofs.lemmas.List.{at_drop_more, at_drop_all, nil_from_length}
use Rattle.std.proofs.lemmas.Iterator.Adapters.{position_from-zero}
use Rattle.std.proofs.lemmas.List.Elements.{filter_agree}
use Rattle.dns_message.specs.declared.record.Record.{Record}
use Rattle.dns_zone.specs.declared.name_places.NamePlaces.{NamePlaces}
use Rattle.dns_zone.specs.ZoneIndex.{KnowsPlaces, places_under}
use Rattle.dns_zone.specs.Owned.{is_asked, is_of, is_owned}
use Rattle.dns_zone.specs.Paths.{name_path}
use Rattle.dns_zone.specs.ZoneErrors.{is_crowded}
use Rattle.dns_zone.proofs.KeepLaws.{places_asked}
use Rattle.dns_zone.proofs.PlaceLaws.{places_count}

-- ---- the first that passes

module _ (p : Record → Bool) (xs : List Record) where
  one_more : (i : ℕ) (x : Record) → i < length xs → x ≡ get_or xs i x → (b : Bool) → p x ≡ b → position_from p i (drop i xs) ≡ cond b (Some i) (position_from p (i + 1) (drop (i + 1) xs))
  one_more i x h e b t = at_drop_more (position_from p i) xs i x h ∙ ap (λ c. cond c (Some i) (position_from p (i + 1) (drop (i + 1) xs))) (ap p (sym e) ∙ t)

  pub found_first : (i : ℕ) (x : Record) → i < length xs → x ≡ get_or xs i x → position_from p i (drop i xs) ≡ position_from p 0 xs → p x ≡ true → Some i ≡ position p xs
  found_first i x h e s t = sym (one_more i x h e true t) ∙ (s ∙ sym (position_from-zero p xs))

  pub passed_by : (i : ℕ) (x : Record) → i < length xs → x ≡ get_or xs i x → position_from p i (drop i xs) ≡ position_from p 0 xs → p x ≡ false → position_from p (i + 1) (drop (i + 1) xs) ≡ position_from p 0 xs
  passed_by i x h e s t = sym (one_more i x h e false t) ∙ s

  pub found_none : (i : ℕ) → length xs ≡ i → position_from p i (drop i xs) ≡ position_from p 0 xs → None ≡ position p xs
  found_none i n s = sym (at_drop_all (position_from p i) xs i (omega (arith, n))) ∙ (s ∙ sym (position_from-zero p xs))

  -- ---- how many pass

  rest_filtered : (i : ℕ) (x : Record) → i < length xs → x ≡ get_or xs i x → (b : Bool) → p x ≡ b → filter p (drop i xs) ≡ cond b (x ∷ filter p (drop (i + 1) xs)) (filter p (drop (i + 1) xs))
  rest_filtered i x h e b t =
      at_drop_more (filter p) xs i x h ∙ (ap (λ y. cond (p y) (y ∷ filter p (drop (i + 1) xs)) (filter p (drop (i + 1) xs))) (sym e) ∙ ap (λ c. cond c (x ∷ filter p (drop (i + 1) xs)) (filter p (drop (i + 1) xs))) t)

  pub rest_with : (i : ℕ) (x : Record) → i < length xs → x ≡ get_or xs i x → p x ≡ true → filter p (drop i xs) ≡ x ∷ filter p (drop (i + 1) xs)
  rest_with i x h e t = rest_filtered i x h e true t

  pub rest_without : (i : ℕ) (x : Record) → i < length xs → x ≡ get_or xs i x → p x ≡ false → filter p (drop i xs) ≡ filter p (drop (i + 1) xs)
  rest_without i x h e t = rest_filtered i x h e false t

  pub rest_none : (i : ℕ) → length xs ≡ i → filter p (drop i xs) ≡ []
  rest_none i n = at_drop_all (filter p) xs i (omega (arith, n))

-- the one that passes
pub only_one : {Y : Type 0} (f : Record → Y) (x : Record) (xs all : List Record) → x ∷ xs ≡ all → length all ≡ 1 → map f all ≡ f x ∷ []
only_one f x xs all e n =
    let k : length xs ≡ 0 = omega (arith, ap length e, n) in
    ap (map f) (sym e) ∙ ap (λ l. f x ∷ map f l) (nil_from_length xs k)

-- ---- owners with another record

-- a CNAME is crowded if more than one place is kept for its owner
pub crowded_by : (n : NamePlaces) (rs : List Record) (r : Record) (o : List ℕ) → KnowsPlaces n rs → o ≡ name_path r.owner → is_of 5 r ≡ true → is_crowded rs r ≡ nat_lt 1 (length (places_under n o 255))
crowded_by n rs r o k e t =
    let same : (s : Record) → is_asked r.owner 255 s ≡ is_owned r.owner s = λ s. and_true (is_owned r.owner s) in
    ap (λ b. b && nat_lt 1 (length (filter (is_owned r.owner) rs))) t
    ∙ ap (λ i. nat_lt 1 i) (sym (ap length (places_asked n rs o r.owner 255 k e) ∙ (places_count (is_asked r.owner 255) rs ∙ ap length (filter_agree (is_asked r.owner 255) (is_owned r.owner) same rs))))
  where
    and_true : (b : Bool) → (b && true) ≡ b
    and_true true = refl
    and_true false = refl

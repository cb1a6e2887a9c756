-- RRSIGs, record by record.
use Rattle.std.proofs.Common.{◌≡◌, ℕ, ◌+◌, ◌<◌, ◌≤◌, Bool, true, false, List, [], ◌∷◌, ◌++◌, length, map, take, drop, get_or, refl, ap, sym, ◌∙◌, append_assoc, append-nil}
use Rattle.std.specs.Prelude.{◌||◌, if◌then◌else◌}
use Rattle.std.specs.List.{filter, list_any}
use Rattle.std.proofs.lemmas.List.{drop_all, drop_more, take_more}
use Rattle.dns_base.specs.Records.{data_type}
use Rattle.dns_message.specs.declared.record.Record.{Record}
use Rattle.dns_zone.specs.Owned.{ZoneState}
use Rattle.dns_zone_tree.specs.Wildcards.{had_records}
use Rattle.dns_denial.specs.Signed.{is_beside, is_signature}
use Rattle.dns_signed_reply.specs.SignedReplies.{have_signatures, reached_records, rrsigs, rrsigs_of, timed}

-- ---- what was seen, the last first

unfoldable pub back : List Record → List Record → List Record
back [] seen = seen
back (x ∷ xs) seen = back xs (x ∷ seen)

or_swap : (a b c : Bool) → (b || (a || c)) ≡ ((a || b) || c)
or_swap true true c = refl
or_swap true false c = refl
or_swap false b c = refl

or_false : (b : Bool) → (b || false) ≡ b
or_false true = refl
or_false false = refl

back_push : (xs : List Record) (r : Record) (seen : List Record) → back (xs ++ r ∷ []) seen ≡ r ∷ back xs seen
unfolding back
back_push [] r seen = refl
back_push (x ∷ xs) r seen = back_push xs r (x ∷ seen)

pub any_back : (p : Record → Bool) (xs seen : List Record) → list_any p (back xs seen) ≡ (list_any p xs || list_any p seen)
unfolding back
any_back p [] seen = refl
any_back p (x ∷ xs) seen = any_back p xs (x ∷ seen) ∙ or_swap (p x) (list_any p xs) (list_any p seen)

any_seen : (p : Record → Bool) (xs : List Record) → list_any p (back xs []) ≡ list_any p xs
any_seen p xs = any_back p xs [] ∙ or_false (list_any p xs)

-- ---- those of the records from a place on

module _ (z : ZoneState) (all : List Record) where
  pub rest : ℕ → List Record
  rest i = rrsigs z all (back (take i all) []) (drop i all)

  pub none_yet : rest 0 ≡ rrsigs z all [] all
  unfolding rest back
  none_yet = refl

  one_of : ℕ → Record → List Record
  one_of i r = if list_any (is_beside r) (take i all) then [] else rrsigs_of z all r

  rest_more : (i : ℕ) (r : Record) → i < length all → r ≡ get_or all i r → rest i ≡ one_of i r ++ rest (i + 1)
  unfolding rest one_of
  rest_more i r h q =
      let seen = back (take i all) [] in
      let d : drop i all ≡ r ∷ drop (i + 1) all = drop_more all i r h ∙ ap (λ (x : Record). x ∷ drop (i + 1) all) (sym q) in
      let s : r ∷ seen ≡ back (take (i + 1) all) [] = sym (ap (λ (l : List Record). back l []) (take_more all i r h ∙ ap (λ (x : Record). take i all ++ x ∷ []) (sym q)) ∙ back_push (take i all) r []) in
      ap (rrsigs z all seen) d
      ∙ (λ j. (if any_seen (is_beside r) (take i all) j then [] else rrsigs_of z all r) ++ rrsigs z all (s j) (drop (i + 1) all))

  pub next : (i : ℕ) (r : Record) (seen now new : List Record) → i < length all → r ≡ get_or all i r → seen ≡ take i all → now ++ rest i ≡ rrsigs z all [] all →
      new ≡ now ++ (if list_any (is_beside r) seen then [] else rrsigs_of z all r) → new ++ rest (i + 1) ≡ rrsigs z all [] all
  unfolding one_of
  next i r seen now new h q s inv g =
      let e : new ≡ now ++ one_of i r = g ∙ ap (λ (l : List Record). now ++ (if list_any (is_beside r) l then [] else rrsigs_of z all r)) s in
      ap (λ (l : List Record). l ++ rest (i + 1)) e
      ∙ (append_assoc now (one_of i r) (rest (i + 1)) ∙ (ap (λ (l : List Record). now ++ l) (sym (rest_more i r h q)) ∙ inv))

  pub ended : (i : ℕ) (now : List Record) → length all ≤ i → now ++ rest i ≡ rrsigs z all [] all → now ≡ rrsigs z all [] all
  unfolding rest
  ended i now h inv = sym (append-nil now) ∙ (ap (λ (l : List Record). now ++ rrsigs z all (back (take i all) []) l) (sym (drop_all i all h)) ∙ inv)

-- ---- one record's

module _ (z : ZoneState) (all seen : List Record) (r : Record) (old : List Record) where
  pub was_seen : list_any (is_beside r) seen ≡ true → old ≡ old ++ (if list_any (is_beside r) seen then [] else rrsigs_of z all r)
  was_seen e = sym (append-nil old) ∙ ap (λ (b : Bool). old ++ (if b then [] else rrsigs_of z all r)) (sym e)

  of_signed : have_signatures all r.owner ≡ true → rrsigs_of z all r ≡ []
  of_signed e = ap (λ (b : Bool). if b then [] else map (timed r) (filter (is_signature (data_type r.rdata)) (reached_records z r.owner (had_records z r.owner 46)))) e

  pub of_unsigned : have_signatures all r.owner ≡ false → rrsigs_of z all r ≡ map (timed r) (filter (is_signature (data_type r.rdata)) (reached_records z r.owner (had_records z r.owner 46)))
  of_unsigned e = ap (λ (b : Bool). if b then [] else map (timed r) (filter (is_signature (data_type r.rdata)) (reached_records z r.owner (had_records z r.owner 46)))) e

  first_one : (rs : List Record) → list_any (is_beside r) seen ≡ false → rrsigs_of z all r ≡ rs → (if list_any (is_beside r) seen then [] else rrsigs_of z all r) ≡ rs
  first_one rs e g = ap (λ (b : Bool). if b then [] else rrsigs_of z all r) e ∙ g

  pub was_signed : list_any (is_beside r) seen ≡ false → have_signatures all r.owner ≡ true → old ≡ old ++ (if list_any (is_beside r) seen then [] else rrsigs_of z all r)
  was_signed e h = sym (append-nil old) ∙ ap (λ (l : List Record). old ++ l) (sym (first_one [] e (of_signed h)))

  pub is_signed : (new : List Record) → list_any (is_beside r) seen ≡ false → have_signatures all r.owner ≡ false → new ≡ old ++ map (timed r) (filter (is_signature (data_type r.rdata)) (reached_records z r.owner (had_records z r.owner 46))) →
      new ≡ old ++ (if list_any (is_beside r) seen then [] else rrsigs_of z all r)
  is_signed new e h g = g ∙ ap (λ (l : List Record). old ++ l) (sym (first_one (map (timed r) (filter (is_signature (data_type r.rdata)) (reached_records z r.owner (had_records z r.owner 46)))) e (of_unsigned h)))

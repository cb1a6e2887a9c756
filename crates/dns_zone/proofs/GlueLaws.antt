-- The addresses of hosts, as a set of places.
use Rattle.std.proofs.Common.{◌≡◌, ℕ, zero, suc, ◌+◌, ◌<◌, Bool, true, false, List, [], ◌∷◌, ◌++◌, length, take, cond, get_or, nat_eq, Option, Some, None, refl, ap, sym, ◌∙◌}
use Rattle.std.specs.Prelude.{◌||◌, ◌&&◌}
use Rattle.std.specs.BTreeSet.{BTreeSet, IsOrdered, contains}
use Rattle.std.specs.Cmp.{nat_cmp_total, nat_eq_equiv, unsigned_ties}
use Rattle.std.specs.List.{list_any, slice_get}
use Rattle.std.specs.Ordering.{eq_by_cmp, is_eq, nat_cmp}
use Rattle.std.proofs.lemmas.List.{take_more}
use Rattle.std.proofs.lemmas.List.Folds.{list_any-append, list_any_more}
use Rattle.std.proofs.lemmas.List.Elements.{filter_map-append}
use Rattle.std.proofs.lemmas.Map.Lookups.{btree_set_from_contains, exact_unsigned}
use Rattle.dns_message.specs.declared.record.Record.{Record}
use Rattle.dns_zone.specs.Cuts.{glue, is_address_at, is_address_of, is_glue}
use Rattle.dns_zone.specs.Owned.{ZoneState, is_asked, is_of, is_owned, target}
use Rattle.dns_zone.specs.Places.{at_places, passes, places}
use Rattle.dns_zone.proofs.PlaceLaws.{at_places_of, is_place, places_ascend}

or_assoc : (a b c : Bool) → ((a || b) || c) ≡ (a || (b || c))
or_assoc true b c = refl
or_assoc false b c = refl

-- ---- tests of the record at a place

pub passes_agree : (p q : Record → Bool) → ((r : Record) → p r ≡ q r) → (o : Option Record) → passes p o ≡ passes q o
passes_agree p q e None = refl
passes_agree p q e (Some r) = e r

pub passes_either : (p q : Record → Bool) (o : Option Record) → passes (λ r. p r || q r) o ≡ (passes p o || passes q o)
passes_either p q None = refl
passes_either p q (Some r) = refl

pub passes_none : (o : Option Record) → passes (λ r. false) o ≡ false
passes_none None = refl
passes_none (Some r) = refl

-- an address is of one of two types
and_either : (a b c : Bool) → ((a && b) || (a && c)) ≡ (a && (b || c))
and_either true b c = refl
and_either false b c = refl

pub address_of : (host : List (List ℕ)) (o : Option Record) → (passes (is_asked host 1) o || passes (is_asked host 28) o) ≡ passes (is_address_of host) o
address_of host None = refl
address_of host (Some r) = and_either (is_owned host r) (is_of 1 r) (is_of 28 r)

-- ---- servers, one after another

pub glue_more : (rs : List Record) (is : List ℕ) (i : ℕ) (o : Option Record) → passes (is_glue (at_places rs (is ++ i ∷ []))) o ≡ (passes (is_glue (at_places rs is)) o || passes (is_glue (at_places rs (i ∷ []))) o)
glue_more rs is i o =
    let e : at_places rs (is ++ i ∷ []) ≡ at_places rs is ++ at_places rs (i ∷ []) = filter_map-append (slice_get rs) is (i ∷ []) in
    passes_agree (is_glue (at_places rs (is ++ i ∷ []))) (λ r. is_glue (at_places rs is) r || is_glue (at_places rs (i ∷ [])) r)
    (λ r. ap (list_any (λ (s : Record). is_address_at (target s.rdata) r)) e ∙ list_any-append (λ (s : Record). is_address_at (target s.rdata) r) (at_places rs is) (at_places rs (i ∷ []))) o
    ∙ passes_either (is_glue (at_places rs is)) (is_glue (at_places rs (i ∷ []))) o

-- ---- the set as a list

any_tied : (i : ℕ) (ks : List ℕ) → list_any (eq_by_cmp nat_cmp i) ks ≡ list_any (nat_eq i) ks
any_tied i [] = refl
any_tied i (k ∷ ks) = ap (λ b. b || list_any (eq_by_cmp nat_cmp i) ks) (sym (unsigned_ties i k)) ∙ ap (λ b. nat_eq i k || b) (any_tied i ks)

-- places in order are those of the records that pass a test, if they are as a set
pub in_order : (s : BTreeSet ℕ) (p : Record → Bool) (rs : List Record) → IsOrdered nat_cmp s → ((i : ℕ) → contains nat_cmp s i ≡ passes p (slice_get rs i)) → s.keys ≡ places p rs
in_order s p rs o h =
    btree_set_from_contains nat_cmp_total s (record { keys = places p rs }) o (places_ascend p rs) (λ i. h i ∙ (sym (is_place p rs i) ∙ sym (any_tied i (places p rs)))) exact_unsigned

pub glue_of : (z : ZoneState) (s : BTreeSet ℕ) (is : List ℕ) → IsOrdered nat_cmp s → ((i : ℕ) → contains nat_cmp s i ≡ passes (is_glue (at_places z.records is)) (slice_get z.records i)) → at_places z.records s.keys ≡ glue z (at_places z.records is)
glue_of z s is o h = ap (at_places z.records) (in_order s (is_glue (at_places z.records is)) z.records o h) ∙ at_places_of (is_glue (at_places z.records is)) z.records

-- ---- places that are added to a set

tied : (k i : ℕ) → is_eq (nat_cmp k i) ≡ nat_eq i k
tied k i = sym (unsigned_ties k i) ∙ nat_eq_equiv.symm k i

added : (b old : Bool) → cond b true old ≡ (old || b)
added true true = refl
added true false = refl
added false true = refl
added false false = refl

pub set_more : (new old a : Bool) (i k j : ℕ) (xs : List ℕ) → new ≡ cond (is_eq (nat_cmp k i)) true old → old ≡ (a || list_any (nat_eq i) (take j xs)) → j < length xs → k ≡ get_or xs j 0 → new ≡ (a || list_any (nat_eq i) (take (j + 1) xs))
set_more new old a i k j xs n o h e =
    n
    ∙ (ap (λ b. cond b true old) (tied k i)
    ∙ (added (nat_eq i k) old
    ∙ (ap (λ b. b || nat_eq i k) o
    ∙ (or_assoc a (list_any (nat_eq i) (take j xs)) (nat_eq i k)
    ∙ (ap (λ x. a || (list_any (nat_eq i) (take j xs) || nat_eq i x)) e ∙ ap (λ b. a || b) (sym (list_any_more (nat_eq i) xs j 0 h)))))))

pub none_passes : (p : Record → Bool) (rs : List Record) (i : ℕ) → list_any p rs ≡ false → passes p (slice_get rs i) ≡ false
none_passes p [] i h = refl
none_passes p (r ∷ rs) zero h = first_false (p r) (list_any p rs) h
  where
    first_false : (a b : Bool) → (a || b) ≡ false → a ≡ false
    first_false true b h = h
    first_false false b h = refl
none_passes p (r ∷ rs) (suc i) h = none_passes p rs i (second_false (p r) (list_any p rs) h)
  where
    second_false : (a b : Bool) → (a || b) ≡ false → b ≡ false
    second_false true b h = absurd (cc)
    second_false false b h = h

pub or_none : (a b : Bool) → b ≡ false → a ≡ (a || b)
or_none true b h = refl
or_none false b h = sym h

-- both types of addresses
pub host_added : (new mid old : Bool) (host : List (List ℕ)) (o : Option Record) → new ≡ (mid || passes (is_asked host 28) o) → mid ≡ (old || passes (is_asked host 1) o) → new ≡ (old || passes (is_address_of host) o)
host_added new mid old host o e f =
    e ∙ (ap (λ b. b || passes (is_asked host 28) o) f ∙ (or_assoc old (passes (is_asked host 1) o) (passes (is_asked host 28) o) ∙ ap (λ b. old || b) (address_of host o)))

-- one server more
pub server_added : (rs : List Record) (servers : List ℕ) (j i : ℕ) (new old : Bool) → j < length servers → new ≡ (old || passes (is_glue (at_places rs (get_or servers j 0 ∷ []))) (slice_get rs i)) → old ≡ passes (is_glue (at_places rs (take j servers))) (slice_get rs i) → new ≡ passes (is_glue (at_places rs (take (j + 1) servers))) (slice_get rs i)
server_added rs servers j i new old h e f =
    e
    ∙ (ap (λ b. b || passes (is_glue (at_places rs (get_or servers j 0 ∷ []))) (slice_get rs i)) f
    ∙ (sym (glue_more rs (take j servers) (get_or servers j 0) (slice_get rs i)) ∙ ap (λ l. passes (is_glue (at_places rs l)) (slice_get rs i)) (sym (take_more servers j 0 h))))

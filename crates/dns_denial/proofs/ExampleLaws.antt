-- The example's chain is whole.
use Rattle.std.proofs.Common.{◌≡◌, ℕ, zero, suc, ◌≤◌, ◌<◌, Bool, true, false, List, [], ◌∷◌, length, nat_eq, codes, refl, ap, sym, subst, ◌∙◌, arith, inl, inr}
use Rattle.std.specs.Prelude.{◌&&◌, ◌||◌, ◌⊎◌, None}
use Rattle.std.specs.Cmp.{both_ways}
use Rattle.std.specs.List.{Contains, list_any}
use Rattle.std.specs.Str.{bytes_eq}
use Rattle.std.proofs.lemmas.Bool.{true≢false, and_parts}
use Rattle.std.proofs.lemmas.Bool.Decides.{nat_tests}
use Rattle.sha1.specs.Sha1.{first_words, schedule, rounds, compress, hash_after, digest_bytes, sha1}
use Rattle.dns_name.specs.Canonical.{same_name}
use Rattle.dns_message.specs.declared.record.Record.{Record}
use Rattle.dns_order.specs.Keys.{canonical_key}
use Rattle.dns_route.specs.Routes.{ends_name}
use Rattle.dns_zone.specs.Owned.{ZoneState}
use Rattle.dns_zone.specs.ZoneReply.{exists}
use Rattle.dns_zone_tree.specs.TreeErrors.{tree_error}
use Rattle.dns_denial.specs.Chains.{IsDeniable, has_type, is_below_cut}
use Rattle.dns_denial.specs.ExampleChain.{ExampleChainIsWhole, apex_hash, apex_name, example_chain, example_hashing, example_zone, host_hash, host_name}
use Rattle.dns_denial.specs.Nsec3.{IsChained3, Nsec3State, exists_firmly, has, hash_of, is_firm, is_matched, matches3, spans}
use Rattle.dns_denial.proofs.ListLaws.{found, present}
use Rattle.dns_denial.proofs.NameLaws.{ends_cons, ends_short, ends_whole, same_back}
use Rattle.dns_denial.proofs.ProvableLaws.{same_hashes}
use Rattle.dns_denial.proofs.SameLaws.{type_as}

-- ---- the hashes

apex_hashed : hash_of example_hashing apex_name ≡ apex_hash
unfolding first_words schedule rounds compress hash_after digest_bytes sha1 hash_of
apex_hashed = refl

host_hashed : hash_of example_hashing host_name ≡ host_hash
unfolding first_words schedule rounds compress hash_after digest_bytes sha1 hash_of
host_hashed = refl

hash_apex : (name : List (List ℕ)) → same_name name apex_name ≡ true → hash_of example_hashing name ≡ apex_hash
hash_apex name e = same_hashes example_hashing name apex_name e ∙ apex_hashed

hash_host : (name : List (List ℕ)) → same_name name host_name ≡ true → hash_of example_hashing name ≡ host_hash
hash_host name e = same_hashes example_hashing name host_name e ∙ host_hashed

-- ---- the names

abbrev Either : List (List ℕ) → Type 0
Either name = (same_name name apex_name ≡ true) ⊎ (same_name name host_name ≡ true)

module _ (name : List (List ℕ)) (i : ends_name name apex_name ≡ true) where
  above_apex : ends_name apex_name name ≡ true → same_name name apex_name ≡ true
  above_apex e = ends_whole name apex_name i (omega (arith, ends_short name apex_name i, ends_short apex_name name e))

  above_host : ends_name host_name name ≡ true → Either name
  above_host e = by_cons (ends_cons (codes "ns1") apex_name name e)
    where
      by_cons : (same_name host_name name ≡ true) ⊎ (ends_name apex_name name ≡ true) → Either name
      by_cons (inl k) = inr (same_back host_name name k)
      by_cons (inr k) = inl (above_apex k)

  above_owner : (r : Record) → Contains example_zone.records r → ends_name r.owner name ≡ true → Either name
  above_owner r (zero, l, q) e = inl (above_apex (ap (λ (s : Record). ends_name s.owner name) q ∙ e))
  above_owner r (suc zero, l, q) e = inl (above_apex (ap (λ (s : Record). ends_name s.owner name) q ∙ e))
  above_owner r (suc (suc zero), l, q) e = above_host (ap (λ (s : Record). ends_name s.owner name) q ∙ e)
  above_owner r (suc (suc (suc k)), l, q) e = absurd (omega arith)

  -- one that exists is the apex or the host
  either : exists example_zone name ≡ true → Either name
  either x =
      let f = found (λ (r : Record). ends_name r.owner name) example_zone.records x in
      above_owner f.one f.there f.passes

matched : (name : List (List ℕ)) → Either name → is_matched example_hashing example_chain name ≡ true
matched name (inl e) = ap (λ (o : List ℕ). list_any (λ (n : Nsec3State). bytes_eq n.hash o) example_chain) (hash_apex name e)
matched name (inr e) = ap (λ (o : List ℕ). list_any (λ (n : Nsec3State). bytes_eq n.hash o) example_chain) (hash_host name e)

firm_exists : (name : List (List ℕ)) → exists_firmly example_zone name ≡ true → exists example_zone name ≡ true
firm_exists name x =
    let f = found (λ (r : Record). ends_name r.owner name && is_firm example_zone r) example_zone.records x in
    present (λ (r : Record). ends_name r.owner name) example_zone.records f.one f.there (and_parts (ends_name f.one.owner name) (is_firm example_zone f.one) f.passes).0

-- ---- the NSEC3s

abbrev apex_nsec3 : Nsec3State
apex_nsec3 = record { hash = apex_hash; opt_out = false; next = host_hash; types = 2 ∷ 6 ∷ [] }

abbrev host_nsec3 : Nsec3State
host_nsec3 = record { hash = host_hash; opt_out = false; next = apex_hash; types = 1 ∷ [] }

-- what holds of the two holds of each
each : (P : Nsec3State → Type 0) → P apex_nsec3 → P host_nsec3 → (n : Nsec3State) → Contains example_chain n → P n
each P a b n (zero, l, q) = subst P q a
each P a b n (suc zero, l, q) = subst P q b
each P a b n (suc (suc k), l, q) = absurd (omega arith)

abbrev Owed : Nsec3State → Type 0
Owed n = (name : List (List ℕ)) × (ends_name name apex_name ≡ true) × (exists example_zone name ≡ true) × (is_below_cut example_zone name ≡ false) × (matches3 example_hashing name n ≡ true)

owed : (n : Nsec3State) → Contains example_chain n → Owed n
owed = each Owed (apex_name, refl, refl, refl, ap (bytes_eq apex_hash) apex_hashed) (host_name, refl, refl, refl, ap (bytes_eq host_hash) host_hashed)

next : (n : Nsec3State) → Contains example_chain n → list_any (λ (m : Nsec3State). bytes_eq m.hash n.next) example_chain ≡ true
next = each (λ (n : Nsec3State). list_any (λ (m : Nsec3State). bytes_eq m.hash n.next) example_chain ≡ true) refl refl

gap : (n m : Nsec3State) → Contains example_chain n → Contains example_chain m → spans m.hash n ≡ false
gap n m c d =
    each (λ (x : Nsec3State). spans m.hash x ≡ false)
    (each (λ (y : Nsec3State). spans y.hash apex_nsec3 ≡ false) refl refl m d)
    (each (λ (y : Nsec3State). spans y.hash host_nsec3 ≡ false) refl refl m d) n c

-- ---- their types

eq_back : (a b : ℕ) → nat_eq a b ≡ nat_eq b a
eq_back a b = both_ways (nat_eq a b) (nat_eq b a) (λ k. turned a b k) (λ k. turned b a k)
  where
    turned : (c d : ℕ) → nat_eq c d ≡ true → nat_eq d c ≡ true
    turned c d k = grind (arith, nat_tests)

two_types : (p q : Bool) → (p || (q || false)) ≡ ((q || (p || false)) && true)
two_types true true = refl
two_types true false = refl
two_types false true = refl
two_types false false = refl

one_type : (p : Bool) → (p || false) ≡ ((p || false) && true)
one_type true = refl
one_type false = refl

apex_types : (t : ℕ) → has apex_nsec3 t ≡ has_type example_zone apex_name t
apex_types t =
    two_types (nat_eq t 2) (nat_eq t 6)
    ∙ (ap (λ (x : Bool). (x || (nat_eq t 2 || false)) && true) (eq_back t 6) ∙ ap (λ (x : Bool). (nat_eq 6 t || (x || false)) && true) (eq_back t 2))

host_types : (t : ℕ) → has host_nsec3 t ≡ has_type example_zone host_name t
host_types t = one_type (nat_eq t 1) ∙ ap (λ (x : Bool). (x || false) && true) (eq_back t 1)

type_same : (a b : List (List ℕ)) (t : ℕ) → same_name a b ≡ true → has_type example_zone a t ≡ has_type example_zone b t
type_same a b t e = both_ways (has_type example_zone a t) (has_type example_zone b t) (type_as example_zone a b t e) (type_as example_zone b a t (same_back a b e))

module _ (name : List (List ℕ)) (t : ℕ) where
  at_apex : Either name → matches3 example_hashing name apex_nsec3 ≡ true → has apex_nsec3 t ≡ has_type example_zone name t
  at_apex (inl e) m = apex_types t ∙ type_same apex_name name t (same_back name apex_name e)
  at_apex (inr e) m = absurd (true≢false (sym m ∙ ap (bytes_eq apex_hash) (hash_host name e)))

  at_host : Either name → matches3 example_hashing name host_nsec3 ≡ true → has host_nsec3 t ≡ has_type example_zone name t
  at_host (inl e) m = absurd (true≢false (sym m ∙ ap (bytes_eq host_hash) (hash_apex name e)))
  at_host (inr e) m = host_types t ∙ type_same host_name name t (same_back name host_name e)

chained : IsChained3 example_zone example_hashing example_chain
chained = record {
  held = λ name i x. matched name (either name i (firm_exists name x));
  spared = λ name i x b r. absurd (true≢false (sym (matched name (either name i x)) ∙ r));
  owed = owed;
  next = next;
  gap = gap;
  types = λ n c name i x b m t o. each (λ (y : Nsec3State). matches3 example_hashing name y ≡ true → has y t ≡ has_type example_zone name t) (at_apex name t (either name i x)) (at_host name t (either name i x)) n c m;
}

served : tree_error apex_name example_zone.records ≡ None
unfolding canonical_key
served = refl

pub example_is_whole : ExampleChainIsWhole
example_is_whole = record { zone = served; chain = chained }

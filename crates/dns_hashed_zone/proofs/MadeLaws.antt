-- A zone that is made of records, its NSEC3s and the records of those.
use Rattle.std.proofs.Common.{◌≡◌, ℕ, zero, suc, ◌+◌, ◌≤◌, ◌<◌, Bool, true, false, List, [], ◌∷◌, ◌++◌, length, take, get_or, cond, Option, Some, None, Result, Ok, Err, refl, ap, sym, subst, ◌∙◌, arith, append_assoc, append-nil, length-append}
use Rattle.std.specs.Prelude.{◌||◌, not, option_map, MatchResult}
use Rattle.std.specs.List.{Contains, filter, slice_get}
use Rattle.std.specs.List.Sorted.{IsPermutation}
use Rattle.std.specs.declared.vec.Vec.{Vec}
use Rattle.std.specs.declared.alloc.Global.{Global}
use Rattle.std.proofs.lemmas.List.{take_all, take_more}
use Rattle.std.proofs.lemmas.List.Sorted.{Contains-permutation, IsPermutation-sym, length_permutation}
use Rattle.dns_message.specs.declared.record.Record.{Record}
use Rattle.dns_route.specs.Routes.{ends_name}
use Rattle.dns_zone.specs.Owned.{AreLawful, HasLawfulData, ZoneState}
use Rattle.dns_zone_tree.specs.TreeErrors.{tree_error}
use Rattle.dns_denial.specs.Nsec3.{Hashing, IsChained3, IsWhole3, Nsec3State, is_matched}
use Rattle.dns_denial.proofs.HashLaws.{inside}
use Rattle.dns_denial.proofs.NameLaws.{ends_itself}
use Rattle.dns_denial.proofs.ProvableLaws.{any_matched as any_matched_there}
use Rattle.dns_nsec3_data.specs.Nsec3Data.{IsChain3Of, IsHashedOf3, IsHashing}
use Rattle.dns_nsec3_data.specs.declared.chain3_data.HashedNames.{HashedNames}
use Rattle.dns_hashed_zone.specs.HashedChecks.{Breaks3}
use Rattle.dns_hashed_zone.specs.HashedStates.{AreGroupsOf, HashedState, IsKept, IsSigned3, all_records, hashed_records, is_hashed, items_of, joined, named_records}
use Rattle.dns_hashed_zone.specs.MadeHashed.{BreaksChain, IsBroken, IsChainedAs3, IsGrouped, IsMadeOf3, IsRefusedAs3, IsUnownedAt, Refuses3, named}
use Rattle.dns_hashed_zone.specs.Searches.{any_matched}
use Rattle.dns_hashed_zone.specs.declared.hashed_zone_error.HashedChainError.{HashedChainError}
use Rattle.dns_hashed_zone.specs.declared.hashed_zone_error.HashedChainError.TheVariants.{Unlisted, Unfounded, Unlinked, Unowned, OutOfMemory as NoMemory}
use Rattle.dns_hashed_zone.specs.declared.hashed_zone_error.HashedZoneError.{HashedZoneError}
use Rattle.dns_hashed_zone.specs.declared.hashed_zone_error.HashedZoneError.TheVariants.{Tree, Nsec3, Chain}

-- ---- records that can be written

each_lawful : (rs : List Record) → AreLawful rs → (r : Record) → Contains rs r → HasLawfulData r
each_lawful [] a r c = absurd (omega (arith, c.1))
each_lawful (x ∷ xs) a r (zero, l, e) = subst HasLawfulData e a.0
each_lawful (x ∷ xs) a r (suc k, l, e) = each_lawful xs a.1 r (k, omega (arith, l), e)

all_lawful : (rs : List Record) → ((r : Record) → Contains rs r → HasLawfulData r) → AreLawful rs
all_lawful [] h = tt
all_lawful (x ∷ xs) h = (h x (zero, omega arith, refl), all_lawful xs (λ r c. h r (suc c.0, omega (arith, c.1), c.2)))

pub lawful_moved : (rs ss : List Record) → IsPermutation rs ss → AreLawful rs → AreLawful ss
lawful_moved rs ss p a = all_lawful ss (λ r c. each_lawful rs a r (Contains-permutation ss rs r (IsPermutation-sym rs ss p) c))

pub lawful_both : (rs ss : List Record) → AreLawful rs → AreLawful ss → AreLawful (rs ++ ss)
lawful_both [] ss a b = b
lawful_both (x ∷ xs) ss a b = (a.0, lawful_both xs ss a.1 b)

lawful_step : (b : Bool) (x : Record) (xs : List Record) → HasLawfulData x → AreLawful xs → AreLawful (cond b (x ∷ xs) xs)
lawful_step true x xs a k = (a, k)
lawful_step false x xs a k = k

pub lawful_kept : (p : Record → Bool) (rs : List Record) → AreLawful rs → AreLawful (filter p rs)
lawful_kept p [] a = tt
lawful_kept p (x ∷ xs) a = lawful_step (p x) x (filter p xs) a.0 (lawful_kept p xs a.1)

-- ---- parts

count_step : (b : Bool) (x : Record) (n : ℕ) (xs ys : List Record) → n ≡ length xs + length ys → n + 1 ≡ length (cond (not b) (x ∷ xs) xs) + length (cond b (x ∷ ys) ys)
count_step true x n xs ys e = omega (arith, e)
count_step false x n xs ys e = omega (arith, e)

-- as many records as in both parts
pub parts_count : (rs : List Record) → length rs ≡ length (named_records rs) + length (hashed_records rs)
parts_count [] = refl
parts_count (x ∷ xs) = sym (plus (length xs)) ∙ count_step (is_hashed x) x (length xs) (named_records xs) (hashed_records xs) (parts_count xs)
  where
    plus : (n : ℕ) → n + 1 ≡ suc n
    plus n = omega arith

-- ---- a zone of names with a chain

module _ (z : ZoneState) (h : Hashing) (ns : List Nsec3State) (rs : List Record) where
  pub broken_by : (e : HashedChainError) → Breaks3 z h ns e → IsBroken z h ns rs e
  broken_by (Unlisted i) b = b
  broken_by (Unfounded i) b = b
  broken_by (Unlinked i) b = b
  broken_by (Unowned i) b = absurd b
  broken_by NoMemory b = tt

  unowned_by : (e : HashedChainError) → IsUnownedAt z.apex ns rs e → IsBroken z h ns rs e
  unowned_by (Unlisted i) b = absurd b
  unowned_by (Unfounded i) b = absurd b
  unowned_by (Unlinked i) b = absurd b
  unowned_by (Unowned i) b = b
  unowned_by NoMemory b = tt

  pub grouped_as : (r : Result (Vec (Vec Record Global) Global) HashedChainError) → IsChained3 z h ns → MatchResult r (λ v. AreGroupsOf z.apex ns rs (items_of v.items)) (IsUnownedAt z.apex ns rs) → MatchResult r (λ v. IsGrouped z h ns rs (items_of v.items)) (IsBroken z h ns rs)
  grouped_as (Ok v) c m = record { chain = c; groups_ = m }
  grouped_as (Err e) c m = unowned_by e m

  pub kept_by : (gs : List (List Record)) (count : ℕ) → tree_error z.apex z.records ≡ None → AreLawful rs → count ≡ length z.records + length rs → IsGrouped z h ns rs gs → IsKept (record { zone = z; hashing = h; nsec3s = ns; groups = gs }) count
  kept_by gs count tree a c g = record {
    signed = record {
      whole = record { zone = tree; chain = g.chain };
      groups_ = g.groups_.groups_;
      lawful = lawful_moved rs (joined gs) g.groups_.all a;
    };
    counted = c ∙ (ap (λ (n : ℕ). length z.records + n) (sym (length_permutation rs (joined gs) g.groups_.all)) ∙ sym (length-append z.records (joined gs)));
  }

-- ---- a zone of records

module _ (z zone : ZoneState) (names : HashedNames) (hashed : List Record) (e : zone ≡ named z) (f : hashed ≡ hashed_records z.records) (i : IsHashedOf3 z.apex z.records names.hashing names.chain) where
  made_ok : (s : HashedState) → IsChainedAs3 zone names hashed s → IsMadeOf3 z s
  made_ok s m = record {
    zone = m.zone ∙ e;
    hashing_ = subst (IsHashing z.apex z.records) (sym m.hashing_) i.hashing;
    nsec3s_ = subst (λ (h : Hashing). IsChain3Of z.apex h z.records s.nsec3s) (sym m.hashing_) (subst (IsChain3Of z.apex names.hashing z.records) (sym m.nsec3s_) i.chain);
    groups_ = subst (λ (rs : List Record). IsPermutation rs (joined s.groups)) f m.groups_.all;
  }

  made_err : (x : HashedZoneError) → IsRefusedAs3 zone names hashed x → Refuses3 z x
  made_err (Nsec3 x) m = absurd m
  made_err (Tree x) m = absurd m
  made_err (Chain x) m = record {
    hashing = names.hashing;
    is = i.hashing;
    nsec3s = names.chain;
    chain = i.chain;
    breaks = subst (λ (y : ZoneState). IsBroken y names.hashing names.chain (hashed_records z.records) x) e (subst (λ (rs : List Record). IsBroken zone names.hashing names.chain rs x) f m);
  }

  pub made_by : (r : Result HashedState HashedZoneError) → MatchResult r (IsChainedAs3 zone names hashed) (IsRefusedAs3 zone names hashed) → MatchResult r (IsMadeOf3 z) (Refuses3 z)
  made_by (Ok s) m = made_ok s m
  made_by (Err x) m = made_err x m

-- ---- names in the zone

any_same : (h : Hashing) (ns : List Nsec3State) (name : List (List ℕ)) → any_matched h ns name ≡ any_matched_there h ns name
any_same h ns [] = refl
any_same h ns (l ∷ ls) = ap (λ (b : Bool). is_matched h ns (l ∷ ls) || b) (any_same h ns ls)

none_any : (h : Hashing) (name : List (List ℕ)) → any_matched h [] name ≡ false
none_any h [] = refl
none_any h (l ∷ ls) = none_any h ls

some_any : (h : Hashing) (ns : List Nsec3State) (name : List (List ℕ)) → any_matched h ns name ≡ true → 0 < length ns
some_any h [] name e = let f : true ≡ false = sym e ∙ none_any h name in absurd (cc)
some_any h (n ∷ ns) name e = omega arith

module _ (z : ZoneState) (h : Hashing) (ns : List Nsec3State) (w : IsWhole3 z h ns) where
  pub matched_inside : (name : List (List ℕ)) → ends_name name z.apex ≡ true → any_matched h ns name ≡ true
  matched_inside name e = any_same h ns name ∙ inside z h ns w name e

  pub some_whole : 0 < length ns
  some_whole = some_any h ns z.apex (matched_inside z.apex (ends_itself z.apex))

-- ---- groups as they are kept

pub group_at : (vs : List (Vec Record Global)) (k : ℕ) → slice_get (items_of vs) k ≡ option_map (λ (v : Vec Record Global). v.items) (slice_get vs k)
group_at [] k = refl
group_at (v ∷ vs) zero = refl
group_at (v ∷ vs) (suc k) = group_at vs k

joined_both : (gs bs : List (List Record)) → joined (gs ++ bs) ≡ joined gs ++ joined bs
joined_both [] bs = refl
joined_both (g ∷ gs) bs = ap (λ (x : List Record). g ++ x) (joined_both gs bs) ∙ sym (append_assoc g (joined gs) (joined bs))

items_both : (vs bs : List (Vec Record Global)) → items_of (vs ++ bs) ≡ items_of vs ++ items_of bs
items_both [] bs = refl
items_both (v ∷ vs) bs = ap (λ (x : List (List Record)). v.items ∷ x) (items_both vs bs)

-- one group more
pub joined_next : (vs : List (Vec Record Global)) (i : ℕ) (v : Vec Record Global) (start before now : List Record) → i < length vs → v ≡ get_or vs i v → before ≡ start ++ joined (items_of (take i vs)) → now ≡ before ++ v.items → now ≡ start ++ joined (items_of (take (i + 1) vs))
joined_next vs i v start before now l e b n =
    let t : take (i + 1) vs ≡ take i vs ++ v ∷ [] = take_more vs i v l ∙ ap (λ (x : Vec Record Global). take i vs ++ x ∷ []) (sym e) in
    let j : joined (items_of (take (i + 1) vs)) ≡ joined (items_of (take i vs)) ++ v.items =
    ap (λ (x : List (Vec Record Global)). joined (items_of x)) t
    ∙ (ap joined (items_both (take i vs) (v ∷ [])) ∙ (joined_both (items_of (take i vs)) (v.items ∷ []) ∙ ap (λ (x : List Record). joined (items_of (take i vs)) ++ x) (append-nil v.items))) in
    n ∙ (ap (λ (x : List Record). x ++ v.items) b ∙ (append_assoc start (joined (items_of (take i vs))) v.items ∙ ap (λ (x : List Record). start ++ x) (sym j)))

pub joined_all : (vs : List (Vec Record Global)) (i : ℕ) (start now : List Record) → length vs ≤ i → now ≡ start ++ joined (items_of (take i vs)) → now ≡ start ++ joined (items_of vs)
joined_all vs i start now l n = n ∙ ap (λ (x : List (Vec Record Global)). start ++ joined (items_of x)) (take_all i vs l)

-- ---- copies

pub added : (start rs before now : List Record) (i : ℕ) (r copy : Record) → i < length rs → r ≡ get_or rs i r → copy ≡ r → before ≡ start ++ take i rs → now ≡ before ++ copy ∷ [] → now ≡ start ++ take (i + 1) rs
added start rs before now i r copy l e q b n =
    let t : take (i + 1) rs ≡ take i rs ++ copy ∷ [] = take_more rs i r l ∙ ap (λ (x : Record). take i rs ++ x ∷ []) (sym (q ∙ e)) in
    n ∙ (ap (λ (x : List Record). x ++ copy ∷ []) b ∙ (append_assoc start (take i rs) (copy ∷ []) ∙ ap (λ (x : List Record). start ++ x) (sym t)))

pub added_all : (start rs now : List Record) (i : ℕ) → length rs ≤ i → now ≡ start ++ take i rs → now ≡ start ++ rs
added_all start rs now i l n = n ∙ ap (λ (x : List Record). start ++ x) (take_all i rs l)

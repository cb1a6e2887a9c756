-- The NSEC3 records that a reply has are, read, the NSEC3s that are chosen.
use Rattle.std.proofs.Common.{◌≡◌, ℕ, zero, suc, ◌<◌, Bool, true, false, List, [], ◌∷◌, ◌++◌, length, get_or, Some, None, refl, ap, sym, subst, ◌∙◌, arith, inl, inr}
use Rattle.std.specs.Prelude.{◌⊎◌, Option}
use Rattle.std.specs.List.{AllByRecursion, Contains, filter, flat_map, slice_get}
use Rattle.std.specs.List.Sorted.{IsPermutation}
use Rattle.std.specs.Cmp.Lexicographic.{bytes_decides}
use Rattle.std.specs.Str.{bytes_eq}
use Rattle.std.proofs.lemmas.Bool.{or_left}
use Rattle.std.proofs.lemmas.List.Sorted.{Contains-permutation, IsPermutation-sym}
use Rattle.dns_message.specs.declared.question.Question.{Question}
use Rattle.dns_message.specs.declared.record.Record.{Record}
use Rattle.dns_zone.specs.Owned.{ZoneState, is_of}
use Rattle.dns_denial.specs.Hashes.{AreSorted3}
use Rattle.dns_denial.specs.Nsec3.{Hashing, Nsec3State}
use Rattle.dns_denial.specs.Signed.{is_signature}
use Rattle.dns_nsec3_data.specs.Nsec3Data.{AreNsec3s, IsNsec3, nsec3_records, owner_hash}
use Rattle.dns_signed_reply.proofs.MemberLaws.{from_both, from_filter, from_flat, in_filter, in_flat}
use Rattle.dns_hashed_zone.specs.HashedStates.{AreGroups, HashedState, IsGroup, IsSigned3, hashed_records, is_hashed, joined}
use Rattle.dns_hashed_zone.specs.MadeHashed.{IsMadeOf3}
use Rattle.dns_hashed_zone.proofs.MarkLaws.{one_place}
use Rattle.dns_hashed_reply.specs.HashedLaws.{ChosenAreGiven3}
use Rattle.dns_hashed_reply.specs.HashedReplies.{chosen3, group_at, group_or_none, nsec3_or_none, places}

-- ---- NSEC3s and their records

record Read (apex : List (List ℕ)) (h : Hashing) (rs : List Record) (n : Nsec3State) : Type 0 where
  one : Record
  there : Contains rs one
  says : IsNsec3 apex h one n

read_from : (apex : List (List ℕ)) (h : Hashing) (rs : List Record) (ns : List Nsec3State) → AreNsec3s apex h rs ns → (n : Nsec3State) → Contains ns n → Read apex h rs n
read_from apex h [] [] a n c = absurd (omega (arith, c.1))
read_from apex h [] (m ∷ ns) a n c = absurd a
read_from apex h (r ∷ rs) [] a n c = absurd a
read_from apex h (r ∷ rs) (m ∷ ns) a n (zero, l, e) = record { one = r; there = (zero, omega arith, refl); says = subst (IsNsec3 apex h r) e a.0 }
read_from apex h (r ∷ rs) (m ∷ ns) a n (suc k, l, e) =
    let i = read_from apex h rs ns a.1 n (k, omega (arith, l), e) in
    record { one = i.one; there = (suc i.there.0, omega (arith, i.there.1), i.there.2); says = i.says }

-- ---- groups

owner_in : (apex : List (List ℕ)) (n : Nsec3State) (g : List Record) → IsGroup apex n g → (r : Record) → Contains g r → owner_hash apex r.owner ≡ Some n.hash
owner_in apex n [] a r c = absurd (omega (arith, c.1))
owner_in apex n (x ∷ xs) a r (zero, l, e) = subst (λ (y : Record). owner_hash apex y.owner ≡ Some n.hash) e a.0
owner_in apex n (x ∷ xs) a r (suc k, l, e) = owner_in apex n xs a.1 r (k, omega (arith, l), e)

-- the place of a record of the groups
record Placed (apex : List (List ℕ)) (ns : List Nsec3State) (gs : List (List Record)) (r : Record) : Type 0 where
  place : ℕ
  within : place < length ns
  there : Contains (group_or_none (slice_get gs place)) r
  owner : (d : Nsec3State) → owner_hash apex r.owner ≡ Some ((get_or ns place d).hash)

placed : (apex : List (List ℕ)) (ns : List Nsec3State) (gs : List (List Record)) → AreGroups apex ns gs → (r : Record) → Contains (joined gs) r → Placed apex ns gs r
placed apex [] [] a r c = absurd (omega (arith, c.1))
placed apex [] (g ∷ gs) a r c = absurd a
placed apex (n ∷ ns) [] a r c = absurd a
placed apex (n ∷ ns) (g ∷ gs) a r c = by_part (placed apex ns gs a.1 r) (from_both g (joined gs) r c)
  where
    by_part : (Contains (joined gs) r → Placed apex ns gs r) → Contains g r ⊎ Contains (joined gs) r → Placed apex (n ∷ ns) (g ∷ gs) r
    by_part ih (inl k) = record { place = zero; within = omega arith; there = k; owner = λ d. owner_in apex n g a.0 r k }
    by_part ih (inr k) = let p = ih k in record { place = suc p.place; within = omega (arith, p.within); there = p.there; owner = p.owner }

-- ---- what is chosen

-- the NSEC3 at a place
at_its_place : (ns : List Nsec3State) (k : ℕ) (n : Nsec3State) → Contains (nsec3_or_none (slice_get ns k)) n → (k < length ns) × ((d : Nsec3State) → get_or ns k d ≡ n)
at_its_place [] k n c = absurd (omega (arith, c.1))
at_its_place (m ∷ ns) zero n (zero, l, e) = (omega arith, λ d. e)
at_its_place (m ∷ ns) zero n (suc i, l, e) = absurd (omega (arith, l))
at_its_place (m ∷ ns) (suc k) n c = let i = at_its_place ns k n c in (omega (arith, i.0), i.1)

there_by : (ns : List Nsec3State) (k : ℕ) (n : Nsec3State) → k < length ns → ((d : Nsec3State) → get_or ns k d ≡ n) → Contains ns n
there_by ns k n l e = (k, l, e n)

module _ (z : ZoneState) (s : HashedState) (m : IsMadeOf3 z s) (signed : IsSigned3 s) (sorted : AreSorted3 s.nsec3s) (k : ℕ) (n : Nsec3State) (l : k < length s.nsec3s) (e : (d : Nsec3State) → get_or s.nsec3s k d ≡ n) where
  apex_is : s.zone.apex ≡ z.apex
  apex_is = ap (λ (y : ZoneState). y.apex) m.zone

  read : Read z.apex s.hashing (nsec3_records z.records) n
  read = read_from z.apex s.hashing (nsec3_records z.records) m.nsec3s_.read m.nsec3s_.nsec3s n
      (Contains-permutation s.nsec3s m.nsec3s_.read n (IsPermutation-sym m.nsec3s_.read s.nsec3s m.nsec3s_.order) (there_by s.nsec3s k n l e))

  in_groups : Contains (joined s.groups) read.one
  in_groups =
      let f = from_filter (is_of 50) z.records read.one read.there in
      Contains-permutation (hashed_records z.records) (joined s.groups) read.one m.groups_ (in_filter is_hashed z.records read.one f.0 (or_left (is_of 50 read.one) (is_signature 50 read.one) f.1))

  its : Placed s.zone.apex s.nsec3s s.groups read.one
  its = placed s.zone.apex s.nsec3s s.groups signed.groups_ read.one in_groups

  same_hashes : (get_or s.nsec3s its.place n).hash ≡ n.hash
  same_hashes = some_same (get_or s.nsec3s its.place n).hash n.hash (sym (its.owner n) ∙ (ap (λ (a : List (List ℕ)). owner_hash a read.one.owner) apex_is ∙ read.says.owner))
    where
      some_same : (a b : List ℕ) → Some a ≡ Some b → a ≡ b
      some_same a b h = cc

  its_place : its.place ≡ k
  its_place = one_place s.nsec3s sorted n.hash its.place k n its.within l ((bytes_decides (get_or s.nsec3s its.place n).hash n.hash).1 same_hashes)
      ((bytes_decides (get_or s.nsec3s k n).hash n.hash).1 (ap (λ (x : Nsec3State). x.hash) (e n)))

  pub given : (r : Record) × Contains (group_at s k) r × IsNsec3 s.zone.apex s.hashing r n
  given = (
    read.one,
    subst (λ (j : ℕ). Contains (group_at s j) read.one) its_place its.there,
    subst (λ (a : List (List ℕ)). IsNsec3 a s.hashing read.one n) (sym apex_is) read.says,
  )

pub chosen_are_given3 : ChosenAreGiven3
chosen_are_given3 z s q answers m signed sorted n c =
    let f = from_flat (λ (i : ℕ). nsec3_or_none (slice_get s.nsec3s i)) (places s q answers) n c in
    let p = at_its_place s.nsec3s f.0 n f.2 in
    let g = given z s m signed sorted f.0 n p.0 p.1 in
    (g.0, in_flat (group_at s) (places s q answers) f.0 g.0 f.1 g.1, g.2)

-- Records that are parted and grouped one by one.
use Rattle.std.proofs.Common.{◌≡◌, ℕ, zero, suc, ◌+◌, ◌<◌, Bool, true, false, List, [], ◌∷◌, ◌++◌, length, get_or, map, Some, refl, ap, sym, subst, ◌∙◌, arith, append_assoc, append-nil, length-append}
use Rattle.std.specs.Prelude.{not}
use Rattle.std.specs.List.{Contains, filter, slice_get}
use Rattle.std.specs.List.Sorted.{IsPermutation}
use Rattle.std.specs.declared.vec.Vec.{Vec}
use Rattle.std.specs.declared.alloc.Global.{Global}
use Rattle.std.proofs.Math.ListN.{set}
use Rattle.std.proofs.lemmas.List.Elements.{filter-append}
use Rattle.std.proofs.lemmas.List.Sorted.{Contains-permutation, IsPermutation-append_left, IsPermutation-append_right, IsPermutation-refl, IsPermutation-sym, IsPermutation-to_front, IsPermutation-trans}
use Rattle.std.proofs.lemmas.Option.{slice_get-get_or}
use Rattle.dns_message.specs.declared.record.Record.{Record}
use Rattle.dns_denial.specs.Nsec3.{Nsec3State}
use Rattle.dns_nsec3_data.specs.Nsec3Data.{owner_hash}
use Rattle.dns_hashed_zone.specs.HashedStates.{AreEmpty, AreGroups, AreGroupsOf, ArePartsOf, IsGroup, hashed_records, is_hashed, items_of, joined, named_records, with_record}
use Rattle.dns_hashed_zone.specs.MadeHashed.{HasAt, HasNone3, IsUnowned}

-- ---- parts

goes_on : (p : Record → Bool) (done old more : List Record) (r : Record) → old ≡ filter p done → more ≡ old ++ filter p (r ∷ []) → more ≡ filter p (done ++ r ∷ [])
goes_on p done old more r e n = n ∙ (ap (λ (x : List Record). x ++ filter p (r ∷ [])) e ∙ sym (filter-append p done (r ∷ [])))

pub one_parted : (done named_ hashed_ more others : List Record) (r : Record) → more ≡ named_ ++ named_records (r ∷ []) → others ≡ hashed_ ++ hashed_records (r ∷ []) → ArePartsOf done named_ hashed_ → ArePartsOf (done ++ r ∷ []) more others
one_parted done named_ hashed_ more others r n m h = record {
  named_is = goes_on (λ (x : Record). not (is_hashed x)) done named_ more r h.named_is n;
  hashed_is = goes_on is_hashed done hashed_ others r h.hashed_is m;
}

-- ---- one record more in a group

pub put_moves : (gs : List (List Record)) (k : ℕ) (r : Record) → k < length gs → IsPermutation (joined gs ++ r ∷ []) (joined (with_record k r gs))
put_moves [] k r l = absurd (omega (arith, l))
put_moves (g ∷ gs) zero r l =
    subst (λ (x : List Record). IsPermutation ((g ++ joined gs) ++ r ∷ []) x) (sym (append_assoc g (r ∷ []) (joined gs)))
    (subst (λ (x : List Record). IsPermutation x (g ++ r ∷ joined gs)) (sym (append_assoc g (joined gs) (r ∷ [])))
    (IsPermutation-append_right g (joined gs ++ r ∷ []) (r ∷ joined gs) (IsPermutation-to_front (joined gs) r)))
put_moves (g ∷ gs) (suc k) r l =
    subst (λ (x : List Record). IsPermutation x (g ++ joined (with_record k r gs))) (sym (append_assoc g (joined gs) (r ∷ [])))
    (IsPermutation-append_right g (joined gs ++ r ∷ []) (joined (with_record k r gs)) (put_moves gs k r (omega (arith, l))))

-- as it is in the code
pub items_put : (vs : List (Vec Record Global)) (k : ℕ) (old new : Vec Record Global) (r : Record) → k < length vs → old ≡ get_or vs k old → new.items ≡ old.items ++ r ∷ [] → items_of (set vs k new) ≡ with_record k r (items_of vs)
items_put [] k old new r l e n = absurd (omega (arith, l))
items_put (v ∷ vs) zero old new r l e n =
    let q : new.items ≡ v.items ++ r ∷ [] = n ∙ ap (λ (x : Vec Record Global). x.items ++ r ∷ []) e in
    ap (λ (x : List Record). x ∷ items_of vs) q
items_put (v ∷ vs) (suc k) old new r l e n = ap (λ (x : List (List Record)). v.items ∷ x) (items_put vs k old new r (omega (arith, l)) e n)

pub items_length : (vs : List (Vec Record Global)) → length (items_of vs) ≡ length vs
items_length [] = refl
items_length (v ∷ vs) = let e = items_length vs in omega (arith, e)

-- ---- no records

items_more : (vs : List (Vec Record Global)) (v : Vec Record Global) → items_of (vs ++ v ∷ []) ≡ items_of vs ++ v.items ∷ []
items_more [] v = refl
items_more (w ∷ vs) v = ap (λ (x : List (List Record)). w.items ∷ x) (items_more vs v)

joined_more : (gs : List (List Record)) → joined gs ≡ [] → joined (gs ++ [] ∷ []) ≡ []
joined_more [] e = refl
joined_more ([] ∷ gs) e = joined_more gs e
joined_more ((r ∷ rs) ∷ gs) e = absurd (cc)

pub empty_more : (vs : List (Vec Record Global)) (v : Vec Record Global) (k : ℕ) → v.items ≡ [] → AreEmpty (items_of vs) k → AreEmpty (items_of (vs ++ v ∷ [])) (k + 1)
empty_more vs v k e h =
    let q : items_of (vs ++ v ∷ []) ≡ items_of vs ++ [] ∷ [] = items_more vs v ∙ ap (λ (x : List Record). items_of vs ++ x ∷ []) e in
    subst (λ (gs : List (List Record)). AreEmpty gs (k + 1)) (sym q) (record { many = length-append (items_of vs) ([] ∷ []) ∙ ap (λ (n : ℕ). n + 1) h.many; none = joined_more (items_of vs) h.none })

module _ (apex : List (List ℕ)) where
  in_group : (n : Nsec3State) (g : List Record) (r : Record) → IsGroup apex n g → owner_hash apex r.owner ≡ Some n.hash → IsGroup apex n (g ++ r ∷ [])
  in_group n [] r a h = (h, tt)
  in_group n (x ∷ xs) r a h = (a.0, in_group n xs r a.1 h)

  pub groups_put : (ns : List Nsec3State) (gs : List (List Record)) (k : ℕ) (r : Record) (n : Nsec3State) → AreGroups apex ns gs → Some n ≡ slice_get ns k → owner_hash apex r.owner ≡ Some n.hash → AreGroups apex ns (with_record k r gs)
  groups_put [] [] k r n a e h = a
  groups_put [] (g ∷ gs) k r n a e h = absurd a
  groups_put (m ∷ ns) [] k r n a e h = absurd a
  groups_put (m ∷ ns) (g ∷ gs) zero r n a e h =
      let q : n ≡ m = cc in
      (in_group m g r a.0 (h ∙ ap (λ (x : Nsec3State). Some x.hash) q), a.1)
  groups_put (m ∷ ns) (g ∷ gs) (suc k) r n a e h = (a.0, groups_put ns gs k r n a.1 e h)

  pub groups_length : (ns : List Nsec3State) (gs : List (List Record)) → AreGroups apex ns gs → length gs ≡ length ns
  groups_length [] [] a = refl
  groups_length [] (g ∷ gs) a = absurd a
  groups_length (n ∷ ns) [] a = absurd a
  groups_length (n ∷ ns) (g ∷ gs) a = let e = groups_length ns gs a.1 in omega (arith, e)

  empty_groups : (ns : List Nsec3State) (gs : List (List Record)) → length gs ≡ length ns → joined gs ≡ [] → AreGroups apex ns gs
  empty_groups [] [] l e = tt
  empty_groups [] (g ∷ gs) l e = absurd (omega (arith, l))
  empty_groups (n ∷ ns) [] l e = absurd (omega (arith, l))
  empty_groups (n ∷ ns) ([] ∷ gs) l e = (tt, empty_groups ns gs (omega (arith, l)) e)
  empty_groups (n ∷ ns) ((r ∷ rs) ∷ gs) l e = absurd (cc)

  -- records that were grouped
  pub record AreGroupedAs (ns : List Nsec3State) (done : List Record) (gs : List (List Record)) (at : ℕ) : Type 0 where
    pub counted : at ≡ length done
    pub of : AreGroupsOf apex ns done gs

  pub none_grouped : (ns : List Nsec3State) (gs : List (List Record)) (count : ℕ) → AreEmpty gs count → count ≡ length ns → AreGroupedAs ns [] gs 0
  none_grouped ns gs count e l = record {
    counted = refl;
    of = record { groups_ = empty_groups ns gs (e.many ∙ l) e.none; all = subst (IsPermutation []) (sym e.none) (IsPermutation-refl []) };
  }

  pub one_grouped : (ns : List Nsec3State) (done : List Record) (gs : List (List Record)) (at k : ℕ) (r : Record) → k < length gs → HasAt apex ns r k → AreGroupedAs ns done gs at → AreGroupedAs ns (done ++ r ∷ []) (with_record k r gs) (at + 1)
  one_grouped ns done gs at k r l p h = record {
    counted = ap (λ (x : ℕ). x + 1) h.counted ∙ sym (length-append done (r ∷ []));
    of = record {
      groups_ = groups_put ns gs k r p.0 h.of.groups_ p.1 p.2;
      all = IsPermutation-trans (done ++ r ∷ []) (joined gs ++ r ∷ []) (joined (with_record k r gs)) (IsPermutation-append_left (r ∷ []) done (joined gs) h.of.all) (put_moves gs k r l);
    };
  }

  -- a place of an NSEC3 is that of a group
  pub place_in : (ns : List Nsec3State) (done : List Record) (vs : List (Vec Record Global)) (at k : ℕ) (r : Record) → HasAt apex ns r k → AreGroupedAs ns done (items_of vs) at → k < length vs
  place_in ns done vs at k r p h = omega (arith, below ns k p.0 p.1, groups_length ns (items_of vs) h.of.groups_, items_length vs)
    where
      below : (ms : List Nsec3State) (i : ℕ) (n : Nsec3State) → Some n ≡ slice_get ms i → i < length ms
      below [] i n e = absurd (cc)
      below (m ∷ ms) zero n e = omega arith
      below (m ∷ ms) (suc i) n e = let l = below ms i n e in omega (arith, l)

  -- the place of a record that has no group
  pub unowned_at : (ns : List Nsec3State) (rs done : List Record) (gs : List (List Record)) (at : ℕ) (r : Record) → (length done < length rs) × (r ≡ get_or rs (length done) r) → HasNone3 apex ns r → AreGroupedAs ns done gs at → IsUnowned apex ns rs at
  unowned_at ns rs done gs at r t n h = record {
    one = r;
    place = ap Some t.1 ∙ (sym (slice_get-get_or rs (length done) r t.0) ∙ ap (slice_get rs) (sym h.counted));
    none = n;
  }

-- The NSEC3 that has the owner of a record.
use Rattle.std.proofs.Common.{◌≡◌, ℕ, zero, suc, ◌<◌, Bool, true, false, List, [], ◌∷◌, length, get_or, Some, refl, ap, sym, ◌∙◌, arith}
use Rattle.std.specs.List.{Contains, list_any, slice_get}
use Rattle.std.specs.List.Sorted.{IsPermutation}
use Rattle.std.specs.Str.{bytes_eq}
use Rattle.std.specs.Cmp.Lexicographic.{bytes_decides}
use Rattle.std.proofs.lemmas.Bool.{true≢false}
use Rattle.std.proofs.lemmas.List.Sorted.{Contains-permutation, IsPermutation-sym}
use Rattle.std.proofs.lemmas.Option.{slice_get-get_or}
use Rattle.dns_message.specs.declared.record.Record.{Record}
use Rattle.dns_denial.specs.Hashes.{AreSorted3}
use Rattle.dns_denial.specs.Nsec3.{Hashing, Nsec3State}
use Rattle.dns_denial.proofs.HashOrder.{nearest_matches, same_hash}
use Rattle.dns_denial.proofs.ListLaws.{present}
use Rattle.dns_nsec3_data.specs.Nsec3Data.{AreNsec3s, HasNoHash, IsChain3Of, nsec3_records, owner_hash}
use Rattle.dns_hashed_zone.specs.MadeHashed.{AreSized, HasAt, HasNone3}
use Rattle.dns_hashed_zone.specs.Searches.{nearest_place}
use Rattle.dns_hashed_zone.proofs.PlaceLaws.{nearest_at}

-- ---- NSEC3s that records are

module _ (apex : List (List ℕ)) (h : Hashing) where
  sized_read : (rs : List Record) (ns : List Nsec3State) → AreNsec3s apex h rs ns → AreSized ns
  sized_read [] [] a n c = absurd (omega (arith, c.1))
  sized_read [] (m ∷ ns) a n c = absurd a
  sized_read (r ∷ rs) [] a n c = absurd a
  sized_read (r ∷ rs) (m ∷ ns) a n (zero, l, e) = ap (λ (x : Nsec3State). length x.hash) (sym e) ∙ a.0.size
  sized_read (r ∷ rs) (m ∷ ns) a n (suc k, l, e) = sized_read rs ns a.1 n (k, omega (arith, l), e)

  pub sized_of : (rs : List Record) (ns : List Nsec3State) → IsChain3Of apex h rs ns → AreSized ns
  sized_of rs ns c n k = sized_read (nsec3_records rs) c.read c.nsec3s n (Contains-permutation ns c.read n (IsPermutation-sym c.read ns c.order) k)

-- ---- a record

module _ (apex : List (List ℕ)) (ns : List Nsec3State) (r : Record) where
  pub none_there : length ns ≡ 0 → HasNone3 apex ns r
  none_there l n c e = absurd (omega (arith, l, c.1))

  pub no_hash : AreSized ns → HasNoHash apex r.owner → HasNone3 apex ns r
  no_hash s h n c e = h n.hash e (s n c)

  pub at_place : (o : List ℕ) (n : Nsec3State) (k : ℕ) → k < length ns → n ≡ get_or ns k n → owner_hash apex r.owner ≡ Some o → bytes_eq n.hash o ≡ true → HasAt apex ns r k
  at_place o n k l e h b = (n, ap Some e ∙ sym (slice_get-get_or ns k n l), h ∙ ap Some (sym (same_hash n.hash o b)))

  -- the nearest one would have it
  pub none_at : AreSorted3 ns → 0 < length ns → (o : List ℕ) (n : Nsec3State) → n ≡ get_or ns (nearest_place ns o) n → owner_hash apex r.owner ≡ Some o → bytes_eq n.hash o ≡ false → HasNone3 apex ns r
  none_at sorted some o n e h b m c k =
      let q : m.hash ≡ o = same (m.hash) o (sym k ∙ h) in
      let t : bytes_eq m.hash o ≡ true = (bytes_decides m.hash o).1 q in
      true≢false (sym (nearest_matches ns o n (nearest_at ns o sorted some n e) (present (λ (x : Nsec3State). bytes_eq x.hash o) ns m c t)) ∙ b)
    where
      same : (a d : List ℕ) → Some a ≡ Some d → a ≡ d
      same a d s = cc

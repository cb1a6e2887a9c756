-- The closest provable encloser of a name and the next closer name, by the NSEC3s of a chain (RFC 5155, section 1.3).
use Rattle.std.proofs.Common.{◌≡◌, ℕ, Bool, true, false, List, [], ◌∷◌, refl, ap, sym, ◌∙◌, inl, inr}
use Rattle.std.specs.Prelude.{◌||◌, ◌⊎◌, if◌then◌else◌}
use Rattle.std.proofs.lemmas.Bool.{true≢false, cases_Bool}
use Rattle.dns_name.specs.Canonical.{same_name, same_name_Decides}
use Rattle.dns_name.specs.Labels.{spell}
use Rattle.dns_route.specs.Routes.{ends_name}
use Rattle.dns_denial.specs.Nsec3.{Hashing, Nsec3State, closer, hash_of, is_matched, iterated, provable}
use Rattle.dns_denial.proofs.NameLaws.{ends_itself, ends_root, ends_tail, ends_trans}

module _ (h : Hashing) (ns : List Nsec3State) where
  -- an NSEC3 is a name's, or one's that the name ends with
  abbrev pub any_matched : List (List ℕ) → Bool
  any_matched [] = is_matched h ns []
  any_matched (l ∷ ls) = is_matched h ns (l ∷ ls) || any_matched ls

  pub up_step : (a b : Bool) → (a || b) ≡ true → a ≡ false → b ≡ true
  up_step true b e f = absurd (true≢false f)
  up_step false b e f = e

  pub provable_above : (ls : List (List ℕ)) → ends_name ls (provable h ns ls) ≡ true
  provable_above [] = ends_root []
  provable_above (l ∷ ls) = by_test (provable_above ls) (is_matched h ns (l ∷ ls))
    where
      by_test : ends_name ls (provable h ns ls) ≡ true → (b : Bool) → ends_name (l ∷ ls) (if b then l ∷ ls else provable h ns ls) ≡ true
      by_test ih true = ends_itself (l ∷ ls)
      by_test ih false = ends_trans (l ∷ ls) ls (provable h ns ls) (ends_tail l ls) ih

  pub provable_matched : (ls : List (List ℕ)) → any_matched ls ≡ true → is_matched h ns (provable h ns ls) ≡ true
  provable_matched [] r = r
  provable_matched (l ∷ ls) r = by_test (provable_matched ls) (is_matched h ns (l ∷ ls)) refl
    where
      by_test : (any_matched ls ≡ true → is_matched h ns (provable h ns ls) ≡ true) → (b : Bool) → is_matched h ns (l ∷ ls) ≡ b → is_matched h ns (if b then l ∷ ls else provable h ns ls) ≡ true
      by_test ih true e = e
      by_test ih false e = ih (up_step (is_matched h ns (l ∷ ls)) (any_matched ls) r e)

  -- a name whose parent is the closest provable encloser
  pub record Shape (ls : List (List ℕ)) : Type 0 where
    pub label : List ℕ
    pub is : closer h ns ls ≡ label ∷ provable h ns ls
    pub above : ends_name ls (closer h ns ls) ≡ true
    pub missing : is_matched h ns (closer h ns ls) ≡ false

  pub provable_cons : (l : List ℕ) (ls : List (List ℕ)) → is_matched h ns (l ∷ ls) ≡ false → provable h ns (l ∷ ls) ≡ provable h ns ls
  provable_cons l ls e = ap (λ (b : Bool). if b then l ∷ ls else provable h ns ls) e

  pub provable_here : (ls : List (List ℕ)) → is_matched h ns ls ≡ true → provable h ns ls ≡ ls
  provable_here [] e = refl
  provable_here (l ∷ ls) e = ap (λ (b : Bool). if b then l ∷ ls else provable h ns ls) e

  pub closer_here : (l : List ℕ) (ls : List (List ℕ)) → is_matched h ns ls ≡ true → closer h ns (l ∷ ls) ≡ l ∷ ls
  closer_here l ls e = ap (λ (b : Bool). if b then l ∷ ls else closer h ns ls) e

  pub closer_up : (l : List ℕ) (ls : List (List ℕ)) → is_matched h ns ls ≡ false → closer h ns (l ∷ ls) ≡ closer h ns ls
  closer_up l ls e = ap (λ (b : Bool). if b then l ∷ ls else closer h ns ls) e

  pub shape : (ls : List (List ℕ)) → any_matched ls ≡ true → is_matched h ns ls ≡ false → Shape ls
  shape [] r e = absurd (true≢false (sym r ∙ e))
  shape (l ∷ ls) r e = by_test (shape ls (up_step (is_matched h ns (l ∷ ls)) (any_matched ls) r e)) (cases_Bool (is_matched h ns ls))
    where
      by_test : (is_matched h ns ls ≡ false → Shape ls) → (is_matched h ns ls ≡ true) ⊎ (is_matched h ns ls ≡ false) → Shape (l ∷ ls)
      by_test ih (inl k) =
          let c = closer_here l ls k in
          record {
            label = l;
            is = c ∙ ap (λ (x : List (List ℕ)). l ∷ x) (sym (provable_cons l ls e ∙ provable_here ls k));
            above = ap (ends_name (l ∷ ls)) c ∙ ends_itself (l ∷ ls);
            missing = ap (is_matched h ns) c ∙ e;
          }
      by_test ih (inr k) =
          let i = ih k in
          let c = closer_up l ls k in
          record {
            label = i.label;
            is = c ∙ (i.is ∙ ap (λ (x : List (List ℕ)). i.label ∷ x) (sym (provable_cons l ls e)));
            above = ap (ends_name (l ∷ ls)) c ∙ ends_trans (l ∷ ls) ls (closer h ns ls) (ends_tail l ls) i.above;
            missing = ap (is_matched h ns) c ∙ i.missing;
          }

pub same_hashes : (h : Hashing) (a b : List (List ℕ)) → same_name a b ≡ true → hash_of h a ≡ hash_of h b
unfolding hash_of
same_hashes h a b e = ap (λ (x : List (List ℕ)). iterated h.salt (spell x) h.iterations) ((same_name_Decides a b).0 e)

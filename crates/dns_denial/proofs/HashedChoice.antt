-- The NSEC3s that the search chooses.
use Rattle.std.proofs.Common.{◌≡◌, ℕ, zero, suc, ◌+◌, ◌≤◌, ◌<◌, Bool, true, false, List, [], ◌∷◌, length, drop, refl, ap, sym, subst, ◌∙◌, arith, length-append}
use Rattle.std.specs.Prelude.{◌==◌, ◌||◌, not, if◌then◌else◌}
use Rattle.std.specs.Cmp.{both_ways}
use Rattle.std.specs.List.{Contains, list_any}
use Rattle.std.specs.Str.{bytes_eq}
use Rattle.std.proofs.lemmas.Bool.{true≢false, not-true}
use Rattle.std.proofs.lemmas.Bool.Decides.{nat_tests}
use Rattle.dns_name.specs.Labels.{IsName, spell}
use Rattle.dns_route.specs.Routes.{ends_name}
use Rattle.dns_zone.specs.Owned.{ZoneState}
use Rattle.dns_zone_tree.specs.Wildcards.{star}
use Rattle.dns_denial.specs.Accepted3.{AreChosen, AreClosest, HasNoZone3, hashed_names}
use Rattle.dns_denial.specs.Nsec3.{Hashing, IsNear, IsNearest, IsWhole3, Nsec3State, closer, hash_of, is_matched, matches3, provable}
use Rattle.dns_denial.proofs.HashLaws.{inside}
use Rattle.dns_denial.proofs.ProvableLaws.{any_matched, closer_here, closer_up, provable_cons, provable_here}
use Rattle.dns_denial.proofs.HashOrder.{nearest_matches}
use Rattle.dns_denial.proofs.ListLaws.{present}

module _ (h : Hashing) (ns : List Nsec3State) where
  -- the nearest one tells whether a name has an NSEC3
  pub matched_by : (name : List (List ℕ)) (n : Nsec3State) (o : List ℕ) → o ≡ hash_of h name → IsNearest ns o n → bytes_eq n.hash o ≡ is_matched h ns name
  matched_by name n o e l = both_ways (bytes_eq n.hash o) (is_matched h ns name)
      (λ k. present (matches3 h name) ns n l.one (ap (bytes_eq n.hash) (sym e) ∙ k))
      (λ k. nearest_matches ns o n l (ap (λ (p : List ℕ). list_any (λ (m : Nsec3State). bytes_eq m.hash p) ns) e ∙ k))

  -- a name at which the way up has come, none of which has an NSEC3
  pub record GoesUp (name left : List (List ℕ)) (next : Nsec3State) : Type 0 where
    pub near : IsNear h ns left next
    pub missing : is_matched h ns left ≡ false
    pub closer_ : closer h ns left ≡ closer h ns name
    pub provable_ : provable h ns left ≡ provable h ns name
    pub any : any_matched h ns left ≡ any_matched h ns name

  pub start_up : (name : List (List ℕ)) (n : Nsec3State) → IsNear h ns name n → is_matched h ns name ≡ false → GoesUp name name n
  start_up name n l e = record { near = l; missing = e; closer_ = refl; provable_ = refl; any = refl }

  one_up : (name : List (List ℕ)) (l : List ℕ) (ls : List (List ℕ)) (n m : Nsec3State) → GoesUp name (l ∷ ls) n → IsNear h ns ls m → is_matched h ns ls ≡ false → GoesUp name ls m
  one_up name l ls n m g k e = record {
    near = k;
    missing = e;
    closer_ = sym (closer_up h ns l ls e) ∙ g.closer_;
    provable_ = sym (provable_cons h ns l ls g.missing) ∙ g.provable_;
    any = sym (ap (λ (b : Bool). b || any_matched h ns ls) g.missing) ∙ g.any;
  }

  pub goes_up : (name left : List (List ℕ)) (n m : Nsec3State) → 0 < length left → GoesUp name left n → IsNear h ns (drop 1 left) m → is_matched h ns (drop 1 left) ≡ false → GoesUp name (drop 1 left) m
  goes_up name [] n m s g k e = absurd (omega (arith, s))
  goes_up name (l ∷ ls) n m s g k e = one_up name l ls n m g k e

  short_behind : (l : List ℕ) (ls : List (List ℕ)) → IsName (l ∷ ls) → length (spell ls) ≤ 253
  short_behind l ls n = omega (arith, n.room, n.labels.0, length-append l (spell ls))

  pub ends_up : (name left : List (List ℕ)) (n m : Nsec3State) (above : List (List ℕ)) → 0 < length left → IsName left → GoesUp name left n → above ≡ drop 1 left → IsNear h ns above m → is_matched h ns above ≡ true → AreClosest h ns name m n above
  ends_up name [] n m above s i g a k e = absurd (omega (arith, s))
  ends_up name (l ∷ ls) n m above s i g a k e =
      let f : is_matched h ns ls ≡ true = subst (λ (x : List (List ℕ)). is_matched h ns x ≡ true) a e in
      let p : provable h ns name ≡ ls = sym g.provable_ ∙ (provable_cons h ns l ls g.missing ∙ provable_here h ns ls f) in
      let c : closer h ns name ≡ l ∷ ls = sym g.closer_ ∙ closer_here h ns l ls f in
      record {
        near = subst (λ (x : List (List ℕ)). IsNear h ns x m) (a ∙ sym p) k;
        next_near = subst (λ (x : List (List ℕ)). IsNear h ns x n) (sym c) g.near;
        is = a ∙ sym p;
        room = subst (λ (x : List (List ℕ)). length (spell x) ≤ 253) (sym a) (short_behind l ls i);
      }

  none_any : (left : List (List ℕ)) → length left ≤ 0 → is_matched h ns left ≡ false → any_matched h ns left ≡ false
  none_any [] l e = e
  none_any (x ∷ xs) l e = absurd (omega (arith, l))

  -- if none of them has one, no zone has the name
  pub no_zone : (name left : List (List ℕ)) (n : Nsec3State) → length left ≤ 0 → GoesUp name left n → HasNoZone3 h ns name
  no_zone name left n l g z w e = true≢false (sym (inside z h ns w name e) ∙ (sym g.any ∙ none_any left l g.missing))

  any_none : (name : List (List ℕ)) → ns ≡ [] → any_matched h ns name ≡ false
  any_none [] e = ap (λ (ms : List Nsec3State). is_matched h ms []) e
  any_none (l ∷ ls) e = ap (λ (ms : List Nsec3State). is_matched h ms (l ∷ ls) || any_matched h ns ls) e ∙ any_none ls e

  not_none : (n : ℕ) → not (suc n == 0) ≡ true
  not_none n = grind (arith, nat_tests)

  pub empty_by : (xs : List Nsec3State) (b : Bool) → b ≡ (length xs == 0) → b ≡ true → xs ≡ []
  empty_by [] b e t = refl
  empty_by (x ∷ xs) b e t = absurd (true≢false (sym (sym e ∙ t) ∙ not-true (suc (length xs) == 0) (not_none (length xs))))

  pub no_chain : (name : List (List ℕ)) → ns ≡ [] → HasNoZone3 h ns name
  no_chain name e z w i = true≢false (sym (inside z h ns w name i) ∙ any_none name e)

  -- ---- a denial

  alone : (n m : Nsec3State) → Contains ns n → Contains (n ∷ []) m → Contains ns m
  alone n m c (zero, l, e) = subst (λ (x : Nsec3State). Contains ns x) e c
  alone n m c (suc k, l, e) = absurd (omega arith)

  alone_name : (name s : List (List ℕ)) (n : Nsec3State) → IsNear h ns name n → Contains (name ∷ []) s → (m : Nsec3State) × Contains (n ∷ []) m × IsNear h ns s m
  alone_name name s n k (zero, l, e) = (n, (zero, omega arith, refl), subst (λ (x : List (List ℕ)). IsNear h ns x n) e k)
  alone_name name s n k (suc i, l, e) = absurd (omega arith)

  pub chosen_own : (name : List (List ℕ)) (n : Nsec3State) → IsNear h ns name n → is_matched h ns name ≡ true → AreChosen h ns (n ∷ []) name
  chosen_own name n k e = record {
    of_chain = λ m c. alone n m k.one c;
    each = λ s c. alone_name name s n k (subst (λ (xs : List (List (List ℕ))). Contains xs s) (ap (λ (b : Bool). if b then name ∷ [] else provable h ns name ∷ closer h ns name ∷ (star ∷ provable h ns name) ∷ []) e) c);
  }

  module _ (name : List (List ℕ)) (a b c : Nsec3State) (above : List (List ℕ)) (k : AreClosest h ns name a b above) (w : IsNear h ns (star ∷ above) c) (e : is_matched h ns name ≡ false) where
    of_three : (m : Nsec3State) → Contains (a ∷ b ∷ c ∷ []) m → Contains ns m
    of_three m (zero, l, q) = subst (λ (x : Nsec3State). Contains ns x) q k.near.one
    of_three m (suc zero, l, q) = subst (λ (x : Nsec3State). Contains ns x) q k.next_near.one
    of_three m (suc (suc zero), l, q) = subst (λ (x : Nsec3State). Contains ns x) q w.one
    of_three m (suc (suc (suc i)), l, q) = absurd (omega arith)

    wild : IsNear h ns (star ∷ provable h ns name) c
    wild = subst (λ (x : List (List ℕ)). IsNear h ns (star ∷ x) c) k.is w

    each_three : (s : List (List ℕ)) → Contains (provable h ns name ∷ closer h ns name ∷ (star ∷ provable h ns name) ∷ []) s → (m : Nsec3State) × Contains (a ∷ b ∷ c ∷ []) m × IsNear h ns s m
    each_three s (zero, l, q) = (a, (zero, omega arith, refl), subst (λ (x : List (List ℕ)). IsNear h ns x a) q k.near)
    each_three s (suc zero, l, q) = (b, (suc zero, omega arith, refl), subst (λ (x : List (List ℕ)). IsNear h ns x b) q k.next_near)
    each_three s (suc (suc zero), l, q) = (c, (suc (suc zero), omega arith, refl), subst (λ (x : List (List ℕ)). IsNear h ns x c) q wild)
    each_three s (suc (suc (suc i)), l, q) = absurd (omega arith)

    pub chosen_three : AreChosen h ns (a ∷ b ∷ c ∷ []) name
    chosen_three = record {
      of_chain = of_three;
      each = λ s x. each_three s (subst (λ (xs : List (List (List ℕ))). Contains xs s) (ap (λ (q : Bool). if q then name ∷ [] else provable h ns name ∷ closer h ns name ∷ (star ∷ provable h ns name) ∷ []) e) x);
    }

-- Names by their octets in lower case, and the places that are kept under octets.
use Rattle.std.proofs.Common.{◌≡◌, ℕ, ◌≤◌, ◌<◌, Bool, true, false, List, [], ◌∷◌, ◌++◌, length, take, drop, cond, Option, Some, None, refl, ap, sym, subst, ◌∙◌, arith, append-nil, length-append}
use Rattle.std.specs.Prelude.{if◌then◌else◌, IfSome}
use Rattle.std.specs.Cmp.{both_ways}
use Rattle.std.specs.Cmp.Lexicographic.{bytes_decides, nat_list_eq_equiv}
use Rattle.std.specs.HashMap.{HashMap, UpdatesBy}
use Rattle.std.specs.List.{filter, last_or, slice_get}
use Rattle.std.specs.Map.{lookup, AreApart, IsKeyTest, KeepsOthers}
use Rattle.std.specs.Str.{bytes_eq}
use Rattle.smallvec.specs.SmallVec.{SmallVec}
use Rattle.std.proofs.lemmas.List.Elements.{filter-append}
use Rattle.std.proofs.lemmas.Option.{slice_get-get_or}
use Rattle.std.proofs.Math.ListN.{get_or-append}
use Rattle.std.proofs.Math.Seq.{take-append_seam, drop-append_seam, get_or-append_seam}
use Rattle.dns_name.specs.Canonical.{same_name, same_name_Decides}
use Rattle.dns_name.specs.Labels.{folded, spell}
use Rattle.dns_routes.specs.Places.{Knows, last_under, name_key, place_under, route_at}
use Rattle.dns_routes.specs.Routes.{Route}

-- ---- octets of names

pub spelt_some : (ls : List (List ℕ)) → 1 ≤ length (spell ls)
spelt_some [] = omega arith
spelt_some (l ∷ ls) = omega arith

-- names that are written alike are the same
pub spell_same : (a b : List (List ℕ)) → spell a ≡ spell b → a ≡ b
spell_same [] [] e = refl
spell_same [] (m ∷ ms) e = absurd (omega (arith, ap length e, length-append m (spell ms), spelt_some ms))
spell_same (l ∷ ls) [] e = absurd (omega (arith, ap length e, length-append l (spell ls), spelt_some ls))
spell_same (l ∷ ls) (m ∷ ms) e =
    let h : length l ≡ length m = cc in
    let t : l ++ spell ls ≡ m ++ spell ms = cc in
    let a : l ≡ m = sym (take-append_seam l (spell ls)) ∙ (ap (take (length l)) t ∙ (ap (λ n. take n (m ++ spell ms)) h ∙ take-append_seam m (spell ms))) in
    let b : spell ls ≡ spell ms = sym (drop-append_seam l (spell ls)) ∙ (ap (drop (length l)) t ∙ (ap (λ n. drop n (m ++ spell ms)) h ∙ drop-append_seam m (spell ms))) in
    let c : ls ≡ ms = spell_same ls ms b in
    cc

-- octets in lower case are the same exactly if the names are the same up to ASCII case
pub same_key : (a b : List (List ℕ)) → bytes_eq (name_key a) (name_key b) ≡ same_name a b
same_key a b =
    let d = bytes_decides (name_key a) (name_key b) in
    let e = same_name_Decides a b in
    both_ways _ _ (λ h. e.1 (spell_same (folded a) (folded b) (d.0 h))) (λ h. d.1 (ap spell (e.0 h)))

filter_ext : {X : Type 0} (p q : X → Bool) → ((x : X) → p x ≡ q x) → (xs : List X) → filter p xs ≡ filter q xs
filter_ext p q e [] = refl
filter_ext p q e (x ∷ xs) =
    ap (λ b. cond b (x ∷ filter p xs) (filter p xs)) (e x) ∙ ap (λ l. cond (q x) (x ∷ l) l) (filter_ext p q e xs)

-- the routes of a name by its octets
pub under_key : {S : Type 0} (s : List (List ℕ)) (rs : List (Route S)) → last_under (name_key s) rs ≡ last_or None (filter (λ (r : Route S). same_name s r.0) rs)
under_key {S} s rs = ap (last_or None) (filter_ext (λ (r : Route S). bytes_eq (name_key s) (name_key r.0)) (λ (r : Route S). same_name s r.0) (λ r. same_key s r.0) rs)

-- ---- a route more

pub last_or_end : {X : Type 0} (o : Option X) (xs : List X) (x : X) → last_or o (xs ++ x ∷ []) ≡ Some x
last_or_end o [] x = refl
last_or_end o (y ∷ xs) x = last_or_end (Some y) xs x

module _ {S : Type 0} (rs : List (Route S)) (r : Route S) where
  route_old : (p : Option ℕ) → IfSome p (λ i. i < length rs) → route_at (rs ++ r ∷ []) p ≡ route_at rs p
  route_old None h = refl
  route_old (Some i) h =
      slice_get-get_or (rs ++ r ∷ []) i r (omega (arith, length-append rs (r ∷ []), h)) ∙ (ap (λ (x : Route S). Some x) (get_or-append rs (r ∷ []) r i h) ∙ sym (slice_get-get_or rs i r h))

  route_new : slice_get (rs ++ r ∷ []) (length rs) ≡ Some r
  route_new =
      slice_get-get_or (rs ++ r ∷ []) (length rs) r (omega (arith, length-append rs (r ∷ []))) ∙ ap (λ (x : Route S). Some x) (get_or-append_seam rs r [] r)

  one_more : (o : List ℕ) → last_under o (rs ++ r ∷ []) ≡ last_or None (filter (λ (x : Route S). bytes_eq o (name_key x.0)) rs ++ cond (bytes_eq o (name_key r.0)) (r ∷ []) [])
  one_more o = ap (last_or None) (filter-append (λ (x : Route S). bytes_eq o (name_key x.0)) rs (r ∷ []))

  -- what is found under octets, by whether they are those of the name
  found_by : (o : List ℕ) (p : Option ℕ) (b : Bool) → bytes_eq o (name_key r.0) ≡ b → route_at rs p ≡ last_under o rs → IfSome p (λ i. i < length rs) →
      route_at (rs ++ r ∷ []) (if b then Some (length rs) else p) ≡ last_under o (rs ++ r ∷ [])
  found_by o p true e h w =
      route_new ∙ sym (one_more o ∙ (ap (λ b. last_or None (filter (λ (x : Route S). bytes_eq o (name_key x.0)) rs ++ cond b (r ∷ []) [])) e ∙ last_or_end None (filter (λ (x : Route S). bytes_eq o (name_key x.0)) rs) r))
  found_by o p false e h w =
      route_old p w ∙ (h ∙ sym (one_more o ∙ (ap (λ b. last_or None (filter (λ (x : Route S). bytes_eq o (name_key x.0)) rs ++ cond b (r ∷ []) [])) e ∙ ap (last_or None) (append-nil (filter (λ (x : Route S). bytes_eq o (name_key x.0)) rs)))))

  within_by : (p : Option ℕ) (b : Bool) → IfSome p (λ i. i < length rs) → IfSome (if b then Some (length rs) else p) (λ i. i < length (rs ++ r ∷ []))
  within_by p true w = omega (arith, length-append rs (r ∷ []))
  within_by None false w = tt
  within_by (Some i) false w = omega (arith, length-append rs (r ∷ []), w)

  module _ {H : Type 0} (m n : HashMap (SmallVec ℕ) ℕ H) (k : List ℕ) (place : ℕ) where
    -- a place more is kept, after all others
    pub known_more : Knows m rs → k ≡ name_key r.0 → place ≡ length rs → ((o : List ℕ) → place_under n o ≡ (if bytes_eq k o then Some place else place_under m o)) → Knows n (rs ++ r ∷ [])
    known_more h e l put =
        let turned : (o : List ℕ) → bytes_eq k o ≡ bytes_eq o (name_key r.0) = λ o. nat_list_eq_equiv.symm k o ∙ ap (bytes_eq o) e in
        let at : (o : List ℕ) → place_under n o ≡ (if bytes_eq o (name_key r.0) then Some (length rs) else place_under m o) =
        λ o. put o ∙ (ap (λ (b : Bool). if b then Some place else place_under m o) (turned o) ∙ ap (λ i. if bytes_eq o (name_key r.0) then Some i else place_under m o) l)
        in
        record {
          last = λ o. ap (route_at (rs ++ r ∷ [])) (at o) ∙ found_by o (place_under m o) (bytes_eq o (name_key r.0)) refl (h.last o) (h.within o);
          within = λ o. subst (λ p. IfSome p (λ i. i < length (rs ++ r ∷ []))) (sym (at o)) (within_by (place_under m o) (bytes_eq o (name_key r.0)) (h.within o));
        }

-- ---- a map whose keys are octets

apart : (bs cs ks : List ℕ) → bytes_eq bs cs ≡ false → bytes_eq bs ks ≡ true → bytes_eq cs ks ≡ false
apart bs cs ks n y = nat_list_eq_equiv.symm cs ks ∙ (sym (nat_list_eq_equiv.congr bs ks cs y) ∙ n)

other_entries : {K X : Type 0} (eq : K → K → Bool) (test : K → Bool) (old new : List (K × X)) → KeepsOthers eq test old new → (other : K → Bool) → IsKeyTest eq other → AreApart test other → lookup other new ≡ lookup other old
unfolding KeepsOthers
other_entries eq test old new h = h

at_octets : {W : Type 0} (f g : List ℕ → W) (bs : List ℕ) (w : W) → g bs ≡ w → ((cs : List ℕ) → bytes_eq bs cs ≡ false → g cs ≡ f cs) → (cs : List ℕ) (b : Bool) → bytes_eq bs cs ≡ b → g cs ≡ (if b then w else f cs)
at_octets f g bs w here other cs true e = subst (λ l. g l ≡ w) ((bytes_decides bs cs).0 e) here
at_octets f g bs w here other cs false e = other cs e

module _ {H : Type 0} (k : List ℕ) (m n : HashMap (SmallVec ℕ) ℕ H) (w : Option ℕ) where
  pub put_under : UpdatesBy (λ (x y : SmallVec ℕ). bytes_eq x.items y.items) (λ (y : SmallVec ℕ). bytes_eq k y.items) m n w → (o : List ℕ) → place_under n o ≡ (if bytes_eq k o then w else place_under m o)
  put_under h o =
      at_octets (place_under m) (place_under n) k w h.1
      (λ cs e. other_entries (λ (x y : SmallVec ℕ). bytes_eq x.items y.items) (λ (y : SmallVec ℕ). bytes_eq k y.items) m.entries n.entries h.3 (λ (y : SmallVec ℕ). bytes_eq cs y.items) (λ x y. nat_list_eq_equiv.congr cs x.items y.items) (λ y. apart k cs y.items e))
      o (bytes_eq k o) refl

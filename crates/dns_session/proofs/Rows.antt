-- What is kept under the numbers of requests, before the row and in it.
use Rattle.std.proofs.Common.{◌≡◌, ◌≢◌, ℕ, suc, ◌+◌, ◌-◌, ◌<◌, ◌≤◌, List, [], ◌∷◌, ◌++◌, length, drop, get_or, Option, Some, None, Bool, true, false, refl, ap, sym, ◌∙◌, arith, set, ⊎_elim, lt-ltb, length-append, length-drop, length-set}
use Rattle.std.specs.Prelude.{slice_get, cond, is_some, IsSome, MatchOption}
use Rattle.std.specs.Map.{lookup}
use Rattle.std.specs.Ordering.{nat_cmp}
use Rattle.std.specs.Cmp.{nat_cmp_is}
use Rattle.std.specs.declared.cmp.Ordering.TheVariants.{Less}
use Rattle.std.specs.declared.ops.Bound.TheVariants.{Excluded, Unbounded}
use Rattle.std.specs.BTreeMap.{BTreeMap, btree_map_len, get, is_at, IsLowerBound}
use Rattle.std.specs.BTreeMap.Range.{IsRangeOf}
use Rattle.std.proofs.lemmas.Bool.{cases_eq, cases_lt, le-ltb}
use Rattle.std.proofs.lemmas.Bool.Decides.{nat_tests}
use Rattle.std.proofs.lemmas.List.{nil_from_length}
use Rattle.std.proofs.lemmas.Map.Keys.{le_from_not_gt}
use Rattle.std.proofs.lemmas.Option.{slice_get_read, slice_get_past}
use Rattle.circular_buffer.proofs.Places.{slice_get-set_same, slice_get-set_other, slice_get-append_left, slice_get-drop, slice_get-last, slice_get-some}
use Rattle.dns_session.specs.Unfinished.{ChangesAt, Entered, Enters, IsFirstFrom, IsInOrder, IsSame, LetsGo, PassesBy, request_at, row_start}
use Rattle.dns_session.specs.declared.unfinished.Unfinished.{Unfinished}

other_at : (k q : ℕ) → q ≢ k → is_at (nat_cmp k) q ≡ false
other_at k q ne = grind (arith, nat_tests, ne)

same_at : (k : ℕ) → is_at (nat_cmp k) k ≡ true
same_at k = grind (arith, nat_tests)

behind : (n q : ℕ) → n < q → nat_cmp n q ≡ Less
behind n q l = sym (nat_cmp_is n q Less l)

before : (n q : ℕ) → nat_cmp n q ≡ Less → n < q
before n q h = grind (arith, nat_tests, h)

never : {Q : Type 0} (o : Option Q) → (IsSome o → ⊥) → o ≡ None
never None h = refl
never (Some x) h = absurd (h refl)

module _ {Q : Type 0} where
  pub before_row : (u : Unfinished Q) (k : ℕ) → k < row_start u → request_at u k ≡ get nat_cmp u.passed k
  unfolding request_at
  before_row u k l = let t = lt-ltb k (row_start u) l in rw t refl

  pub in_row : (u : Unfinished Q) (k : ℕ) → row_start u ≤ k → request_at u k ≡ slice_get u.row.items (k - row_start u)
  unfolding request_at
  in_row u k l = let t = le-ltb k (row_start u) l in rw t refl

  -- past the last one that was made
  pub past_row : (u : Unfinished Q) (k : ℕ) → IsInOrder u → u.count ≤ k → request_at u k ≡ None
  past_row u k h l =
      let r = h.row in
      in_row u k (omega (arith, l)) ∙ slice_get_past u.row.items (k - row_start u) (omega (arith, l, r))

  in_some : (u : Unfinished Q) (k : ℕ) → row_start u ≤ k → k - row_start u < length u.row.items → IsSome (request_at u k)
  in_some u k l m = let x = slice_get-some u.row.items (k - row_start u) m in ap is_some (in_row u k l ∙ x.1)

  pub no_entry : (m : BTreeMap ℕ Q) (k : ℕ) → m.entries ≡ [] → get nat_cmp m k ≡ None
  no_entry m k e = ap (lookup (is_at (nat_cmp k))) e

  pub nil_if_empty : (m : BTreeMap ℕ Q) → (0 < btree_map_len m → ⊥) → m.entries ≡ []
  nil_if_empty m none = let n : length m.entries ≡ 0 = omega (arith, none) in nil_from_length m.entries n

  -- of no requests
  pub nothing : (u : Unfinished Q) (k : ℕ) → u.count ≡ 0 → u.row.items ≡ [] → request_at u k ≡ None
  nothing u k c r =
      let none : length u.row.items ≡ 0 = ap length r in
      in_row u k (omega (arith, c)) ∙ slice_get_past u.row.items (k - row_start u) (omega (arith, none))

  pub nothing_in_order : (u : Unfinished Q) → u.count ≡ 0 → u.row.items ≡ [] → u.passed.entries ≡ [] → IsInOrder u
  nothing_in_order u c r p =
      let none : length u.row.items ≡ 0 = ap length r in
      record { row = omega (arith, none); passed = λ k l. no_entry u.passed k p }

  -- one more in the row
  entered : (u v : Unfinished Q) (q : Q) → v.count ≡ u.count + 1 → v.row.items ≡ u.row.items ++ q ∷ [] → v.passed ≡ u.passed → IsInOrder u → Entered u q v
  entered u v q c r p h =
      let more : length v.row.items ≡ length u.row.items + 1 = ap length r ∙ length-append u.row.items (q ∷ []) in
      let l = h.row in
      let s : row_start v ≡ row_start u = omega (arith, more, c, l) in
      let at_end : u.count - row_start v ≡ length u.row.items = omega (arith, s, l) in
      record {
        in_order = record { row = omega (arith, more, c, l); passed = λ k b. ap (λ (m : BTreeMap ℕ Q). get nat_cmp m k) p ∙ h.passed k (omega (arith, s, b)) };
        here = in_row v u.count (omega (arith, s, l)) ∙ (ap (λ (xs : List Q). slice_get xs (u.count - row_start v)) r ∙ slice_get-last u.row.items q (u.count - row_start v) at_end);
        others = λ k ne.
            ⊎_elim
            (λ (b : k < row_start u). before_row v k (omega (arith, s, b)) ∙ (ap (λ (m : BTreeMap ℕ Q). get nat_cmp m k) p ∙ sym (before_row u k b)))
            (λ (b : row_start u ≤ k).
            let i = k - row_start u in
            let same : k - row_start v ≡ i = omega (arith, s) in
            in_row v k (omega (arith, s, b)) ∙ (ap (λ (xs : List Q). slice_get xs (k - row_start v)) r ∙ (ap (slice_get (u.row.items ++ q ∷ [])) same
            ∙ (⊎_elim
            (λ (w : i < length u.row.items). slice_get-append_left u.row.items (q ∷ []) i w)
            (λ (w : length u.row.items ≤ i).
            let apart : k ≢ u.count = ne in
            let far : length u.row.items + 1 ≤ i = omega (arith, w, b, l, apart) in
            slice_get_past (u.row.items ++ q ∷ []) i (omega (arith, far, length-append u.row.items (q ∷ []))) ∙ sym (slice_get_past u.row.items i w))
            (cases_lt i (length u.row.items))
            ∙ sym (in_row u k b)))))
            (cases_lt k (row_start u));
      }

  pub enters : (u v : Unfinished Q) (q : Q) → v.count ≡ u.count + 1 → v.row.items ≡ u.row.items ++ q ∷ [] → v.passed ≡ u.passed → Enters u q v
  enters u v q c r p = record { count = c; entered = λ h. entered u v q c r p h }

  -- what stands after the first one of the row
  behind_first : (u v : Unfinished Q) (k : ℕ) → v.row.items ≡ drop 1 u.row.items → row_start v ≡ row_start u + 1 → row_start v ≤ k → request_at v k ≡ request_at u k
  behind_first u v k r s l =
      in_row v k l ∙ (ap (λ (xs : List Q). slice_get xs (k - row_start v)) r ∙ (slice_get-drop 1 u.row.items (k - row_start v) (k - row_start u) (omega (arith, s, l)) ∙ sym (in_row u k (omega (arith, s, l)))))

  -- the first one of the row is passed by
  passed_on : (u v : Unfinished Q) (x : Q) → v.count ≡ u.count → u.row.items ≡ x ∷ v.row.items
      → ((q : ℕ) → get nat_cmp v.passed q ≡ cond (is_at (nat_cmp (row_start u)) q) (Some x) (get nat_cmp u.passed q))
      → IsInOrder u → IsSame u v
  passed_on u v x c r p h =
      let less : length u.row.items ≡ suc (length v.row.items) = ap length r in
      let l = h.row in
      let s : row_start v ≡ row_start u + 1 = omega (arith, less, c, l) in
      let other : (q : ℕ) → q ≢ row_start u → get nat_cmp v.passed q ≡ get nat_cmp u.passed q =
      λ q ne. p q ∙ ap (λ (b : Bool). cond b (Some x) (get nat_cmp u.passed q)) (other_at (row_start u) q ne) in
      let there : get nat_cmp v.passed (row_start u) ≡ Some x = p (row_start u) ∙ ap (λ (b : Bool). cond b (Some x) (get nat_cmp u.passed (row_start u))) (same_at (row_start u)) in
      record {
        in_order = record { row = omega (arith, less, c, l); passed = λ k b. other k (λ e. absurd (omega (arith, e, s, b))) ∙ h.passed k (omega (arith, s, b)) };
        count = c;
        same = λ q.
            ⊎_elim
            (λ (b : q < row_start u). before_row v q (omega (arith, s, b)) ∙ (other q (λ e. absurd (omega (arith, e, b))) ∙ sym (before_row u q b)))
            (λ (b : row_start u ≤ q).
            ⊎_elim
            (λ (e : q ≡ row_start u).
            let none : q - row_start u ≡ 0 = omega (arith, e) in
            before_row v q (omega (arith, e, s)) ∙ (ap (get nat_cmp v.passed) e ∙ there) ∙ sym (in_row u q b ∙ (ap (λ (xs : List Q). slice_get xs (q - row_start u)) r ∙ ap (slice_get (x ∷ v.row.items)) none)))
            (λ (ne : q ≢ row_start u).
            let apart : q ≢ row_start u = ne in
            behind_first u v q (sym (ap (drop 1) r)) s (omega (arith, s, b, apart)))
            (cases_eq q (row_start u)))
            (cases_lt q (row_start u));
      }

  pub passes_first : (u v : Unfinished Q) (x : Q) → v.count ≡ u.count → u.row.items ≡ x ∷ v.row.items
      → ((q : ℕ) → get nat_cmp v.passed q ≡ cond (is_at (nat_cmp (row_start u)) q) (Some x) (get nat_cmp u.passed q))
      → PassesBy u 1 v
  passes_first u v x c r p =
      let less : length u.row.items ≡ suc (length v.row.items) = ap length r in
      record { shorter = omega (arith, less); same = λ h. passed_on u v x c r p h }

  pub passes_none : (u : Unfinished Q) → PassesBy u 0 u
  passes_none u = record { shorter = omega arith; same = λ h. record { in_order = h; count = refl; same = λ q. refl } }

  pub passes_more : (u v w : Unfinished Q) (n : ℕ) → PassesBy u n v → PassesBy v 1 w → PassesBy u (n + 1) w
  passes_more u v w n a b =
      let x = a.shorter in
      let y = b.shorter in
      record {
        shorter = omega (arith, x, y);
        same = λ h.
            let f = a.same h in
            let g = b.same f.in_order in
            record { in_order = g.in_order; count = g.count ∙ f.count; same = λ q. g.same q ∙ f.same q };
      }

  -- the first one of the row is let go
  gone : (w v : Unfinished Q) (k : ℕ) → v.count ≡ w.count → v.row.items ≡ drop 1 w.row.items → v.passed ≡ w.passed → row_start v ≡ row_start w + 1 → k ≢ row_start w → request_at v k ≡ request_at w k
  gone w v k c r p s ne =
      ⊎_elim
      (λ (b : k < row_start w). before_row v k (omega (arith, s, b)) ∙ (ap (λ (m : BTreeMap ℕ Q). get nat_cmp m k) p ∙ sym (before_row w k b)))
      (λ (b : row_start w ≤ k). let apart : k ≢ row_start w = ne in behind_first w v k r s (omega (arith, s, b, apart)))
      (cases_lt k (row_start w))

  module _ (u w v : Unfinished Q) (place : ℕ) (l : place < length u.row.items) (p : PassesBy u place w)
      (c : v.count ≡ w.count) (r : v.row.items ≡ drop 1 w.row.items) (m : v.passed ≡ w.passed) (h : IsInOrder u) where
    start_there : row_start w ≡ row_start u + place
    start_there = let s = p.same h in let x = p.shorter in let y = s.count in let z = h.row in omega (arith, x, y, z, l)

    start_next : row_start v ≡ row_start w + 1
    start_next =
        let s = p.same h in
        let x = p.shorter in
        let z = s.in_order.row in
        let d : length v.row.items ≡ length w.row.items - 1 = ap length r ∙ length-drop 1 w.row.items in
        omega (arith, x, z, l, d, c)

    let_go_here : request_at v (row_start u + place) ≡ None
    let_go_here =
        let s = p.same h in
        let a = start_there in
        let b = start_next in
        before_row v (row_start u + place) (omega (arith, a, b)) ∙ (ap (λ (x : BTreeMap ℕ Q). get nat_cmp x (row_start u + place)) m ∙ s.in_order.passed (row_start u + place) (omega (arith, a)))

    let_go_others : ChangesAt (row_start u + place) u v
    let_go_others =
        let s = p.same h in
        let a = start_there in
        let b = start_next in
        let z = s.in_order.row in
        let d : length v.row.items ≡ length w.row.items - 1 = ap length r ∙ length-drop 1 w.row.items in
        record {
          in_order = record { row = omega (arith, z, d, c); passed = λ k e. ap (λ (x : BTreeMap ℕ Q). get nat_cmp x k) m ∙ s.in_order.passed k (omega (arith, b, e)) };
          count = c ∙ s.count;
          others = λ k ne. gone w v k c r m b (λ (e : k ≡ row_start w). ne (e ∙ a)) ∙ s.same k;
        }

  pub lets_go : (u w v : Unfinished Q) (place : ℕ) → place < length u.row.items → PassesBy u place w
      → v.count ≡ w.count → v.row.items ≡ drop 1 w.row.items → v.passed ≡ w.passed → LetsGo u (row_start u + place) v
  lets_go u w v place l p c r m = record { here = λ h. let_go_here u w v place l p c r m h; others = λ h. let_go_others u w v place l p c r m h }

  -- the first one that was passed by
  pub first_passed : (u : Unfinished Q) (k : ℕ) (x : Q) → get nat_cmp u.passed k ≡ Some x → IsLowerBound nat_cmp u.passed k → IsInOrder u → IsFirstFrom 0 (request_at u) (Some k)
  first_passed u k x here least h =
      ⊎_elim
      (λ (b : k < row_start u). (
        omega arith,
        ap is_some (before_row u k b ∙ here),
        λ j z l. before_row u j (omega (arith, b, l)) ∙ never (get nat_cmp u.passed j) (λ there. let e = le_from_not_gt k j (least j there) in absurd (omega (arith, e, l))),
      ))
      (λ (b : row_start u ≤ k). let none = h.passed k b in let z : Some x ≡ None = sym here ∙ none in cc)
      (cases_lt k (row_start u))

  -- none was passed by from a number on
  pub first_in_row : (u : Unfinished Q) (n : ℕ) (r : Option ℕ) → n ≤ row_start u → ((k : ℕ) → n ≤ k → get nat_cmp u.passed k ≡ None)
      → MatchOption r (u.row.items ≡ []) (λ m. (m ≡ row_start u) × (1 ≤ length u.row.items))
      → IsFirstFrom n (request_at u) r
  first_in_row u n None b none h = λ k l.
      let empty : length u.row.items ≡ 0 = ap length h in
      ⊎_elim
      (λ (d : k < row_start u). before_row u k d ∙ none k l)
      (λ (d : row_start u ≤ k). in_row u k d ∙ slice_get_past u.row.items (k - row_start u) (omega (arith, empty)))
      (cases_lt k (row_start u))
  first_in_row u n (Some m) b none h =
      let e = h.0 in
      let some = h.1 in
      (omega (arith, b, e), in_some u m (omega (arith, e)) (omega (arith, e, some)), λ k l d. before_row u k (omega (arith, d, e)) ∙ none k l)

  -- the first one that was passed by after a number
  pub next_passed : (u : Unfinished Q) (n k : ℕ) (x : Q) (r t : List (ℕ × Q)) → IsRangeOf nat_cmp (Excluded n) Unbounded u.passed r → r ≡ (k, x) ∷ t → IsInOrder u → IsFirstFrom (n + 1) (request_at u) (Some k)
  next_passed u n k x r t range is h =
      let first = rw is at range.1 in
      let l : n < k = before n k first.0.0 in
      ⊎_elim
      (λ (b : k < row_start u). (
        omega (arith, l),
        ap is_some (before_row u k b ∙ first.1),
        λ j m d. before_row u j (omega (arith, b, d)) ∙ never (get nat_cmp u.passed j) (λ there. let g = rw is at (range.2 j (behind n j (omega (arith, m)), tt) there) in let e = le_from_not_gt k j g in absurd (omega (arith, e, d))),
      ))
      (λ (b : row_start u ≤ k). let none = h.passed k b in let z : Some x ≡ None = sym first.1 ∙ none in cc)
      (cases_lt k (row_start u))

  pub none_behind : (m : BTreeMap ℕ Q) (n : ℕ) (r : List (ℕ × Q)) → IsRangeOf nat_cmp (Excluded n) Unbounded m r → r ≡ [] → (k : ℕ) → n + 1 ≤ k → get nat_cmp m k ≡ None
  none_behind m n r range is k l = range.5 is k (behind n k (omega (arith, l)), tt)

  -- after a number of the row, or past it
  pub next_in_row : (u : Unfinished Q) (n : ℕ) → row_start u ≤ n → n + 1 < u.count → IsInOrder u → IsFirstFrom (n + 1) (request_at u) (Some (n + 1))
  next_in_row u n b l h =
      let r = h.row in
      (omega arith, in_some u (n + 1) (omega (arith, b)) (omega (arith, b, l, r)), λ k d e. absurd (omega (arith, d, e)))

  pub next_none : (u : Unfinished Q) (n : ℕ) → u.count ≤ n + 1 → IsInOrder u → (k : ℕ) → n + 1 ≤ k → request_at u k ≡ None
  next_none u n l h k b = past_row u k h (omega (arith, l, b))

  -- what stands at a place of the row
  pub at_place : (u : Unfinished Q) (place : ℕ) (x : Q) → place < length u.row.items → x ≡ get_or u.row.items place x → request_at u (row_start u + place) ≡ Some x
  at_place u place x l e =
      let there : (row_start u + place) - row_start u ≡ place = omega arith in
      in_row u (row_start u + place) (omega arith) ∙ (ap (slice_get u.row.items) there ∙ slice_get_read u.row.items (length u.row.items) place x refl l e)

  -- it is another one
  module _ (u v : Unfinished Q) (place : ℕ) (x : Q) (l : place < length u.row.items) (c : v.count ≡ u.count) (r : v.row.items ≡ set u.row.items place x) (p : v.passed ≡ u.passed) where
    set_length : length v.row.items ≡ length u.row.items
    set_length = ap length r ∙ length-set u.row.items place x

    pub set_start : row_start v ≡ row_start u
    set_start = let a = set_length in omega (arith, a, c)

    pub set_here : request_at v (row_start u + place) ≡ Some x
    set_here =
        let a = set_start in
        let there : (row_start u + place) - row_start v ≡ place = omega (arith, a) in
        in_row v (row_start u + place) (omega (arith, a)) ∙ (ap (λ (xs : List Q). slice_get xs ((row_start u + place) - row_start v)) r ∙ (ap (slice_get (set u.row.items place x)) there ∙ slice_get-set_same u.row.items place x l))

    set_other : (k : ℕ) → k ≢ row_start u + place → request_at v k ≡ request_at u k
    set_other k ne =
        let a = set_start in
        ⊎_elim
        (λ (b : k < row_start u). before_row v k (omega (arith, a, b)) ∙ (ap (λ (m : BTreeMap ℕ Q). get nat_cmp m k) p ∙ sym (before_row u k b)))
        (λ (b : row_start u ≤ k).
        let same : k - row_start v ≡ k - row_start u = omega (arith, a) in
        in_row v k (omega (arith, a, b)) ∙ (ap (λ (xs : List Q). slice_get xs (k - row_start v)) r ∙ (ap (slice_get (set u.row.items place x)) same ∙ (slice_get-set_other u.row.items place (k - row_start u) x (λ (e : k - row_start u ≡ place). let z : k ≡ row_start u + place = omega (arith, e, b) in ne z) ∙ sym (in_row u k b)))))
        (cases_lt k (row_start u))

    pub set_changes : IsInOrder u → ChangesAt (row_start u + place) u v
    set_changes h =
        let a = set_start in
        let b = set_length in
        let d = h.row in
        record {
          in_order = record { row = omega (arith, b, c, d); passed = λ k e. ap (λ (m : BTreeMap ℕ Q). get nat_cmp m k) p ∙ h.passed k (omega (arith, a, e)) };
          count = c;
          others = set_other;
        }

  pub changes_on : (k : ℕ) (u w v : Unfinished Q) → ChangesAt k u w → ChangesAt k w v → ChangesAt k u v
  changes_on k u w v a b = record { in_order = b.in_order; count = b.count ∙ a.count; others = λ q ne. b.others q ne ∙ a.others q ne }

  pub changes_nothing : (k : ℕ) (u : Unfinished Q) → IsInOrder u → ChangesAt k u u
  changes_nothing k u h = record { in_order = h; count = refl; others = λ q ne. refl }

  -- one that was passed by is another one
  module _ (u v : Unfinished Q) (k : ℕ) (b : k < row_start u) (c : v.count ≡ u.count) (r : v.row.items ≡ u.row.items) where
    kept_length : length v.row.items ≡ length u.row.items
    kept_length = ap length r

    kept_start : row_start v ≡ row_start u
    kept_start = let a = kept_length in omega (arith, a, c)

    pub passed_here : request_at v k ≡ get nat_cmp v.passed k
    passed_here = let a = kept_start in before_row v k (omega (arith, a, b))

    pub passed_changes : ((q : ℕ) → q ≢ k → get nat_cmp v.passed q ≡ get nat_cmp u.passed q) → IsInOrder u → ChangesAt k u v
    passed_changes others h =
        let a = kept_start in
        let n = kept_length in
        let d = h.row in
        record {
          in_order = record { row = omega (arith, n, c, d); passed = λ q e. others q (λ (z : q ≡ k). absurd (omega (arith, z, a, e, b))) ∙ h.passed q (omega (arith, a, e)) };
          count = c;
          others = λ q ne.
              ⊎_elim
              (λ (z : q < row_start u). before_row v q (omega (arith, a, z)) ∙ (others q ne ∙ sym (before_row u q z)))
              (λ (z : row_start u ≤ q).
              let same : q - row_start v ≡ q - row_start u = omega (arith, a) in
              in_row v q (omega (arith, a, z)) ∙ (ap (λ (xs : List Q). slice_get xs (q - row_start v)) r ∙ (ap (slice_get u.row.items) same ∙ sym (in_row u q z))))
              (cases_lt q (row_start u));
        }

-- Where exchanges are kept, and what is kept under a number once one of them was polled, or one more is kept.
use Rattle.std.proofs.Common.{◌≡◌, ◌≢◌, ℕ, zero, suc, ◌+◌, ◌<◌, ◌≤◌, List, [], ◌∷◌, ◌++◌, length, take, drop, add-one, Bool, true, false, refl, ap, sym, ◌∙◌, append_assoc, append-nil, arith, length-append, length-drop}
use Rattle.std.specs.Prelude.{Option, Some, None, nat_eq, if◌then◌else◌, slice_index_or, slice_set}
use Rattle.std.proofs.lemmas.Bool.Decides.{nat_tests}
use Rattle.std.proofs.lemmas.List.{nil_from_length}
use Rattle.dns_name.specs.declared.address.SocketAddr.{SocketAddr}
use Rattle.dns_io.specs.declared.sock.Packet.{Packet}
use Rattle.dns_service.specs.Answer.{Answer}
use Rattle.dns_service.specs.declared.polled.PolledRequest.{PolledRequest}
use Rattle.dns_session.specs.Serving.{Serving}
use Rattle.dns_session.specs.declared.kept.KeptRequest.{KeptRequest}
use Rattle.dns_dgram_driver.specs.Steps.{TurnedExchange, TurnedOne, TurnedFirst, IsFirstNumber, StandFirst, gone_behind, numbers_of, kept_at, kept_under}
use Rattle.dns_dgram_driver.specs.declared.running.KeptExchange.{KeptExchange}
use Rattle.dns_dgram_driver.proofs.Keeping.{turned_behind}

-- of some numbers the first ones are passed one after the other
drop_first : (ns others : List ℕ) (k : ℕ) → k < length ns → drop 1 (drop k ns ++ others) ≡ drop (suc k) ns ++ others
drop_first [] others k h = absurd (omega (arith, h))
drop_first (n ∷ ns) others zero h = refl
drop_first (n ∷ ns) others (suc k) h = drop_first ns others k (omega (arith, h))

take_first : (ns others : List ℕ) (k : ℕ) → k < length ns → drop k ns ≡ take 1 (drop k ns ++ others) ++ drop (suc k) ns
take_first [] others k h = absurd (omega (arith, h))
take_first (n ∷ ns) others zero h = refl
take_first (n ∷ ns) others (suc k) h = take_first ns others k (omega (arith, h))

-- the first one goes after the others, or is kept no more
others_behind : (done : Bool) (ns : List ℕ) → (others : List ℕ) × (gone_behind done ns ≡ drop 1 ns ++ others)
others_behind true ns = ([], sym (append-nil (drop 1 ns)))
others_behind false ns = (take 1 ns, refl)

pub none_left : (ns : List ℕ) (k : ℕ) → length ns ≤ k → drop k ns ≡ []
none_left ns k h = nil_from_length (drop k ns) (omega (arith, h, length-drop k ns))

same_number : (n : ℕ) → nat_eq n n ≡ true
same_number n = grind (arith, nat_tests)

other_number : (c n : ℕ) → c ≢ n → nat_eq c n ≡ false
other_number c n h = grind (arith, nat_tests, h)

module _ {W R F : Type 0} where
  kept_more : (c : ℕ) (xs ys : List (KeptExchange W R F)) → kept_at c (xs ++ ys) ≡ kept_at c xs ++ kept_at c ys
  kept_more c [] ys = refl
  kept_more c (x ∷ xs) ys = by (nat_eq c x.number) (kept_more c xs ys)
    where
      by : (b : Bool) → kept_at c (xs ++ ys) ≡ kept_at c xs ++ kept_at c ys → (if b then x ∷ kept_at c (xs ++ ys) else kept_at c (xs ++ ys)) ≡ (if b then x ∷ kept_at c xs else kept_at c xs) ++ kept_at c ys
      by true h = ap (λ z. x ∷ z) h
      by false h = h

  kept_here : (c : ℕ) (x : KeptExchange W R F) (xs : List (KeptExchange W R F)) → x.number ≡ c → kept_at c (x ∷ xs) ≡ x ∷ kept_at c xs
  kept_here c x xs h = rw (h, same_number c) refl

  kept_not : (c : ℕ) (x : KeptExchange W R F) (xs : List (KeptExchange W R F)) → c ≢ x.number → kept_at c (x ∷ xs) ≡ kept_at c xs
  kept_not c x xs h = rw (other_number c x.number h) refl

  numbers_more : (xs ys : List (KeptExchange W R F)) → numbers_of (xs ++ ys) ≡ numbers_of xs ++ numbers_of ys
  numbers_more [] ys = refl
  numbers_more (x ∷ xs) ys = ap (λ z. x.number ∷ z) (numbers_more xs ys)

  pub numbers_length : (xs : List (KeptExchange W R F)) → length (numbers_of xs) ≡ length xs
  numbers_length [] = refl
  numbers_length (x ∷ xs) = ap suc (numbers_length xs)

  pub first_number : (xs : List (KeptExchange W R F)) (x : KeptExchange W R F) → 0 < length xs → x ≡ slice_index_or xs 0 x → IsFirstNumber x.number xs
  first_number [] x h e = absurd (omega (arith, h))
  first_number (y ∷ xs) x h e = ap (λ (z : KeptExchange W R F). z.number ∷ []) (sym e)

  -- ---- numbers that stand first

  pub first_stands : (ns : List ℕ) (k : ℕ) (xs : List (KeptExchange W R F)) → k < length ns → StandFirst (drop k ns) xs → 0 < length xs
  first_stands ns k xs h f = let e : length (numbers_of xs) ≡ length (drop k ns ++ f.0) = ap length f.1 in omega (arith, h, e, length-append (drop k ns) f.0, length-drop k ns, numbers_length xs)

  pub next_is : (ns : List ℕ) (k : ℕ) (xs : List (KeptExchange W R F)) → k < length ns → StandFirst (drop k ns) xs → drop k ns ≡ take 1 (numbers_of xs) ++ drop (k + 1) ns
  next_is ns k xs h f = rw (f.1, add-one k) (take_first ns f.0 k h)

  pub stand_behind : (ns : List ℕ) (k : ℕ) (xs ys : List (KeptExchange W R F)) (done : Bool) → k < length ns → StandFirst (drop k ns) xs → numbers_of ys ≡ gone_behind done (numbers_of xs) → StandFirst (drop (k + 1) ns) ys
  stand_behind ns k xs ys done h f g =
      let o = others_behind done (numbers_of xs) in (
        f.0 ++ o.0,
        g ∙ (o.1 ∙ (ap (λ z. drop 1 z ++ o.0) f.1 ∙ (ap (λ z. z ++ o.0) (drop_first ns f.0 k h) ∙ (append_assoc (drop (suc k) ns) f.0 o.0 ∙ ap (λ m. drop m ns ++ (f.0 ++ o.0)) (sym (add-one k)))))),
      )

  -- ---- one more

  pub pushed_here : (c : ℕ) (addr : SocketAddr) (xs ys : List (KeptExchange W R F)) (q : Option (KeptRequest F R)) → ys ≡ xs ++ kept_under c addr q → kept_at c ys ≡ kept_at c xs ++ kept_under c addr q
  pushed_here c addr xs ys None h = rw (h, append-nil xs) (sym (append-nil (kept_at c xs)))
  pushed_here c addr xs ys (Some q) h = let x : KeptExchange W R F = record { number = c; request = q; addr = addr } in rw h (kept_more c xs (x ∷ []) ∙ ap (λ z. kept_at c xs ++ z) (kept_here c x [] refl))

  pub pushed_others : (c n : ℕ) (addr : SocketAddr) (xs ys : List (KeptExchange W R F)) (q : Option (KeptRequest F R)) → c ≢ n → ys ≡ xs ++ kept_under n addr q → kept_at c ys ≡ kept_at c xs
  pushed_others c n addr xs ys None d h = rw (h, append-nil xs) refl
  pushed_others c n addr xs ys (Some q) d h = let x : KeptExchange W R F = record { number = n; request = q; addr = addr } in rw h (kept_more c xs (x ∷ []) ∙ ap (λ z. kept_at c xs ++ z) (kept_not c x [] d) ∙ append-nil (kept_at c xs))

-- ---- one that was polled

module _ {W R F : Type 0} (answer : PolledRequest F R → ℕ → Answer) where
  pub turned_first : (xs ys : List (KeptExchange W R F)) (x w : KeptExchange W R F) (packet : Option Packet) (done : Bool) → 0 < length xs → x ≡ slice_index_or xs 0 x → ys ≡ slice_set xs 0 w → w.number ≡ x.number
      → ((answers : Serving) → TurnedOne answer answers x packet done w) → TurnedFirst answer xs packet done ys
  turned_first [] ys x w packet done h is set n t = absurd (omega (arith, h))
  turned_first (y ∷ xs) ys x w packet done h is set n t = record { behind = xs; was = x; now = w; old_is = ap (λ z. z ∷ xs) (sym is); new_is = set; number = n; turned = t }

  -- what is left of it
  abbrev rest : KeptExchange W R F → Bool → List (KeptExchange W R F)
  rest x done = if done then [] else x ∷ []

  left_is : (behind xs ys : List (KeptExchange W R F)) (w : KeptExchange W R F) (done : Bool) → xs ≡ w ∷ behind → ys ≡ gone_behind done xs → ys ≡ behind ++ rest w done
  left_is behind xs ys w true h l = rw (l, h) (sym (append-nil behind))
  left_is behind xs ys w false h l = rw (l, h) refl

  rest_here : (c : ℕ) (w : KeptExchange W R F) (done : Bool) → w.number ≡ c → kept_at c (rest w done) ≡ rest w done
  rest_here c w true n = refl
  rest_here c w false n = kept_here c w [] n

  rest_not : (c : ℕ) (w : KeptExchange W R F) (done : Bool) → c ≢ w.number → kept_at c (rest w done) ≡ []
  rest_not c w true n = refl
  rest_not c w false n = kept_not c w [] n

  module _ {old there new : List (KeptExchange W R F)} {packet : Option Packet} {done : Bool} (t : TurnedFirst answer old packet done there) (l : new ≡ gone_behind done there) where
    left : new ≡ t.behind ++ rest t.now done
    left = left_is t.behind there new t.now done t.new_is l

    -- whose number it is
    turned_number : (n : ℕ) → IsFirstNumber n old → t.was.number ≡ n
    turned_number n h = let g : take 1 (numbers_of old) ≡ t.was.number ∷ [] = rw t.old_is refl in cc

    -- what is kept under a number
    turned_kept : (c : ℕ) → kept_at c new ≡ kept_at c t.behind ++ kept_at c (rest t.now done)
    turned_kept c = rw left (kept_more c t.behind (rest t.now done))

    pub turned_here : (c : ℕ) (answers : Serving) → IsFirstNumber c old → TurnedExchange answer answers (kept_at c old) packet (kept_at c new)
    turned_here c answers is =
        let n = turned_number c is in
        let a : kept_at c old ≡ t.was ∷ kept_at c t.behind = rw t.old_is (kept_here c t.was t.behind n) in
        let b : kept_at c new ≡ kept_at c t.behind ++ rest t.now done = turned_kept c ∙ ap (λ z. kept_at c t.behind ++ z) (rest_here c t.now done (t.number ∙ n)) in
        rw (a, b) (turned_behind answer answers (kept_at c t.behind) t.was packet done t.now (t.turned answers))

    pub turned_others : (m c : ℕ) → IsFirstNumber m old → c ≢ m → kept_at c new ≡ kept_at c old
    turned_others m c is h =
        let n = turned_number m is in
        let a : kept_at c old ≡ kept_at c t.behind = rw t.old_is (kept_not c t.was t.behind (λ (y : c ≡ t.was.number). h (y ∙ n))) in
        let b : kept_at c (rest t.now done) ≡ [] = rest_not c t.now done (λ (y : c ≡ t.now.number). h (y ∙ (t.number ∙ n))) in
        turned_kept c ∙ (ap (λ z. kept_at c t.behind ++ z) b ∙ (append-nil (kept_at c t.behind) ∙ sym a))

    -- the numbers stand in the same order
    pub turned_order : numbers_of new ≡ gone_behind done (numbers_of old)
    turned_order = rw (left, t.old_is) (by done)
      where
        by : (d : Bool) → numbers_of (t.behind ++ rest t.now d) ≡ gone_behind d (numbers_of (t.was ∷ t.behind))
        by true = ap (λ (xs : List (KeptExchange W R F)). numbers_of xs) (append-nil t.behind)
        by false = numbers_more t.behind (t.now ∷ []) ∙ ap (λ m. numbers_of t.behind ++ m ∷ []) t.number

-- How the walk along a name goes on.
use Rattle.std.proofs.Common.{Bool, ◌≡◌, ℕ, zero, suc, ◌+◌, ◌-◌, ◌≤◌, ◌<◌, List, [], ◌∷◌, length, drop, take, Option, Some, None, Ok, Err, Result, refl, subst, arith, IsOk, IfSome, true, false, if◌then◌else◌, nat_lt, unwrap_or, get_or, drop-cons, length-drop, length-take}
use Rattle.std.proofs.lemmas.Bool.Decides.{nat_tests}
use Rattle.std.proofs.lemmas.List.{get_or-take}
use Rattle.dns_name.specs.declared.error.ParseError.{ParseError}
use Rattle.dns_name.specs.declared.error.ParseError.TheVariants.{Form}
use Rattle.dns_name.specs.declared.error.FormReason.TheVariants.{Hops, LongName}
use Rattle.dns_name.specs.declared.piece.Piece.{Piece}
use Rattle.dns_name.specs.declared.piece.Piece.TheVariants.{End, Text, Jump}
use Rattle.dns_name.specs.Place.{Read}
use Rattle.dns_name.specs.declared.piece.NameBounds.{NameBounds}
use Rattle.dns_name.specs.Names.{jump, name_piece_of, name_piece, with_label, with_end, by_piece, name_up_to, most, rest_of, near, labels_of, end_by, CanGoOn}

same_text : (size n : ℕ) (l : List ℕ) (x y : Read (List (List ℕ))) → (size + n + 2 ≤ 255 → x ≡ y) → (if nat_lt 255 (size + n + 2) then Err (Form LongName) else with_label l x) ≡ (if nat_lt 255 (size + n + 2) then Err (Form LongName) else with_label l y)
same_text size n l x y h = grind (arith, nat_tests)

same_jump : (hops e : ℕ) (x y : Read (List (List ℕ))) → (hops ≤ 254 → x ≡ y) → (if nat_lt 254 hops then Err (Form Hops) else with_end e x) ≡ (if nat_lt 254 hops then Err (Form Hops) else with_end e y)
same_jump hops e x y h = grind (arith, nat_tests)

same_piece : (go on : ℕ → ℕ → ℕ → Read (List (List ℕ))) (o : List ℕ) (at size hops : ℕ) (p : Result Piece ParseError) →
    ((n : ℕ) → size + n + 2 ≤ 255 → go (at + n + 1) (size + n + 1) hops ≡ on (at + n + 1) (size + n + 1) hops) →
    ((t : ℕ) → hops ≤ 254 → go t size (hops + 1) ≡ on t size (hops + 1)) →
    by_piece go o at size hops p ≡ by_piece on o at size hops p
same_piece go on o at size hops (Err e) ht hj = refl
same_piece go on o at size hops (Ok End) ht hj = refl
same_piece go on o at size hops (Ok (Text n)) ht hj = same_text size n _ _ _ (ht n)
same_piece go on o at size hops (Ok (Jump t)) ht hj = same_jump hops _ _ _ (hj t)

-- a larger bound changes nothing
enough : (k m : ℕ) (o : List ℕ) (r : NameBounds) (at size hops : ℕ) → most size hops ≤ k → most size hops ≤ m → name_up_to k o r at size hops ≡ name_up_to m o r at size hops
enough zero m o r at size hops hk hm = absurd (omega arith)
enough (suc k) zero o r at size hops hk hm = absurd (omega arith)
enough (suc k) (suc m) o r at size hops hk hm =
    same_piece (name_up_to k o r) (name_up_to m o r) o at size hops (name_piece r hops o at)
    (λ n h. enough k m o r (at + n + 1) (size + n + 1) hops (omega arith) (omega arith))
    (λ t h. enough k m o r t size (hops + 1) (omega arith) (omega arith))

-- the rest of a name, by its next piece
pub rest_unrolled : (o : List ℕ) (r : NameBounds) (at size hops : ℕ) → rest_of o r at size hops ≡ by_piece (rest_of o r) o at size hops (name_piece r hops o at)
unfolding rest_of
rest_unrolled o r at size hops =
    let k = (255 - size) + (255 - hops) in
    same_piece (name_up_to k o r) (λ a s h. name_up_to (most s h) o r a s h) o at size hops (name_piece r hops o at)
    (λ n h. enough k (most (size + n + 1) hops) o r (at + n + 1) (size + n + 1) hops (omega arith) (omega arith))
    (λ t h. enough k (most size (hops + 1)) o r t size (hops + 1) (omega arith) (omega arith))

-- the walk of the code, which keeps the place after the first pointer
pub walk_err : (o : List ℕ) (r : NameBounds) (at size hops : ℕ) (e : Option ℕ) (x : ParseError) → name_piece r hops o at ≡ Err x → end_by e (rest_of o r at size hops) ≡ Err x
walk_err o r at size hops None x h = rw (rest_unrolled o r at size hops, h) refl
walk_err o r at size hops (Some y) x h = rw (rest_unrolled o r at size hops, h) refl

pub walk_end : (o : List ℕ) (r : NameBounds) (at size hops : ℕ) (e : Option ℕ) → name_piece r hops o at ≡ Ok End → end_by e (rest_of o r at size hops) ≡ Ok (unwrap_or e (at + 1))
walk_end o r at size hops None h = rw (rest_unrolled o r at size hops, h) refl
walk_end o r at size hops (Some y) h = rw (rest_unrolled o r at size hops, h) refl

long : (size n : ℕ) (l : List ℕ) (x : Read (List (List ℕ))) → 255 < size + n + 2 → (if nat_lt 255 (size + n + 2) then Err (Form LongName) else with_label l x) ≡ Err (Form LongName)
long size n l x h = grind (arith, nat_tests)

short : (size n : ℕ) (l : List ℕ) (x : Read (List (List ℕ))) → size + n + 2 ≤ 255 → (if nat_lt 255 (size + n + 2) then Err (Form LongName) else with_label l x) ≡ with_label l x
short size n l x h = grind (arith, nat_tests)

many : (hops e : ℕ) (x : Read (List (List ℕ))) → 254 < hops → (if nat_lt 254 hops then Err (Form Hops) else with_end e x) ≡ Err (Form Hops)
many hops e x h = grind (arith, nat_tests)

few : (hops e : ℕ) (x : Read (List (List ℕ))) → hops ≤ 254 → (if nat_lt 254 hops then Err (Form Hops) else with_end e x) ≡ with_end e x
few hops e x h = grind (arith, nat_tests)

-- the rest of a name, by what its next piece is
pub rest_long : (o : List ℕ) (r : NameBounds) (at size hops n : ℕ) → name_piece r hops o at ≡ Ok (Text n) → 255 < size + n + 2 → rest_of o r at size hops ≡ Err (Form LongName)
rest_long o r at size hops n h k = rw (rest_unrolled o r at size hops, h) (long size n _ _ k)

pub rest_text : (o : List ℕ) (r : NameBounds) (at size hops n : ℕ) → name_piece r hops o at ≡ Ok (Text n) → size + n + 2 ≤ 255 → rest_of o r at size hops ≡ with_label (take n (drop (at + 1) o)) (rest_of o r (at + n + 1) (size + n + 1) hops)
rest_text o r at size hops n h k = rw (rest_unrolled o r at size hops, h) (short size n _ _ k)

pub rest_hops : (o : List ℕ) (r : NameBounds) (at size hops t : ℕ) → name_piece r hops o at ≡ Ok (Jump t) → 254 < hops → rest_of o r at size hops ≡ Err (Form Hops)
rest_hops o r at size hops t h k = rw (rest_unrolled o r at size hops, h) (many hops _ _ k)

pub rest_jump : (o : List ℕ) (r : NameBounds) (at size hops t : ℕ) → name_piece r hops o at ≡ Ok (Jump t) → hops ≤ 254 → rest_of o r at size hops ≡ with_end (at + 2) (rest_of o r t size (hops + 1))
rest_jump o r at size hops t h k = rw (rest_unrolled o r at size hops, h) (few hops _ _ k)

pub walk_long : (o : List ℕ) (r : NameBounds) (at size hops : ℕ) (e : Option ℕ) (n : ℕ) → name_piece r hops o at ≡ Ok (Text n) → 255 < size + n + 2 → end_by e (rest_of o r at size hops) ≡ Err (Form LongName)
walk_long o r at size hops None n h k = rw (rest_long o r at size hops n h k) refl
walk_long o r at size hops (Some y) n h k = rw (rest_long o r at size hops n h k) refl

pub walk_hops : (o : List ℕ) (r : NameBounds) (at size hops : ℕ) (e : Option ℕ) (t : ℕ) → name_piece r hops o at ≡ Ok (Jump t) → 254 < hops → end_by e (rest_of o r at size hops) ≡ Err (Form Hops)
walk_hops o r at size hops None t h k = rw (rest_hops o r at size hops t h k) refl
walk_hops o r at size hops (Some y) t h k = rw (rest_hops o r at size hops t h k) refl

label_end : (l : List ℕ) (e : Option ℕ) (r : Read (List (List ℕ))) → end_by e (with_label l r) ≡ end_by e r
label_end l None (Ok x) = refl
label_end l None (Err x) = refl
label_end l (Some y) (Ok x) = refl
label_end l (Some y) (Err x) = refl

jump_end : (n : ℕ) (e : Option ℕ) (r : Read (List (List ℕ))) → end_by e (with_end n r) ≡ end_by (Some (unwrap_or e n)) r
jump_end n None (Ok x) = refl
jump_end n None (Err x) = refl
jump_end n (Some y) (Ok x) = refl
jump_end n (Some y) (Err x) = refl

pub walk_text : (o : List ℕ) (r : NameBounds) (at size hops : ℕ) (e : Option ℕ) (n : ℕ) → name_piece r hops o at ≡ Ok (Text n) → size + n + 2 ≤ 255 → end_by e (rest_of o r at size hops) ≡ end_by e (rest_of o r (at + n + 1) (size + n + 1) hops)
walk_text o r at size hops e n h k = rw (rest_text o r at size hops n h k) (label_end _ e _)

pub walk_jump : (o : List ℕ) (r : NameBounds) (at size hops : ℕ) (e : Option ℕ) (t : ℕ) → name_piece r hops o at ≡ Ok (Jump t) → hops ≤ 254 → end_by e (rest_of o r at size hops) ≡ end_by (Some (unwrap_or e (at + 2))) (rest_of o r t size (hops + 1))
walk_jump o r at size hops e t h k = rw (rest_jump o r at size hops t h k) (jump_end _ e _)

-- what is known of a piece
jump_within : (at head t : ℕ) (o : List ℕ) → jump at head o ≡ Ok (Jump t) → (t < at) × (1 ≤ length o)
jump_within at head t [] h = cc
jump_within at head t (low ∷ o) h = grind (arith, nat_tests)

pub jump_no_text : (at head n : ℕ) (o : List ℕ) → jump at head o ≡ Ok (Text n) → ⊥
jump_no_text at head n [] h = cc
jump_no_text at head n (low ∷ o) h = grind (arith, nat_tests)

pub jump_no_end : (at head : ℕ) (o : List ℕ) → jump at head o ≡ Ok End → ⊥
jump_no_end at head [] h = cc
jump_no_end at head (low ∷ o) h = grind (arith, nat_tests)

of_text : (b : Bool) (at n : ℕ) (o : List ℕ) → name_piece_of b at o ≡ Ok (Text n) → (0 < n) × (n < 64) × (n + 1 ≤ length o)
of_text b at n [] h = cc
of_text true at n (head ∷ o) h = let j = jump_no_text at head n o in grind (arith, nat_tests)
of_text false at n (head ∷ o) h = grind (arith, nat_tests)

of_jump : (b : Bool) (at t : ℕ) (o : List ℕ) → name_piece_of b at o ≡ Ok (Jump t) → (t < at) × (2 ≤ length o) × (b ≡ true)
of_jump b at t [] h = cc
of_jump true at t (head ∷ o) h = let j = jump_within at head t o in (grind (arith, nat_tests), grind (arith, nat_tests), refl)
of_jump false at t (head ∷ o) h = absurd (grind (arith, nat_tests))

of_end : (b : Bool) (at : ℕ) (o : List ℕ) → name_piece_of b at o ≡ Ok End → 1 ≤ length o
of_end b at [] h = cc
of_end b at (head ∷ o) h = omega arith

pub text_within : (r : NameBounds) (hops : ℕ) (o : List ℕ) (at n : ℕ) → name_piece r hops o at ≡ Ok (Text n) → (0 < n) × (n < 64) × (at + n + 1 ≤ length (near r.limit hops o))
unfolding name_piece
text_within r hops o at n h = let p = of_text r.pointers at n (drop at (near r.limit hops o)) h in let l = length-drop at (near r.limit hops o) in (p.0, p.1, omega arith)

pub jump_back : (r : NameBounds) (hops : ℕ) (o : List ℕ) (at t : ℕ) → name_piece r hops o at ≡ Ok (Jump t) → (t < at) × (at + 2 ≤ length (near r.limit hops o))
unfolding name_piece
jump_back r hops o at t h = let p = of_jump r.pointers at t (drop at (near r.limit hops o)) h in let l = length-drop at (near r.limit hops o) in (p.0, omega arith)

pub end_within : (r : NameBounds) (hops : ℕ) (o : List ℕ) (at : ℕ) → name_piece r hops o at ≡ Ok End → at + 1 ≤ length (near r.limit hops o)
unfolding name_piece
end_within r hops o at h = let p = of_end r.pointers at (drop at (near r.limit hops o)) h in let l = length-drop at (near r.limit hops o) in omega arith

-- what can be seen
pub near_short : (limit hops : ℕ) (o : List ℕ) → length (near limit hops o) ≤ length o
near_short limit hops o = let e = length-take limit o in grind (arith, nat_tests)

pub near_jumped : (limit hops : ℕ) (o : List ℕ) → near limit (hops + 1) o ≡ o
near_jumped limit hops o = grind (arith, nat_tests)

-- the steps of the labels
sized : (size n : ℕ) (l : List ℕ) (x : Read (List (List ℕ))) → IsOk (if nat_lt 255 (size + n + 2) then Err (Form LongName) else with_label l x) → size + n + 2 ≤ 255
sized size n l x h = grind (arith, nat_tests)

jumped : (hops e : ℕ) (x : Read (List (List ℕ))) → IsOk (if nat_lt 254 hops then Err (Form Hops) else with_end e x) → hops ≤ 254
jumped hops e x h = grind (arith, nat_tests)

behind_label : (l : List ℕ) (r : Read (List (List ℕ))) → IsOk (with_label l r) → IsOk r × (labels_of (with_label l r) ≡ l ∷ labels_of r)
behind_label l (Ok x) h = (refl, refl)
behind_label l (Err e) h = cc

behind_jump : (n : ℕ) (r : Read (List (List ℕ))) → IsOk (with_end n r) → IsOk r × (labels_of (with_end n r) ≡ labels_of r)
behind_jump n (Ok x) h = (refl, refl)
behind_jump n (Err e) h = cc

pub next_text : (o : List ℕ) (r : NameBounds) (at size hops n : ℕ) → CanGoOn o r at size hops → name_piece r hops o at ≡ Ok (Text n) →
    CanGoOn o r (at + n + 1) (size + n + 1) hops × (labels_of (rest_of o r at size hops) ≡ take n (drop (at + 1) o) ∷ labels_of (rest_of o r (at + n + 1) (size + n + 1) hops))
next_text o r at size hops n c h =
    let s : size + n + 2 ≤ 255 = sized size n _ _ (rw (rest_unrolled o r at size hops, h) at c.readable) in
    let t = text_within r hops o at n h in
    let b = behind_label _ _ (rw (rest_text o r at size hops n h s) at c.readable) in
    (record { within = t.2; limited = c.limited; sized = omega arith; jumped = c.jumped; readable = b.0 }, rw (rest_text o r at size hops n h s) b.1)

pub next_jump : (o : List ℕ) (r : NameBounds) (at size hops t : ℕ) → CanGoOn o r at size hops → name_piece r hops o at ≡ Ok (Jump t) →
    CanGoOn o r t size (hops + 1) × (labels_of (rest_of o r at size hops) ≡ labels_of (rest_of o r t size (hops + 1)))
next_jump o r at size hops t c h =
    let s : hops ≤ 254 = jumped hops _ _ (rw (rest_unrolled o r at size hops, h) at c.readable) in
    let j = jump_back r hops o at t h in
    let w : at ≤ length (near r.limit hops o) = c.within in
    let l = near_short r.limit hops o in
    let b = behind_jump _ _ (rw (rest_jump o r at size hops t h s) at c.readable) in
    (record { within = rw (near_jumped r.limit hops o) (omega arith); limited = c.limited; sized = c.sized; jumped = omega arith; readable = b.0 }, rw (rest_jump o r at size hops t h s) b.1)

pub next_end : (o : List ℕ) (r : NameBounds) (at size hops : ℕ) → name_piece r hops o at ≡ Ok End → labels_of (rest_of o r at size hops) ≡ []
next_end o r at size hops h = rw (rest_unrolled o r at size hops, h) refl

pub next_err : (o : List ℕ) (r : NameBounds) (at size hops : ℕ) (e : ParseError) → name_piece r hops o at ≡ Err e → labels_of (rest_of o r at size hops) ≡ []
next_err o r at size hops e h = rw (rest_unrolled o r at size hops, h) refl

pub or_limited : (e : Option ℕ) (limit hops n : ℕ) (o : List ℕ) → IfSome e (λ x. x ≤ limit) → (e ≡ None → hops ≡ 0) → n ≤ length (near limit hops o) → unwrap_or e n ≤ limit
or_limited None limit hops n o h k w = omega (arith, subst (λ (x : ℕ). n ≤ length (near limit x o)) (k refl) w, length-take limit o)
or_limited (Some x) limit hops n o h k w = h

pub never : (n hops : ℕ) → Some n ≡ None → hops ≡ 0
never n hops e = absurd (cc)

pub start_within : (limit at : ℕ) (o : List ℕ) → at ≤ limit → limit ≤ length o → at ≤ length (near limit 0 o)
start_within limit at o h k = omega (arith, length-take limit o)

-- the octets that are seen from a place before the limit
near_seen : (o : List ℕ) (at limit : ℕ) → at < limit → limit ≤ length o → drop at (near limit 0 o) ≡ get_or o at 0 ∷ drop (suc at) (take limit o)
near_seen o at limit h k =
    let l = length-take limit o in
    let b : at < length (take limit o) = omega (arith, l) in
    rw (get_or-take limit o at 0 h) at (drop-cons (take limit o) at 0 b)

-- the piece at such a place, by its first octet
root_there : (b : Bool) (at : ℕ) (d more : List ℕ) → d ≡ 0 ∷ more → name_piece_of b at d ≡ Ok End
root_there b at d more e = rw e refl

pub piece_root : (o : List ℕ) (r : NameBounds) (at : ℕ) → at < r.limit → r.limit ≤ length o → get_or o at 0 ≡ 0 → name_piece r 0 o at ≡ Ok End
unfolding name_piece
piece_root o r at h k z = root_there r.pointers at (drop at (near r.limit 0 o)) (drop (suc at) (take r.limit o)) (rw z at (near_seen o at r.limit h k))

text_there : (b : Bool) (at n : ℕ) (more : List ℕ) → 0 < n → n < 64 → n ≤ length more → name_piece_of b at (n ∷ more) ≡ Ok (Text n)
text_there true at n more h k l = grind (arith, nat_tests)
text_there false at n more h k l = grind (arith, nat_tests)

text_here : (b : Bool) (at n : ℕ) (d more : List ℕ) → d ≡ n ∷ more → 0 < n → n < 64 → n ≤ length more → name_piece_of b at d ≡ Ok (Text n)
text_here b at n d more e h k l = rw e (text_there b at n more h k l)

pub piece_label : (o : List ℕ) (r : NameBounds) (at n : ℕ) → at < r.limit → r.limit ≤ length o → get_or o at 0 ≡ n → 0 < n → n < 64 → at + n + 1 ≤ r.limit → name_piece r 0 o at ≡ Ok (Text n)
unfolding name_piece
piece_label o r at n h k e p q s =
    let t = length-take r.limit o in
    let d = length-drop (suc at) (take r.limit o) in
    text_here r.pointers at n (drop at (near r.limit 0 o)) (drop (suc at) (take r.limit o)) (rw e at (near_seen o at r.limit h k)) p q (omega (arith, t, d))

-- the walk along labels alone, where the size so far is what lies after the start
pub plain_root : (o : List ℕ) (r : NameBounds) (at size : ℕ) → at < r.limit → r.limit ≤ length o → get_or o at 0 ≡ 0 → end_by None (rest_of o r at size 0) ≡ Ok (at + 1)
plain_root o r at size h k z = walk_end o r at size 0 None (piece_root o r at h k z)

pub plain_label : (o : List ℕ) (r : NameBounds) (start at n : ℕ) → start ≤ at → at < r.limit → r.limit ≤ length o → get_or o at 0 ≡ n → 0 < n → n < 64 → at + n + 1 < r.limit → at + n + 1 < start + 255 →
    end_by None (rest_of o r at (at - start) 0) ≡ end_by None (rest_of o r (at + n + 1) (at + n + 1 - start) 0)
plain_label o r start at n b h k e p q l m =
    let s : at + n + 1 - start ≡ at - start + n + 1 = omega arith in
    rw s (walk_text o r at (at - start) 0 None n (piece_label o r at n h k e p q (omega arith)) (omega arith))

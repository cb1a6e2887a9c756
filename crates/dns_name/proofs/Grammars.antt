-- What is read is in the grammar, and what is in it is read.
use Rattle.std.proofs.Common.{Bool, ◌≡◌, ℕ, zero, suc, ◌+◌, ◌*◌, ◌-◌, ◌≤◌, ◌<◌, List, [], ◌∷◌, ◌++◌, length, drop, take, Ok, Err, Result, refl, ap, sym, subst, ◌∙◌, arith, true, false, if◌then◌else◌, nat_lt, nat_eq, length-append, append_assoc}
use Rattle.std.proofs.lemmas.List.{take-append-drop, length-take-le}
use Rattle.std.proofs.lemmas.Bool.Decides.{nat_tests}
use Rattle.dns_name.specs.declared.error.ParseError.{ParseError}
use Rattle.dns_name.specs.declared.error.ParseError.TheVariants.{Form}
use Rattle.dns_name.specs.declared.error.FormReason.TheVariants.{LongName, Hops}
use Rattle.dns_name.specs.declared.piece.Piece.{Piece}
use Rattle.dns_name.specs.declared.piece.Piece.TheVariants.{End, Text, Jump}
use Rattle.dns_name.specs.declared.piece.NameBounds.{NameBounds}
use Rattle.dns_name.specs.Place.{Read}
use Rattle.dns_name.specs.Labels.{spell, AreLabels}
use Rattle.dns_name.specs.Names.{near, name_piece, name_piece_of, jump, with_label, with_end, by_piece, name_up_to, most, rest_of, name_by, name_within, uncompressed_at}
use Rattle.dns_name.specs.Grammar.{NameStands, root, label, pointer, Found, StandsPlain}
use Rattle.dns_name.proofs.Walks.{jump_no_text, jump_no_end, rest_unrolled, rest_text, rest_jump}
use Rattle.dns_name.proofs.Spelt.{piece_end, piece_text, behind, further, length_spell, near_prefix, seen_prefix, take_all, plain_spelt}

-- ---- what is seen, by a limit alone

abbrev seen_to : ℕ → ℕ → List ℕ → ℕ
seen_to limit hops o = if nat_eq hops 0 then limit else length o

to_seen : (limit hops : ℕ) (o : List ℕ) → take (seen_to limit hops o) o ≡ near limit hops o
to_seen limit hops o = elim (nat_eq hops 0) as (λ b. take (if b then limit else length o) o ≡ (if b then take limit o else o)) [ true ↦ refl | false ↦ take_all o ]

seen_jumped : (limit hops : ℕ) (o : List ℕ) → seen_to limit (hops + 1) o ≡ length o
seen_jumped limit hops o = grind (arith, nat_tests)

at_near : (limit hops l at : ℕ) (o x : List ℕ) → l ≡ seen_to limit hops o → drop at (take l o) ≡ x → drop at (near limit hops o) ≡ x
at_near limit hops l at o x q d = ap (drop at) (sym (to_seen limit hops o)) ∙ (ap (λ n. drop at (take n o)) (sym q) ∙ d)

abbrev followed : ℕ → NameBounds
followed limit = record { limit = limit; pointers = true }

-- ---- what is in the grammar is read

jump_here : (at head low : ℕ) (more : List ℕ) → 192 ≤ head → 256 * (head - 192) + low < at → name_piece_of true at (head ∷ low ∷ more) ≡ Ok (Jump (256 * (head - 192) + low))
jump_here at head low more h k = grind (arith, nat_tests)

piece_jump : (limit hops : ℕ) (o : List ℕ) (at high low : ℕ) (more : List ℕ) → drop at (near limit hops o) ≡ (192 + high) ∷ low ∷ more → 256 * high + low < at → name_piece (followed limit) hops o at ≡ Ok (Jump (256 * high + low))
unfolding name_piece
piece_jump limit hops o at high low more h k =
    let e : 192 + high - 192 ≡ high = omega arith in
    rw h (jump_here at (192 + high) low more (omega arith) (rw e k) ∙ ap (λ x. Ok (Jump (256 * x + low))) e)

in_read : (o : List ℕ) (limit l at : ℕ) (ls : List (List ℕ)) (h size hops end : ℕ) → NameStands o l at ls h end → l ≡ seen_to limit hops o → size + length (spell ls) ≤ 255 → hops + h ≤ 255 →
    rest_of o (followed limit) at size hops ≡ Ok (ls, end)
in_read o limit _ _ _ _ size hops _ (root l at more d) g r f =
    let d' = at_near limit hops l at o (0 ∷ more) g d in
    rw (rest_unrolled o (followed limit) at size hops, piece_end (followed limit) hops o at more d') refl
in_read o limit _ _ _ _ size hops _ (label l at h end t more ls p q d s) g r f =
    let d' = at_near limit hops l at o (length t ∷ (t ++ more)) g d in
    let k = length-append t (spell ls) in
    let k' = length-append t more in
    let b = behind (near limit hops o) at (length t) (t ++ more) d' in
    let c = piece_text (followed limit) hops o at (length t) (t ++ more) d' p q (omega arith) in
    let z : size + length t + 2 ≤ 255 = omega (arith, length_spell ls) in
    let ih = in_read o limit l (at + length t + 1) ls h (size + length t + 1) hops end s g (omega arith) f in
    let y = near_prefix limit hops (at + 1) t more o b in
    rw (rest_text o (followed limit) at size hops (length t) c z, ih, y) refl
in_read o limit _ _ _ _ size hops _ (pointer l at h end high low more ls d k s) g r f =
    let c = piece_jump limit hops o at high low more (at_near limit hops l at o ((192 + high) ∷ low ∷ more) g d) k in
    let z : hops ≤ 254 = omega arith in
    let ih = in_read o limit (length o) (256 * high + low) ls h size (hops + 1) end s (sym (seen_jumped limit hops o)) r (omega arith) in
    rw (rest_jump o (followed limit) at size hops (256 * high + low) c z, ih) refl

-- ---- what is read is in the grammar

record Labelled (l : List ℕ) (r : Read (List (List ℕ))) (ls : List (List ℕ)) (end : ℕ) : Type 0 where
  behind_it : List (List ℕ)
  was : r ≡ Ok (behind_it, end)
  whole : l ∷ behind_it ≡ ls

label_ok : (l : List ℕ) (r : Read (List (List ℕ))) (ls : List (List ℕ)) (e : ℕ) → with_label l r ≡ Ok (ls, e) → Labelled l r ls e
label_ok l (Ok x) ls e h =
    let k : (l ∷ x.0, x.1) ≡ (ls, e) = cc in
    record { behind_it = x.0; was = ap (λ (p : List (List ℕ) × ℕ). Ok (x.0, p.1)) k; whole = ap (λ (p : List (List ℕ) × ℕ). p.0) k }
label_ok l (Err x) ls e h = absurd (cc)

end_ok : (n : ℕ) (r : Read (List (List ℕ))) (ls : List (List ℕ)) (e : ℕ) → with_end n r ≡ Ok (ls, e) → (d : ℕ) × (r ≡ Ok (ls, d)) × (n ≡ e)
end_ok n (Ok x) ls e h =
    let k : (x.0, n) ≡ (ls, e) = cc in
    (x.1, ap (λ (p : List (List ℕ) × ℕ). Ok (p.0, x.1)) k, ap (λ (p : List (List ℕ) × ℕ). p.1) k)
end_ok n (Err x) ls e h = absurd (cc)

text_ok : (size n : ℕ) (l : List ℕ) (r : Read (List (List ℕ))) (x : List (List ℕ) × ℕ) → (if nat_lt 255 (size + n + 2) then Err (Form LongName) else with_label l r) ≡ Ok x → (size + n + 2 ≤ 255) × (with_label l r ≡ Ok x)
text_ok size n l r x h = (grind (arith, nat_tests), grind (arith, nat_tests))

jump_ok : (hops n : ℕ) (r : Read (List (List ℕ))) (x : List (List ℕ) × ℕ) → (if nat_lt 254 hops then Err (Form Hops) else with_end n r) ≡ Ok x → (hops ≤ 254) × (with_end n r ≡ Ok x)
jump_ok hops n r x h = (grind (arith, nat_tests), grind (arith, nat_tests))

-- the octets of a piece
record Pointed (at head t : ℕ) (o : List ℕ) : Type 0 where
  high : ℕ
  low : ℕ
  more : List ℕ
  spelt : head ∷ o ≡ (192 + high) ∷ low ∷ more
  target : 256 * high + low ≡ t
  back : 256 * high + low < at

jump_octets : (at head t : ℕ) (o : List ℕ) → 192 ≤ head → jump at head o ≡ Ok (Jump t) → Pointed at head t o
jump_octets at head t [] k h = absurd (cc)
jump_octets at head t (low ∷ o) k h =
    let e : head ≡ 192 + (head - 192) = omega arith in
    record { high = head - 192; low = low; more = o; spelt = ap (λ x. x ∷ low ∷ o) e; target = grind (arith, nat_tests); back = grind (arith, nat_tests) }

text_octets : (b : Bool) (at n head : ℕ) (o : List ℕ) → name_piece_of b at (head ∷ o) ≡ Ok (Text n) → (head ≡ n) × (0 < n) × (n < 64) × (n ≤ length o)
text_octets true at n head o h =
    let j = jump_no_text at head n o in
    (grind (arith, nat_tests), grind (arith, nat_tests), grind (arith, nat_tests), grind (arith, nat_tests))
text_octets false at n head o h = (grind (arith, nat_tests), grind (arith, nat_tests), grind (arith, nat_tests), grind (arith, nat_tests))

end_octets : (b : Bool) (at head : ℕ) (o : List ℕ) → name_piece_of b at (head ∷ o) ≡ Ok End → head ≡ 0
end_octets true at head o h = let j = jump_no_end at head o in grind (arith, nat_tests)
end_octets false at head o h = grind (arith, nat_tests)

pointer_octets : (at t head : ℕ) (o : List ℕ) → name_piece_of true at (head ∷ o) ≡ Ok (Jump t) → (192 ≤ head) × (jump at head o ≡ Ok (Jump t))
pointer_octets at t head o h = (grind (arith, nat_tests), grind (arith, nat_tests))

no_pointer : (at t : ℕ) (d : List ℕ) → name_piece_of false at d ≡ Ok (Jump t) → ⊥
no_pointer at t [] h = cc
no_pointer at t (head ∷ o) h = grind (arith, nat_tests)

-- the label that octets begin with
record Begun (at n : ℕ) (d : List ℕ) : Type 0 where
  name : List ℕ
  more : List ℕ
  spelt : d ≡ length name ∷ (name ++ more)
  counted : length name ≡ n
  some : 0 < n
  short : n < 64

begun : (b : Bool) (at n : ℕ) (d : List ℕ) → name_piece_of b at d ≡ Ok (Text n) → Begun at n d
begun b at n [] h = absurd (cc)
begun b at n (head ∷ d) h =
    let t = text_octets b at n head d h in
    let k : length (take n d) ≡ n = length-take-le n d t.3 in
    record {
      name = take n d;
      more = drop n d;
      counted = k;
      some = t.1;
      short = t.2;
      spelt = ap (λ x. x ∷ d) (t.0 ∙ sym k) ∙ ap (λ x. length (take n d) ∷ x) (sym (take-append-drop n d));
    }

-- the label that is read is the one that stands there
same_label : (l at n : ℕ) (o : List ℕ) (b : Begun at n (drop at (take l o))) → take n (drop (at + 1) o) ≡ b.name
same_label l at n o b =
    let t = behind (take l o) at (length b.name) (b.name ++ b.more) b.spelt in
    ap (λ k. take k (drop (at + 1) o)) (sym b.counted) ∙ seen_prefix true l (at + 1) b.name b.more o t

found_end : (o d : List ℕ) (l at size hops : ℕ) → drop at (take l o) ≡ d → size ≤ 254 → hops ≤ 255 → name_piece_of true at d ≡ Ok End → Found o l at size hops [] (at + 1)
found_end o [] l at size hops e s f h = absurd (cc)
found_end o (head ∷ d) l at size hops e s f h =
    record { pointers = 0; stands = root l at d (e ∙ ap (λ x. x ∷ d) (end_octets true at head d h)); room = omega arith; few = omega arith }

found_text : (o : List ℕ) (l at size hops n : ℕ) (ls : List (List ℕ)) (end : ℕ) → name_piece_of true at (drop at (take l o)) ≡ Ok (Text n) → Found o l (at + n + 1) (size + n + 1) hops ls end → Found o l at size hops (take n (drop (at + 1) o) ∷ ls) end
found_text o l at size hops n ls end h f =
    let b = begun true at n (drop at (take l o)) h in
    let q : NameStands o l (at + length b.name + 1) ls f.pointers end = rw b.counted f.stands in
    rw (same_label l at n o b)
    (record { pointers = f.pointers; stands = label l at f.pointers end b.name b.more ls (omega (arith, b.counted, b.some)) (omega (arith, b.counted, b.short)) b.spelt q; room = omega (arith, b.counted, length-append b.name (spell ls), f.room); few = f.few })

found_jump : (o d : List ℕ) (l at size hops t : ℕ) (ls : List (List ℕ)) (end : ℕ) → drop at (take l o) ≡ d → name_piece_of true at d ≡ Ok (Jump t) → Found o (length o) t size (hops + 1) ls end → Found o l at size hops ls (at + 2)
found_jump o [] l at size hops t ls end e h f = absurd (cc)
found_jump o (head ∷ d) l at size hops t ls end e h f =
    let p = pointer_octets at t head d h in
    let j = jump_octets at head t d p.0 p.1 in
    let q : NameStands o (length o) (256 * j.high + j.low) ls f.pointers end = rw j.target f.stands in
    record { pointers = f.pointers + 1; stands = pointer l at f.pointers end j.high j.low j.more ls (e ∙ j.spelt) j.back q; room = f.room; few = omega (arith, f.few) }

found_piece : (go : ℕ → ℕ → ℕ → Read (List (List ℕ))) (o : List ℕ) (limit at size hops : ℕ) (p : Result Piece ParseError) (ls : List (List ℕ)) (e : ℕ) →
    ((a s h : ℕ) (ks : List (List ℕ)) (d : ℕ) → s ≤ 254 → h ≤ 255 → go a s h ≡ Ok (ks, d) → Found o (seen_to limit h o) a s h ks d) →
    name_piece_of true at (drop at (take (seen_to limit hops o) o)) ≡ p → size ≤ 254 → hops ≤ 255 → by_piece go o at size hops p ≡ Ok (ls, e) → Found o (seen_to limit hops o) at size hops ls e
found_piece go o limit at size hops (Err x) ls e ih q s f h = absurd (cc)
found_piece go o limit at size hops (Ok End) ls e ih q s f h =
    let k : ([], at + 1) ≡ (ls, e) = cc in
    subst (λ (p : List (List ℕ) × ℕ). Found o (seen_to limit hops o) at size hops p.0 p.1) k (found_end o _ (seen_to limit hops o) at size hops refl s f q)
found_piece go o limit at size hops (Ok (Text n)) ls e ih q s f h =
    let t = text_ok size n _ _ _ h in
    let l = label_ok _ _ ls e t.1 in
    subst (λ (x : List (List ℕ)). Found o (seen_to limit hops o) at size hops x e) l.whole
    (found_text o (seen_to limit hops o) at size hops n l.behind_it e q (ih (at + n + 1) (size + n + 1) hops l.behind_it e (omega arith) f l.was))
found_piece go o limit at size hops (Ok (Jump t)) ls e ih q s f h =
    let j = jump_ok hops _ _ _ h in
    let l = end_ok _ _ ls e j.1 in
    let i = ih t size (hops + 1) ls l.0 s (omega arith) l.1 in
    subst (λ (x : ℕ). Found o (seen_to limit hops o) at size hops ls x) l.2
    (found_jump o _ (seen_to limit hops o) at size hops t ls l.0 refl q (subst (λ (x : ℕ). Found o x t size (hops + 1) ls l.0) (seen_jumped limit hops o) i))

found_up_to : (k : ℕ) (o : List ℕ) (limit at size hops : ℕ) (ls : List (List ℕ)) (e : ℕ) → size ≤ 254 → hops ≤ 255 → name_up_to k o (followed limit) at size hops ≡ Ok (ls, e) → Found o (seen_to limit hops o) at size hops ls e
unfolding name_piece
found_up_to zero o limit at size hops ls e s f h = absurd (cc)
found_up_to (suc k) o limit at size hops ls e s f h =
    found_piece (name_up_to k o (followed limit)) o limit at size hops (name_piece (followed limit) hops o at) ls e (λ a b c ks d. found_up_to k o limit a b c ks d)
    (ap (λ t. name_piece_of true at (drop at t)) (to_seen limit hops o)) s f h

pub read_in : (o : List ℕ) (limit at : ℕ) (ls : List (List ℕ)) (e : ℕ) → name_within o limit at ≡ Ok (ls, e) → Found o limit at 0 0 ls e
unfolding name_by rest_of
read_in o limit at ls e h = found_up_to (most 0 0) o limit at 0 0 ls e (omega arith) (omega arith) h

pub found_read : (o : List ℕ) (limit at : ℕ) (ls : List (List ℕ)) (e : ℕ) → Found o limit at 0 0 ls e → name_within o limit at ≡ Ok (ls, e)
unfolding name_by
found_read o limit at ls e f = in_read o limit limit at ls f.pointers 0 0 e f.stands refl f.room f.few

-- ---- uncompressed names

abbrev plain : List ℕ → NameBounds
plain o = record { limit = length o; pointers = false }

-- what is read of an uncompressed name
record Written (o : List ℕ) (at size : ℕ) (ls : List (List ℕ)) (end : ℕ) : Type 0 where
  more : List ℕ
  spelt : drop at o ≡ spell ls ++ more
  labels : AreLabels ls
  room : size + length (spell ls) ≤ 255
  ends : end ≡ at + length (spell ls)

written_end : (o d : List ℕ) (at size : ℕ) → drop at o ≡ d → size ≤ 254 → name_piece_of false at d ≡ Ok End → Written o at size [] (at + 1)
written_end o [] at size e s h = absurd (cc)
written_end o (head ∷ d) at size e s h = record { more = d; spelt = e ∙ ap (λ x. x ∷ d) (end_octets false at head d h); labels = tt; room = omega arith; ends = refl }

written_text : (o : List ℕ) (at size n : ℕ) (ls : List (List ℕ)) (end : ℕ) → name_piece_of false at (drop at (take (length o) o)) ≡ Ok (Text n) → Written o (at + n + 1) (size + n + 1) ls end → Written o at size (take n (drop (at + 1) o) ∷ ls) end
written_text o at size n ls end h w =
    let b = begun false at n (drop at (take (length o) o)) h in
    let g : drop at o ≡ length b.name ∷ (b.name ++ b.more) = ap (drop at) (sym (take_all o)) ∙ b.spelt in
    let t = behind o at (length b.name) (b.name ++ b.more) g in
    let u : drop (at + n + 1) o ≡ b.more = ap (λ k. drop (at + k + 1) o) (sym b.counted) ∙ further o at b.name b.more t in
    let m : b.more ≡ spell ls ++ w.more = sym u ∙ w.spelt in
    let k = length-append b.name (spell ls) in
    rw (same_label (length o) at n o b)
    (record {
      more = w.more;
      spelt = g ∙ ap (λ x. length b.name ∷ x) (ap (λ x. b.name ++ x) m ∙ sym (append_assoc b.name (spell ls) w.more));
      labels = (omega (arith, b.counted, b.some), omega (arith, b.counted, b.short), w.labels);
      room = omega (arith, b.counted, k, w.room);
      ends = omega (arith, b.counted, k, w.ends);
    })

written_piece : (go : ℕ → ℕ → ℕ → Read (List (List ℕ))) (o : List ℕ) (at size : ℕ) (p : Result Piece ParseError) (ls : List (List ℕ)) (e : ℕ) →
    ((a s : ℕ) (ks : List (List ℕ)) (d : ℕ) → s ≤ 254 → go a s 0 ≡ Ok (ks, d) → Written o a s ks d) →
    name_piece_of false at (drop at (take (length o) o)) ≡ p → size ≤ 254 → by_piece go o at size 0 p ≡ Ok (ls, e) → Written o at size ls e
written_piece go o at size (Err x) ls e ih q s h = absurd (cc)
written_piece go o at size (Ok End) ls e ih q s h =
    let k : ([], at + 1) ≡ (ls, e) = cc in
    subst (λ (p : List (List ℕ) × ℕ). Written o at size p.0 p.1) k (written_end o _ at size (ap (drop at) (sym (take_all o))) s q)
written_piece go o at size (Ok (Text n)) ls e ih q s h =
    let t = text_ok size n _ _ _ h in
    let l = label_ok _ _ ls e t.1 in
    subst (λ (x : List (List ℕ)). Written o at size x e) l.whole (written_text o at size n l.behind_it e q (ih (at + n + 1) (size + n + 1) l.behind_it e (omega arith) l.was))
written_piece go o at size (Ok (Jump t)) ls e ih q s h = absurd (no_pointer at t (drop at (take (length o) o)) q)

written_up_to : (k : ℕ) (o : List ℕ) (at size : ℕ) (ls : List (List ℕ)) (e : ℕ) → size ≤ 254 → name_up_to k o (plain o) at size 0 ≡ Ok (ls, e) → Written o at size ls e
unfolding name_piece
written_up_to zero o at size ls e s h = absurd (cc)
written_up_to (suc k) o at size ls e s h =
    written_piece (name_up_to k o (plain o)) o at size (name_piece (plain o) 0 o at) ls e (λ a b ks d. written_up_to k o a b ks d) refl s h

pub plain_read : (o : List ℕ) (at : ℕ) (ls : List (List ℕ)) (e : ℕ) → uncompressed_at o at ≡ Ok (ls, e) → StandsPlain o at ls e
unfolding name_by rest_of
plain_read o at ls e h =
    let w = written_up_to (most 0 0) o at 0 ls e (omega arith) h in
    record { more = w.more; spelt = w.spelt; name = record { labels = w.labels; room = w.room }; ends = w.ends }

pub plain_found : (o : List ℕ) (at : ℕ) (ls : List (List ℕ)) (e : ℕ) → StandsPlain o at ls e → uncompressed_at o at ≡ Ok (ls, e)
plain_found o at ls e f = plain_spelt ls o f.more at f.spelt f.name ∙ ap (λ x. Ok (ls, x)) (sym f.ends)

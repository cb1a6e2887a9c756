-- Blocks that are read one by one.
use Rattle.std.proofs.Common.{◌≡◌, ℕ, ◌+◌, ◌-◌, ◌*◌, ◌<◌, ◌≤◌, Bool, true, false, List, [], ◌∷◌, ◌++◌, length, drop, take, get_or, nat_eq, refl, ap, sym, subst, ◌∙◌, arith, append_assoc, append-nil, length-append}
use Rattle.std.specs.Prelude.{◌||◌}
use Rattle.std.specs.List.{list_any}
use Rattle.std.proofs.lemmas.List.{get_or-take, get_or_append_left, get_or_default, length-take-le, take-append-drop}
use Rattle.std.proofs.lemmas.List.Folds.{list_any-append}
use Rattle.dns_nsec_data.specs.BitMaps.{AreBlocks, BeginWith, BeginWithNone, Block, SayNone, SayTypes, bit_maps, block_octets, first_types, says}
use Rattle.dns_nsec_data.proofs.BitLaws.{block_read}

-- octets of which that many blocks are read; the windows that are left begin with a number
pub record AreRead (octets left : List ℕ) (low : ℕ) (types : List ℕ) : Type 0 where
  pub blocks : List Block
  pub lawful : (bs : List Block) → AreBlocks low bs → AreBlocks 0 (blocks ++ bs)
  pub octets_ : bit_maps blocks ++ left ≡ octets
  pub types_ : (t : ℕ) → list_any (nat_eq t) types ≡ list_any (says t) blocks
  pub only : (bs : List Block) → AreBlocks 0 bs → bit_maps bs ≡ octets → (cs : List Block) × AreBlocks low cs × (bit_maps cs ≡ left)

pub none_read : (octets : List ℕ) → AreRead octets octets 0 []
none_read octets = record { blocks = []; lawful = λ bs h. h; octets_ = refl; types_ = λ t. refl; only = λ bs h e. (bs, h, e) }

-- ---- one more

maps_more : (bs : List Block) (b : Block) → bit_maps (bs ++ b ∷ []) ≡ bit_maps bs ++ block_octets b
maps_more [] b = append-nil (block_octets b)
maps_more (c ∷ bs) b = ap (λ (x : List ℕ). block_octets c ++ x) (maps_more bs b) ∙ sym (append_assoc (block_octets c) (bit_maps bs) (block_octets b))

says_more : (t : ℕ) (bs : List Block) (b : Block) → list_any (says t) (bs ++ b ∷ []) ≡ (list_any (says t) bs || says t b)
says_more t bs b = list_any-append (says t) bs (b ∷ []) ∙ ap (λ (x : Bool). list_any (says t) bs || x) (or_nothing (says t b))
  where
    or_nothing : (x : Bool) → (x || false) ≡ x
    or_nothing true = refl
    or_nothing false = refl

-- what is left after octets of the same length is the same
same_left : (xs ys us vs : List ℕ) → length xs ≡ length ys → xs ++ us ≡ ys ++ vs → us ≡ vs
same_left [] [] us vs l e = e
same_left [] (y ∷ ys) us vs l e = absurd (omega (arith, l))
same_left (x ∷ xs) [] us vs l e = absurd (omega (arith, l))
same_left (x ∷ xs) (y ∷ ys) us vs l e =
    let k : xs ++ us ≡ ys ++ vs = cc in
    same_left xs ys us vs (omega (arith, l)) k

not_empty : (w n : ℕ) (x : List ℕ) → [] ≡ w ∷ n ∷ x → ⊥
not_empty w n x e = absurd (cc)

-- blocks whose octets begin with one have it first
first_is : (low w : ℕ) (bitmap left : List ℕ) (cs : List Block) → AreBlocks low cs → bit_maps cs ≡ w ∷ length bitmap ∷ bitmap ++ left → (ds : List Block) × AreBlocks (w + 1) ds × (bit_maps ds ≡ left)
first_is low w bitmap left [] h e = absurd (not_empty w (length bitmap) (bitmap ++ left) e)
first_is low w bitmap left (c ∷ cs) h e =
    let k : c.window ≡ w = cc in
    let n : length c.bitmap ≡ length bitmap = cc in
    let m : c.bitmap ++ bit_maps cs ≡ bitmap ++ left = cc in
    (cs, subst (λ (x : ℕ). AreBlocks (x + 1) cs) k h.2, same_left c.bitmap bitmap (bit_maps cs) left n m)

pub one_read : (octets left : List ℕ) (low : ℕ) (types : List ℕ) (w : ℕ) (bitmap more new : List ℕ) → AreRead octets left low types → BeginWith low left w bitmap more → new ≡ types ++ first_types bitmap (256 * w) (8 * length bitmap) → AreRead octets more (w + 1) new
one_read octets left low types w bitmap more new r b n =
    let c : Block = record { window = w; bitmap = bitmap } in
    let found = first_types bitmap (256 * w) (8 * length bitmap) in
    record {
      blocks = r.blocks ++ c ∷ [];
      lawful = λ bs h. subst (AreBlocks 0) (sym (append_assoc r.blocks (c ∷ []) bs)) (r.lawful (c ∷ bs) (b.least, b.lawful, h));
      octets_ = ap (λ (x : List ℕ). x ++ more) (maps_more r.blocks c) ∙ (append_assoc (bit_maps r.blocks) (block_octets c) more ∙ (ap (λ (x : List ℕ). bit_maps r.blocks ++ x) (sym b.octets_) ∙ r.octets_));
      types_ = λ t. ap (list_any (nat_eq t)) n
          ∙ (list_any-append (nat_eq t) types found
          ∙ (ap (λ (x : Bool). x || list_any (nat_eq t) found) (r.types_ t)
          ∙ (ap (λ (x : Bool). list_any (says t) r.blocks || x) (block_read c b.lawful.few t) ∙ sym (says_more t r.blocks c))));
      only = λ bs h e. let k = r.only bs h e in first_is low w bitmap more k.0 k.1 (k.2 ∙ b.octets_);
    }

-- ---- the end

nothing : (xs : List ℕ) → length xs ≡ 0 → xs ≡ []
nothing [] e = refl
nothing (x ∷ xs) e = absurd (omega (arith, e))

pub all_read : (octets left : List ℕ) (low : ℕ) (types : List ℕ) → AreRead octets left low types → length left ≡ 0 → SayTypes octets types
all_read octets left low types r e = record {
  blocks = r.blocks;
  lawful = subst (AreBlocks 0) (append-nil r.blocks) (r.lawful [] tt);
  octets_ = sym (append-nil (bit_maps r.blocks)) ∙ (ap (λ (x : List ℕ). bit_maps r.blocks ++ x) (sym (nothing left e)) ∙ r.octets_);
  types_ = r.types_;
}

some_first : (low : ℕ) (left : List ℕ) (cs : List Block) → AreBlocks low cs → bit_maps cs ≡ left → 0 < length left → BeginWithNone low left → ⊥
some_first low left [] h e s n = absurd (omega (arith, s, ap length e))
some_first low left (c ∷ cs) h e s n = n c (bit_maps cs) h.0 h.1 e

pub stuck : (octets left : List ℕ) (low : ℕ) (types : List ℕ) → AreRead octets left low types → 0 < length left → BeginWithNone low left → SayNone octets
stuck octets left low types r s n bs h e = let k = r.only bs h e in some_first low left k.0 k.1 k.2 s n

-- ---- the first block

split_two : (o : List ℕ) (w n : ℕ) → 2 ≤ length o → w ≡ get_or o 0 w → n ≡ get_or o 1 n → o ≡ w ∷ n ∷ drop 2 o
split_two [] w n l a b = absurd (omega (arith, l))
split_two (x ∷ []) w n l a b = absurd (omega (arith, l))
split_two (x ∷ y ∷ zs) w n l a b = let p : w ≡ x = a in let q : n ≡ y = b in λ i. sym p i ∷ sym q i ∷ zs

module _ (low : ℕ) (octets : List ℕ) where
  parts : (b : Block) (more : List ℕ) (d : ℕ) → block_octets b ++ more ≡ octets → (b.window ≡ get_or octets 0 d) × (length b.bitmap ≡ get_or octets 1 d) × (b.bitmap ++ more ≡ drop 2 octets)
  parts b more d e = subst (λ (o : List ℕ). (b.window ≡ get_or o 0 d) × (length b.bitmap ≡ get_or o 1 d) × (b.bitmap ++ more ≡ drop 2 o)) e (refl, refl, refl)

  pub too_short : length octets < 2 → BeginWithNone low octets
  too_short l b more f i e = omega (arith, l, ap length e)

  pub too_low : (w : ℕ) → w ≡ get_or octets 0 w → w < low → BeginWithNone low octets
  too_low w r l b more f i e = omega (arith, l, r, f, (parts b more w e).0)

  pub no_octets : (n : ℕ) → n ≡ get_or octets 1 n → n ≡ 0 → BeginWithNone low octets
  no_octets n r z b more f i e = omega (arith, r, z, i.some, (parts b more n e).1)

  pub too_long : (n : ℕ) → n ≡ get_or octets 1 n → 32 < n → BeginWithNone low octets
  too_long n r l b more f i e = omega (arith, r, l, i.few, (parts b more n e).1)

  pub cut_short : (n : ℕ) → n ≡ get_or octets 1 n → length (drop 2 octets) < n → BeginWithNone low octets
  cut_short n r l b more f i e = let p = parts b more n e in omega (arith, r, l, p.1, ap length p.2, length-append b.bitmap more)

  pub ends_in_zero : (n z : ℕ) → n ≡ get_or octets 1 n → z ≡ get_or (drop 2 octets) (n - 1) z → z ≡ 0 → BeginWithNone low octets
  ends_in_zero n z r k zero_ b more f i e =
      let p = parts b more n e in
      let m : n ≡ length b.bitmap = r ∙ sym p.1 in
      let v : 0 ≡ get_or (drop 2 octets) (n - 1) 0 = subst (λ (x : ℕ). x ≡ get_or (drop 2 octets) (n - 1) x) zero_ k in
      i.last
      (ap (λ (x : ℕ). get_or b.bitmap (x - 1) 0) (sym m)
      ∙ (sym (get_or_append_left b.bitmap more 0 (n - 1) (omega (arith, m, i.some)))
      ∙ (ap (λ (x : List ℕ). get_or x (n - 1) 0) p.2 ∙ sym v)))

  pub begins : (w n z : ℕ) (bits left : List ℕ) → 2 ≤ length octets → w ≡ get_or octets 0 w → n ≡ get_or octets 1 n → low ≤ w → 0 < n → n ≤ 32 → n ≤ length (drop 2 octets) → z ≡ get_or (drop 2 octets) (n - 1) z → (z ≡ 0 → ⊥) → bits ≡ take n (drop 2 octets) →
      left ≡ drop n (drop 2 octets) → BeginWith low octets w bits left
  begins w n z bits left l a b c s f h k v p q =
      let rest = drop 2 octets in
      let m : length bits ≡ n = ap length p ∙ length-take-le n rest h in
      let joined : octets ≡ w ∷ length bits ∷ bits ++ left =
      split_two octets w n l a b ∙ (λ i. w ∷ sym m i ∷ (sym (take-append-drop n rest) ∙ (λ j. sym p j ++ sym q j)) i) in
      record {
        octets_ = joined;
        least = c;
        lawful = record {
          some = omega (arith, s, m);
          few = omega (arith, f, m);
          last = λ y. v (k ∙ (same_last rest n z s (sym y ∙ (ap (λ (x : ℕ). get_or bits (x - 1) 0) m ∙ (ap (λ (x : List ℕ). get_or x (n - 1) 0) p ∙ get_or-take n rest (n - 1) 0 (omega (arith, s))))) h));
        };
        short = omega (arith, ap length joined, length-append bits left);
      }
    where
      same_last : (rest : List ℕ) (n z : ℕ) → 0 < n → 0 ≡ get_or rest (n - 1) 0 → n ≤ length rest → get_or rest (n - 1) z ≡ 0
      same_last rest n z s y h = get_or_default rest (n - 1) z 0 (omega (arith, s, h)) ∙ sym y

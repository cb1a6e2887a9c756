-- Secondaries that are looked at, one by one.
use Rattle.std.proofs.Common.{◌≡◌, ◌∙◌, ◌≤◌, ◌+◌, ◌||◌, ℕ, Bool, true, false, if◌then◌else◌, List, [], ◌∷◌, ◌++◌, ap, arith, drop, inl, inr, length, map, refl, set, subst, sym, take}
use Rattle.std.proofs.lemmas.List.{map_push, take-append-drop, take_all}
use Rattle.std.proofs.lemmas.List.Elements.{AllZip-push}
use Rattle.std.proofs.lemmas.List.Recursion.{or_push}
use Rattle.std.specs.Prelude.{Result, Ok, Err}
use Rattle.std.specs.List.{AllZip, list_any}
use Rattle.dns_secondary.specs.Copies.{is_newer}
use Rattle.dns_secondary.specs.declared.timers.SoaTimers.{SoaTimers}
use Rattle.dns_zone_copies.specs.Looking.{LooksAt, LooksAtAll, MayBegin, MayBeOffered, without_obsolete_copy}
use Rattle.dns_zone_copies.proofs.OneByOne.{Turn}
use Rattle.dns_zone_copies.specs.Secondaries.{SecondaryState, Takes, with_offer}
use Rattle.dns_zone_copies.specs.declared.check.Checked.{Checked}
use Rattle.dns_zone_copies.specs.declared.check.Checked.TheVariants.{Current, Came}

or_first : (c b : Bool) → c ≡ false → (c || b) ≡ (b || false)
or_first true true e = refl
or_first true false e = cc
or_first false true e = refl
or_first false false e = refl

or_assoc : (a b c : Bool) → ((a || b) || c) ≡ (a || (b || c))
or_assoc true b c = refl
or_assoc false b c = refl

or_more : (c a d b : Bool) → c ≡ (a || d) → (c || b) ≡ (a || (d || b))
or_more c a d b e = rw e (or_assoc a d b)

pub looks_push : (now : ℕ) (xs ys : List SecondaryState) (c : Bool) (x y : SecondaryState) (b : Bool) → LooksAtAll now xs ys c → LooksAt now x y b → LooksAtAll now (xs ++ x ∷ []) (ys ++ y ∷ []) (c || b)
looks_push now [] [] c x y b all one = (b, false, one, or_first c b all.1, (refl, refl))
looks_push now [] (z ∷ ys) c x y b all one = let e : z ∷ ys ≡ [] = all.0 in cc
looks_push now (w ∷ xs) [] c x y b all one = absurd all
looks_push now (w ∷ xs) (z ∷ ys) c x y b all one =
    (all.0, all.1 || b, all.2, or_more c all.0 all.1 b all.3, looks_push now xs ys all.1 x y b all.4 one)

-- one more was looked at
pub looks_more : (now : ℕ) (xs ys : List SecondaryState) (i : ℕ) (x y : SecondaryState) (c b d : Bool) → Turn xs ys i x y → d ≡ (c || b) → LooksAtAll now (take i xs) (take i ys) c → LooksAt now x y b → LooksAtAll now (take (i + 1) xs) (take (i + 1) (set ys i y)) d
looks_more now xs ys i x y c b d t d_is all one =
    let pushed : LooksAtAll now (take i xs ++ x ∷ []) (take i ys ++ y ∷ []) (c || b) = looks_push now (take i xs) (take i ys) c x y b all one in
    let flag : LooksAtAll now (take i xs ++ x ∷ []) (take i ys ++ y ∷ []) d = subst (λ (f : Bool). LooksAtAll now (take i xs ++ x ∷ []) (take i ys ++ y ∷ []) f) (sym d_is) pushed in
    let after : LooksAtAll now (take i xs ++ x ∷ []) (take (i + 1) (set ys i y)) d = subst (λ (vs : List SecondaryState). LooksAtAll now (take i xs ++ x ∷ []) vs d) (sym t.after) flag in
    subst (λ (vs : List SecondaryState). LooksAtAll now vs (take (i + 1) (set ys i y)) d) (sym t.before) after

-- the obsolete copy of one more is discarded
pub discards_more : (now : ℕ) (xs ys : List SecondaryState) (i : ℕ) (x y : SecondaryState) → Turn xs ys i x y → y ≡ without_obsolete_copy now x → take i ys ≡ map (without_obsolete_copy now) (take i xs) → take (i + 1) (set ys i y) ≡ map (without_obsolete_copy now) (take (i + 1) xs)
discards_more now xs ys i x y t y_is done =
    let f : SecondaryState → SecondaryState = without_obsolete_copy now in
    t.after ∙ (ap (λ (vs : List SecondaryState). vs ++ y ∷ []) done ∙ (ap (λ (v : SecondaryState). map f (take i xs) ++ v ∷ []) y_is
    ∙ (sym (map_push f (take i xs) x) ∙ ap (map f) (sym t.before))))

pub any_more : (p : SecondaryState → Bool) (xs ys : List SecondaryState) (i : ℕ) (x y : SecondaryState) (a b c : Bool) → Turn xs ys i x y → c ≡ (a || b) → a ≡ list_any p (take i xs) → b ≡ p x → c ≡ list_any p (take (i + 1) xs)
any_more p xs ys i x y a b c t c_is a_is b_is =
    c_is ∙ (ap (λ (z : Bool). z || b) a_is ∙ (ap (λ (z : Bool). list_any p (take i xs) || z) b_is
    ∙ (sym (or_push (list_any p) p refl (λ _ _. refl) (take i xs) x) ∙ ap (list_any p) (sym t.before))))

-- a check of one more may have begun
pub begins_more : (now : ℕ) (xs ys : List SecondaryState) (i : ℕ) (x y : SecondaryState) → Turn xs ys i x y → AllZip (MayBegin now) (take i xs) (take i ys) → MayBegin now x y → AllZip (MayBegin now) (take (i + 1) xs) (take (i + 1) (set ys i y))
begins_more now xs ys i x y t all one =
    let pushed : AllZip (MayBegin now) (take i xs ++ x ∷ []) (take i ys ++ y ∷ []) = AllZip-push (MayBegin now) (take i xs) (take i ys) x y all one in
    let after : AllZip (MayBegin now) (take i xs ++ x ∷ []) (take (i + 1) (set ys i y)) = subst (λ (vs : List SecondaryState). AllZip (MayBegin now) (take i xs ++ x ∷ []) vs) (sym t.after) pushed in
    subst (λ (vs : List SecondaryState). AllZip (MayBegin now) vs (take (i + 1) (set ys i y))) (sym t.before) after

-- where no check begins any more
pub none_begin : (now : ℕ) (xs : List SecondaryState) → AllZip (MayBegin now) xs xs
none_begin now [] = tt
none_begin now (x ∷ xs) = (inl refl, none_begin now xs)

pub both_begin : (now : ℕ) (xs ys vs ws : List SecondaryState) → AllZip (MayBegin now) xs ys → AllZip (MayBegin now) vs ws → AllZip (MayBegin now) (xs ++ vs) (ys ++ ws)
both_begin now [] [] vs ws one other = other
both_begin now [] (y ∷ ys) vs ws one other = absurd one
both_begin now (x ∷ xs) [] vs ws one other = absurd one
both_begin now (x ∷ xs) (y ∷ ys) vs ws one other = (one.0, both_begin now xs ys vs ws one.1 other)

-- where no check begins from a place on
pub begun_before : (now : ℕ) (xs ys : List SecondaryState) (i : ℕ) → AllZip (MayBegin now) (take i xs) (take i ys) → drop i ys ≡ drop i xs → AllZip (MayBegin now) xs ys
begun_before now xs ys i front rest =
    let back : AllZip (MayBegin now) (drop i xs) (drop i ys) = subst (λ (vs : List SecondaryState). AllZip (MayBegin now) (drop i xs) vs) (sym rest) (none_begin now (drop i xs)) in
    let both : AllZip (MayBegin now) (take i xs ++ drop i xs) (take i ys ++ drop i ys) = both_begin now (take i xs) (take i ys) (drop i xs) (drop i ys) front back in
    subst (λ (vs : List SecondaryState). AllZip (MayBegin now) xs vs) (take-append-drop i ys) (subst (λ (vs : List SecondaryState). AllZip (MayBegin now) vs (take i ys ++ drop i ys)) (take-append-drop i xs) both)

-- all had their turn
pub all_looked : (now : ℕ) (xs ys : List SecondaryState) (c : Bool) (i : ℕ) → length xs ≤ i → length ys ≡ length xs → LooksAtAll now (take i xs) (take i ys) c → LooksAtAll now xs ys c
all_looked now xs ys c i h same all =
    subst (λ (vs : List SecondaryState). LooksAtAll now xs vs c) (take_all i ys (omega arith)) (subst (λ (vs : List SecondaryState). LooksAtAll now vs (take i ys) c) (take_all i xs h) all)

-- what came of a check, or that one ended with a fault
passed : (now : ℕ) (old new : SecondaryState) (t : SoaTimers) (b : Bool) → is_newer old.copy.held t.serial ≡ b → new ≡ (if b then old else with_offer old t now) → MayBeOffered now old new false
passed now old new t true e h = inl (h, refl)
passed now old new t false e h = inr (record { timers = t; copy = h; newer = sym e })

pub taken : {Fault : Type 0} (now : ℕ) (r : Result Checked Fault) (old new : SecondaryState) (other : Bool) → Takes r old new now other → MayBeOffered now old new other
taken now (Ok (Current t)) old new other h = inr (record { timers = t; copy = h.0; newer = h.1 })
taken now (Ok (Came t text)) old new true h = inr (record { timers = t; copy = h.1; newer = sym h.0 })
taken now (Ok (Came t text)) old new false h = passed now old new t (is_newer old.copy.held t.serial) refl h
taken now (Err fault) old new other h = inl h

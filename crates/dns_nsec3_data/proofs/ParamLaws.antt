-- Parameters of hashes that octets begin with, and the NSEC3 that a record is.
use Rattle.std.proofs.Common.{◌≡◌, ◌≢◌, ℕ, ◌+◌, ◌*◌, ◌/◌, ◌%◌, ◌<◌, ◌≤◌, Bool, true, false, List, [], ◌∷◌, ◌++◌, length, drop, take, get_or, cond, nat_eq, refl, ap, sym, subst, ◌∙◌, arith, append-nil, length-append, Option, Some, None}
use Rattle.std.specs.Prelude.{◌&&◌, slice_index}
use Rattle.std.specs.List.{filter, find}
use Rattle.std.proofs.lemmas.Bool.{eqb-true, true≢false}
use Rattle.std.proofs.lemmas.List.{length-take-le, take-append-drop}
use Rattle.dns_message.specs.declared.record.Record.{Record}
use Rattle.dns_word_values.specs.Base32.{base32_octets}
use Rattle.dns_name.specs.Canonical.{same_name}
use Rattle.dns_denial.specs.Nsec3.{Hashing, Nsec3State}
use Rattle.dns_zone.specs.Owned.{is_of}
use Rattle.dns_nsec_data.specs.BitMaps.{SayNone, SayTypes}
use Rattle.dns_nsec_data.specs.NsecData.{unknown_octets}
use Rattle.dns_nsec3_data.specs.declared.nsec3_error.Nsec3Error.{Nsec3Error}
use Rattle.dns_nsec3_data.specs.declared.nsec3_error.Nsec3Error.TheVariants.{Params, Param, Hashing as Unhashed, Malformed, Twice, OutOfMemory as NoMemory}
use Rattle.dns_nsec3_data.specs.Nsec3Data.{BeginWithNoParameters, BeginWithParameters, Fails3, FailsBy, HasHash, HasNoHash, HasNoParam, IsFor, IsNoNsec3, IsNsec3, IsParam, SaysNext3, SaysNothing3, is_used, owner_hash, parameters, used_records}

-- ---- what octets begin with

split_five : (o : List ℕ) (a f x y n : ℕ) → 5 ≤ length o → a ≡ get_or o 0 a → f ≡ get_or o 1 f → x ≡ get_or o 2 x → y ≡ get_or o 3 y → n ≡ get_or o 4 n → o ≡ a ∷ f ∷ x ∷ y ∷ n ∷ drop 5 o
split_five [] a f x y n l p q r s t = absurd (omega (arith, l))
split_five (b ∷ []) a f x y n l p q r s t = absurd (omega (arith, l))
split_five (b ∷ g ∷ []) a f x y n l p q r s t = absurd (omega (arith, l))
split_five (b ∷ g ∷ u ∷ []) a f x y n l p q r s t = absurd (omega (arith, l))
split_five (b ∷ g ∷ u ∷ v ∷ []) a f x y n l p q r s t = absurd (omega (arith, l))
split_five (b ∷ g ∷ u ∷ v ∷ m ∷ zs) a f x y n l p q r s t =
    let pp : a ≡ b = p in
    let qq : f ≡ g = q in
    let rr : x ≡ u = r in
    let ss : y ≡ v = s in
    let uu : n ≡ m = t in
    λ i. sym pp i ∷ sym qq i ∷ sym rr i ∷ sym ss i ∷ sym uu i ∷ zs

module _ (octets : List ℕ) where
  parts : (flags : ℕ) (h : Hashing) (left : List ℕ) (d : ℕ) → octets ≡ parameters flags h ++ left → (1 ≡ get_or octets 0 d) × (length h.salt ≡ get_or octets 4 d) × (h.salt ++ left ≡ drop 5 octets)
  parts flags h left d e = subst (λ (o : List ℕ). (1 ≡ get_or o 0 d) × (length h.salt ≡ get_or o 4 d) × (h.salt ++ left ≡ drop 5 o)) (sym e) (refl, refl, refl)

  pub too_short : length octets < 5 → BeginWithNoParameters octets
  too_short l flags h left e = omega (arith, l, ap length e)

  pub other_algorithm : (a : ℕ) → a ≡ get_or octets 0 a → a ≢ 1 → BeginWithNoParameters octets
  other_algorithm a r n flags h left e = n (r ∙ sym (parts flags h left a e).0)

  pub cut_short : (n : ℕ) → n ≡ get_or octets 4 n → length (drop 5 octets) < n → BeginWithNoParameters octets
  cut_short n r l flags h left e = let p = parts flags h left n e in omega (arith, r, l, p.1, ap length p.2, length-append h.salt left)

  pub begins : (a f x y n : ℕ) (salt left : List ℕ) → 5 ≤ length octets → a ≡ get_or octets 0 a → f ≡ get_or octets 1 f → x ≡ get_or octets 2 x → y ≡ get_or octets 3 y → n ≡ get_or octets 4 n → y < 256 → a ≡ 1 → n ≤ length (drop 5 octets) → salt ≡ take n (drop 5 octets) →
      left ≡ drop n (drop 5 octets) → BeginWithParameters octets f (record { salt = salt; iterations = 256 * x + y }) left
  begins a f x y n salt left l p q r s t b one h c d =
      let rest = drop 5 octets in
      let hi : x ≡ (256 * x + y) / 256 = omega (arith, b) in
      let lo : y ≡ (256 * x + y) % 256 = omega (arith, b) in
      let m : n ≡ length salt = sym (ap length c ∙ length-take-le n rest h) in
      let joined : rest ≡ salt ++ left = sym (take-append-drop n rest) ∙ (λ i. sym c i ++ sym d i) in
      record { octets_ = split_five octets a f x y n l p q r s t ∙ (λ i. one i ∷ f ∷ hi i ∷ lo i ∷ m i ∷ joined i) }

-- ---- parameters are read in one way

same_left : (xs ys us vs : List ℕ) → length xs ≡ length ys → xs ++ us ≡ ys ++ vs → (xs ≡ ys) × (us ≡ vs)
same_left [] [] us vs l e = (refl, e)
same_left [] (y ∷ ys) us vs l e = absurd (omega (arith, l))
same_left (x ∷ xs) [] us vs l e = absurd (omega (arith, l))
same_left (x ∷ xs) (y ∷ ys) us vs l e =
    let h : x ≡ y = cc in
    let k : xs ++ us ≡ ys ++ vs = cc in
    let r = same_left xs ys us vs (omega (arith, l)) k in
    (λ i. h i ∷ r.0 i, r.1)

pub record AreOne (f g : ℕ) (of h : Hashing) (left more : List ℕ) : Type 0 where
  pub flags : f ≡ g
  pub hashing : of ≡ h
  pub left_ : left ≡ more

pub one_reading : (f g : ℕ) (of h : Hashing) (left more : List ℕ) → parameters f of ++ left ≡ parameters g h ++ more → AreOne f g of h left more
one_reading f g of h left more e =
    let a : f ≡ g = cc in
    let hi : of.iterations / 256 ≡ h.iterations / 256 = cc in
    let lo : of.iterations % 256 ≡ h.iterations % 256 = cc in
    let n : length of.salt ≡ length h.salt = cc in
    let r : of.salt ++ left ≡ h.salt ++ more = cc in
    let s = same_left of.salt h.salt left more n r in
    let k : of.iterations ≡ h.iterations = omega (arith, hi, lo) in
    record { flags = a; hashing = λ i. record { salt = s.0 i; iterations = k i }; left_ = s.1 }

-- ---- the one record of the parameters

no_more : (p : Record → Bool) (xs : List Record) → length (filter p xs) ≡ 0 → filter p xs ≡ []
no_more p xs e = nothing (filter p xs) e
  where
    nothing : (ys : List Record) → length ys ≡ 0 → ys ≡ []
    nothing [] e = refl
    nothing (y ∷ ys) e = absurd (omega (arith, e))

-- what `find` says of a list, and of what a filter keeps
pub first_kept : (p : Record → Bool) (xs : List Record) (r : Record) → find p xs ≡ Some r → length (filter p xs) ≡ 1 → filter p xs ≡ r ∷ []
first_kept p [] r f e = absurd (omega (arith, e))
first_kept p (x ∷ xs) r f e = by_test (first_kept p xs r) (p x) refl
  where
    by_test : (find p xs ≡ Some r → length (filter p xs) ≡ 1 → filter p xs ≡ r ∷ []) → (b : Bool) → p x ≡ b → filter p (x ∷ xs) ≡ r ∷ []
    by_test ih true t =
        let g : Some x ≡ Some r = sym (ap (λ (b : Bool). cond b (Some x) (find p xs)) t) ∙ f in
        let q : x ≡ r = cc in
        let k : filter p (x ∷ xs) ≡ x ∷ filter p xs = ap (λ (b : Bool). cond b (x ∷ filter p xs) (filter p xs)) t in
        let n : length (filter p xs) ≡ 0 = omega (arith, ap length k, e) in
        k ∙ (λ i. q i ∷ no_more p xs n i)
    by_test ih false t =
        let k : filter p (x ∷ xs) ≡ filter p xs = ap (λ (b : Bool). cond b (x ∷ filter p xs) (filter p xs)) t in
        k ∙ ih (sym (ap (λ (b : Bool). cond b (Some x) (find p xs)) t) ∙ f) (sym (ap length k) ∙ e)

pub none_kept : (p : Record → Bool) (xs : List Record) → find p xs ≡ None → length (filter p xs) ≡ 1 → ⊥
none_kept p [] f e = omega (arith, e)
none_kept p (x ∷ xs) f e = by_test (none_kept p xs) (p x) refl
  where
    none : (y : Record) → Some y ≡ None → ⊥
    none y g = absurd (cc)

    by_test : (find p xs ≡ None → length (filter p xs) ≡ 1 → ⊥) → (b : Bool) → p x ≡ b → ⊥
    by_test ih true t = none x (sym (ap (λ (b : Bool). cond b (Some x) (find p xs)) t) ∙ f)
    by_test ih false t =
        let k : filter p (x ∷ xs) ≡ filter p xs = ap (λ (b : Bool). cond b (x ∷ filter p xs) (filter p xs)) t in
        ih (sym (ap (λ (b : Bool). cond b (Some x) (find p xs)) t) ∙ f) (sym (ap length k) ∙ e)

-- ---- the hash of an owner

pub root_has_none : (apex owner : List (List ℕ)) → owner ≡ [] → HasNoHash apex owner
root_has_none apex owner e o h n = none o (sym h ∙ ap (owner_hash apex) e)
  where
    none : (x : List ℕ) → Some x ≡ None → ⊥
    none x g = absurd (cc)

by_first : (apex owner ls : List (List ℕ)) (l : List ℕ) (b : Bool) (w : Option (List ℕ)) → owner ≡ l ∷ ls → same_name ls apex ≡ b → base32_octets l ≡ w → owner_hash apex owner ≡ cond b w None
by_first apex owner ls l b w e s g = ap (owner_hash apex) e ∙ (λ i. cond (s i) (g i) None)

pub elsewhere : (apex owner ls : List (List ℕ)) (l : List ℕ) → owner ≡ l ∷ ls → same_name ls apex ≡ false → HasNoHash apex owner
elsewhere apex owner ls l e s o h n = none o (sym h ∙ by_first apex owner ls l false (base32_octets l) e s refl)
  where
    none : (x : List ℕ) → Some x ≡ None → ⊥
    none x g = absurd (cc)

pub no_word : (apex owner ls : List (List ℕ)) (l : List ℕ) → owner ≡ l ∷ ls → base32_octets l ≡ None → HasNoHash apex owner
no_word apex owner ls l e g o h n = by_place (same_name ls apex) refl
  where
    none : (x : List ℕ) → Some x ≡ None → ⊥
    none x g = absurd (cc)

    by_place : (b : Bool) → same_name ls apex ≡ b → ⊥
    by_place true s = none o (sym h ∙ by_first apex owner ls l true None e s g)
    by_place false s = none o (sym h ∙ by_first apex owner ls l false None e s g)

pub other_size : (apex owner ls : List (List ℕ)) (l w : List ℕ) → owner ≡ l ∷ ls → same_name ls apex ≡ true → base32_octets l ≡ Some w → length w ≢ 20 → HasNoHash apex owner
other_size apex owner ls l w e s g n o h k =
    let same : Some o ≡ Some w = sym h ∙ by_first apex owner ls l true (Some w) e s g in
    let q : o ≡ w = cc in
    n (ap length (sym q) ∙ k)

pub has_hash : (apex owner ls : List (List ℕ)) (l w : List ℕ) → owner ≡ l ∷ ls → same_name ls apex ≡ true → base32_octets l ≡ Some w → length w ≡ 20 → HasHash apex owner w
has_hash apex owner ls l w e s g n = record { is = by_first apex owner ls l true (Some w) e s g; size = n }

-- ---- what is behind the parameters

module _ (left : List ℕ) where
  pub short_next : length left < 21 → SaysNothing3 left
  short_next l next types s = omega (arith, l, ap length s.octets_, length-append next s.bits, s.size)

  hash_part : (next bits : List ℕ) (d : ℕ) → left ≡ 20 ∷ (next ++ bits) → length next ≡ 20 → (20 ≡ get_or left 0 d) × (bits ≡ drop 21 left)
  hash_part next bits d e n = subst (λ (o : List ℕ). (20 ≡ get_or o 0 d) × (bits ≡ drop 21 o)) (sym e) (refl, after next bits 20 n)
    where
      after : (xs ys : List ℕ) (k : ℕ) → length xs ≡ k → ys ≡ drop k (xs ++ ys)
      after [] ys k h = ap (λ (j : ℕ). drop j ys) h
      after (x ∷ xs) ys k h = after xs ys (length xs) refl ∙ ap (λ (j : ℕ). drop j (x ∷ xs ++ ys)) h

  pub other_length : (n : ℕ) → n ≡ get_or left 0 n → n ≢ 20 → SaysNothing3 left
  other_length n r k next types s = k (r ∙ sym (hash_part next s.bits n s.octets_ s.size).0)

  pub no_maps : SayNone (drop 21 left) → SaysNothing3 left
  no_maps k next types s = k s.types_.blocks s.types_.lawful (s.types_.octets_ ∙ (hash_part next s.bits 0 s.octets_ s.size).1)

  pub says_next : (n : ℕ) (next types : List ℕ) → 21 ≤ length left → n ≡ get_or left 0 n → n ≡ 20 → next ≡ take 20 (drop 1 left) → SayTypes (drop 21 left) types → SaysNext3 left next types
  says_next n next types l r k e t = record {
    bits = drop 21 left;
    octets_ = joined left l n r ∙ (λ i. k i ∷ (sym (take-append-drop 20 (drop 1 left)) ∙ (λ j. sym e j ++ dropped left j)) i);
    size = ap length e ∙ length-take-le 20 (drop 1 left) (long left l);
    types_ = t;
  }
    where
      joined : (o : List ℕ) → 21 ≤ length o → (m : ℕ) → m ≡ get_or o 0 m → o ≡ m ∷ drop 1 o
      joined [] l m r = absurd (omega (arith, l))
      joined (x ∷ xs) l m r = let q : m ≡ x = r in λ i. sym q i ∷ xs

      dropped : (o : List ℕ) → drop 20 (drop 1 o) ≡ drop 21 o
      dropped [] = refl
      dropped (x ∷ xs) = refl

      long : (o : List ℕ) → 21 ≤ length o → 20 ≤ length (drop 1 o)
      long [] l = omega (arith, l)
      long (x ∷ xs) l = omega (arith, l)

-- ---- one record

module _ (apex : List (List ℕ)) (h : Hashing) (r : Record) where
  pub no_parameters : BeginWithNoParameters (unknown_octets r.rdata) → IsNoNsec3 apex h r
  no_parameters k n s = k s.flags h s.left s.data_.octets_

  same_reading : (f : ℕ) (of : Hashing) (left : List ℕ) (n : Nsec3State) → BeginWithParameters (unknown_octets r.rdata) f of left → (s : IsNsec3 apex h r n) → AreOne f s.flags of h left s.left
  same_reading f of left n b s = one_reading f s.flags of h left s.left (sym b.octets_ ∙ s.data_.octets_)

  pub other_parameters : (f : ℕ) (of : Hashing) (left : List ℕ) → BeginWithParameters (unknown_octets r.rdata) f of left → (IsFor f of h → ⊥) → IsNoNsec3 apex h r
  other_parameters f of left b k n s =
      let q = same_reading f of left n b s in
      k (record { known = subst (λ (x : ℕ). x ≤ 1) (sym q.flags) s.known; same = q.hashing })

  pub no_owner : HasNoHash apex r.owner → IsNoNsec3 apex h r
  no_owner k n s = k n.hash s.owner s.size

  pub no_next : (f : ℕ) (of : Hashing) (left : List ℕ) → BeginWithParameters (unknown_octets r.rdata) f of left → SaysNothing3 left → IsNoNsec3 apex h r
  no_next f of left b k n s =
      let q = same_reading f of left n b s in
      k n.next n.types (subst (λ (x : List ℕ). SaysNext3 x n.next n.types) (sym q.left_) s.next_)

  pub is_nsec3 : (f : ℕ) (of : Hashing) (left hash next types : List ℕ) → BeginWithParameters (unknown_octets r.rdata) f of left → IsFor f of h → HasHash apex r.owner hash → SaysNext3 left next types → (n : Nsec3State) → n ≡ record { hash = hash; opt_out = nat_eq f 1; next = next; types = types } → IsNsec3 apex h r n
  is_nsec3 f of left hash next types b k o x n e = subst (IsNsec3 apex h r) (sym e) (record {
    owner = o.is;
    size = o.size;
    flags = f;
    known = k.known;
    opt_out_ = refl;
    left = left;
    data_ = subst (λ (y : Hashing). BeginWithParameters (unknown_octets r.rdata) f y left) k.same b;
    next_ = x;
  })

-- ---- refusals of a hashing

pub refuses : (apex : List (List ℕ)) (rs : List Record) (h : Hashing) → IsParam apex rs h → (e : Nsec3Error) → FailsBy h e → Fails3 apex rs e
refuses apex rs h p (Params n) f = absurd f
refuses apex rs h p Param f = absurd f
refuses apex rs h p (Unhashed e) f = record { hashing = h; is = p; error = f }
refuses apex rs h p (Malformed i) f = absurd f
refuses apex rs h p Twice f = absurd f
refuses apex rs h p NoMemory f = tt

-- ---- the data of the one record

is_param : (apex : List (List ℕ)) (rs : List Record) (r : Record) (f : ℕ) (h : Hashing) (left : List ℕ) → used_records apex rs ≡ r ∷ [] → BeginWithParameters (unknown_octets r.rdata) f h left → left ≡ [] → is_used apex r ≡ true → IsParam apex rs h
is_param apex rs r f h left a b e u = record {
  one = r;
  alone = a;
  data_ = b.octets_ ∙ (ap (λ (x : List ℕ). parameters f h ++ x) e ∙ (append-nil (parameters f h) ∙ ap (λ (x : ℕ). parameters x h) zero_flags));
}
  where
    zero_flags : f ≡ 0
    zero_flags = eqb-true f 0 (ap (λ (o : List ℕ). nat_eq (slice_index o 1) 0) (sym b.octets_) ∙ flags_zero (is_of 51 r) (same_name r.owner apex) (nat_eq (slice_index (unknown_octets r.rdata) 1) 0) u)
      where
        flags_zero : (x y z : Bool) → (x && (y && z)) ≡ true → z ≡ true
        flags_zero true true z e = e
        flags_zero true false z e = absurd (true≢false (sym e))
        flags_zero false y z e = absurd (true≢false (sym e))

-- what a filter keeps passes its test
kept_passes : (p : Record → Bool) (xs : List Record) (r : Record) → filter p xs ≡ r ∷ [] → p r ≡ true
kept_passes p [] r e = absurd (omega (arith, ap length e))
kept_passes p (x ∷ xs) r e = by_test (kept_passes p xs r) (p x) refl
  where
    by_test : (filter p xs ≡ r ∷ [] → p r ≡ true) → (b : Bool) → p x ≡ b → p r ≡ true
    by_test ih true t =
        let k : x ∷ filter p xs ≡ r ∷ [] = sym (ap (λ (b : Bool). cond b (x ∷ filter p xs) (filter p xs)) t) ∙ e in
        let q : x ≡ r = cc in
        sym (ap p q) ∙ t
    by_test ih false t = ih (sym (ap (λ (b : Bool). cond b (x ∷ filter p xs) (filter p xs)) t) ∙ e)

pub param_read : (apex : List (List ℕ)) (rs : List Record) (r : Record) (f : ℕ) (h : Hashing) (left : List ℕ) → used_records apex rs ≡ r ∷ [] → BeginWithParameters (unknown_octets r.rdata) f h left → left ≡ [] → IsParam apex rs h
param_read apex rs r f h left a b e = is_param apex rs r f h left a b e (kept_passes (is_used apex) rs r a)

pub no_param : (apex : List (List ℕ)) (rs : List Record) (r : Record) → used_records apex rs ≡ r ∷ [] → BeginWithNoParameters (unknown_octets r.rdata) → HasNoParam apex rs
no_param apex rs r a k = record { one = r; alone = a; none = λ h e. k 0 h [] (e ∙ sym (append-nil (parameters 0 h))) }

pub param_and_more : (apex : List (List ℕ)) (rs : List Record) (r : Record) (f : ℕ) (h : Hashing) (left : List ℕ) → used_records apex rs ≡ r ∷ [] → BeginWithParameters (unknown_octets r.rdata) f h left → 0 < length left → HasNoParam apex rs
param_and_more apex rs r f h left a b n = record {
  one = r;
  alone = a;
  none = λ k e.
      let q = one_reading f 0 h k left [] (sym b.octets_ ∙ (e ∙ sym (append-nil (parameters 0 k)))) in
      omega (arith, n, ap length q.left_);
}

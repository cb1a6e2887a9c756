-- The search for the key that a TSIG names.
use Rattle.std.proofs.Common.{◌≡◌, ℕ, ◌+◌, ◌<◌, ◌≤◌, Bool, true, false, List, [], ◌∷◌, length, drop, map, get_or, Some, None, refl, sym, arith}
use Rattle.std.proofs.lemmas.List.{drop_more, drop_all}
use Rattle.dns_tsig.specs.Keys.{KeyParts, is_named, key_for, key_from}
use Rattle.dns_tsig.specs.Tsig.{Tsig}

pub named_here : {A : Type 0} (f : A → KeyParts) (t : Tsig) (ks : List A) (i : ℕ) (k : A) → i < length ks → k ≡ get_or ks i k → is_named (f k) t ≡ true → key_from i (map f (drop i ks)) t ≡ Some (i, f k)
named_here f t ks i k p e h = rw (drop_more ks i k p, sym e, h) refl

pub named_later : {A : Type 0} (f : A → KeyParts) (t : Tsig) (ks : List A) (i : ℕ) (k : A) → i < length ks → k ≡ get_or ks i k → is_named (f k) t ≡ false → key_from i (map f (drop i ks)) t ≡ key_from (i + 1) (map f (drop (i + 1) ks)) t
named_later f t ks i k p e h = rw (drop_more ks i k p, sym e, h) refl

pub none_named : {A : Type 0} (f : A → KeyParts) (t : Tsig) (ks : List A) (i : ℕ) → length ks ≤ i → key_from i (map f (drop i ks)) t ≡ None
none_named f t ks i p = rw (drop_all i ks p) refl

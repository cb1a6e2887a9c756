-- The search for the key of a name, and keys that are shared once more.
use Rattle.std.proofs.Common.{◌≡◌, ℕ, ◌+◌, ◌<◌, ◌≤◌, true, false, List, [], ◌∷◌, ◌++◌, length, drop, take, map, get_or, Some, None, refl, sym, ap, ◌∙◌, arith}
use Rattle.std.proofs.lemmas.List.{drop_more, drop_all, map-append, take_all, take_more}
use Rattle.dns_name.specs.Canonical.{same_name}
use Rattle.dns_tsig.specs.Keys.{KeyParts}
use Rattle.dns_peer_keys.specs.PeerKeys.{key_named_from}

pub named_here : {A : Type 0} (f : A → KeyParts) (name : List (List ℕ)) (ks : List A) (i : ℕ) (k : A) → i < length ks → k ≡ get_or ks i k → same_name name (f k).name ≡ true → key_named_from i name (map f (drop i ks)) ≡ Some (i, f k)
named_here f name ks i k p e h = rw (drop_more ks i k p, sym e, h) refl

pub named_later : {A : Type 0} (f : A → KeyParts) (name : List (List ℕ)) (ks : List A) (i : ℕ) (k : A) → i < length ks → k ≡ get_or ks i k → same_name name (f k).name ≡ false → key_named_from i name (map f (drop i ks)) ≡ key_named_from (i + 1) name (map f (drop (i + 1) ks))
named_later f name ks i k p e h = rw (drop_more ks i k p, sym e, h) refl

pub none_named : {A : Type 0} (f : A → KeyParts) (name : List (List ℕ)) (ks : List A) (i : ℕ) → length ks ≤ i → key_named_from i name (map f (drop i ks)) ≡ None
none_named f name ks i p = rw (drop_all i ks p) refl

-- keys that are shared once more, one by one
pub one_shared : {A : Type 0} (f : A → KeyParts) (shared ks : List A) (i : ℕ) (k new : A) → i < length ks → k ≡ get_or ks i k → map f shared ≡ map f (take i ks) → f new ≡ f k → map f (shared ++ new ∷ []) ≡ map f (take (i + 1) ks)
one_shared f shared ks i k new p e h g =
    map-append f shared (new ∷ []) ∙ (ap (λ x. x ++ f new ∷ []) h ∙ (ap (λ x. map f (take i ks) ++ x ∷ []) g ∙ (sym (map-append f (take i ks) (k ∷ [])) ∙ ap (map f) (ap (λ x. take i ks ++ x ∷ []) e ∙ sym (take_more ks i k p)))))

pub all_shared : {A : Type 0} (f : A → KeyParts) (ks : List A) (i : ℕ) → length ks ≤ i → map f (take i ks) ≡ map f ks
all_shared f ks i p = ap (map f) (take_all i ks p)

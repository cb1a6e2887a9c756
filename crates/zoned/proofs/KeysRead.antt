-- The keys of a configuration, which are read one by one.
use Rattle.std.proofs.Common.{◌≡◌, ℕ, ◌+◌, ◌<◌, ◌≤◌, List, [], ◌∷◌, ◌++◌, length, take, get_or, Some, sym, ap, ◌∙◌, subst}
use Rattle.std.specs.List.{AllZip}
use Rattle.std.proofs.lemmas.List.{take_all, take_more}
use Rattle.dns_config.specs.declared.key.KeyEntry.{KeyEntry}
use Rattle.dns_hmac.specs.declared.algorithm.Algorithm.{Algorithm}
use Rattle.dns_tsig.specs.Keys.{KeyParts}
use Rattle.dns_tsig.specs.Secrets.{key_written}
use Rattle.dns_peer_keys.specs.PeerKeys.{AddsKey}
use Rattle.zoned.specs.Keys.{AddsKeyOf, IsKeyOf, IsSecretText}

pub one_read : (e : KeyEntry) (name : List (List ℕ)) (a : Algorithm) (text : List ℕ) (before after : List KeyParts) → name ≡ e.name.name → a ≡ e.algorithm.algorithm → IsSecretText e.secret text → AddsKey name a text before after → AddsKeyOf e before after
one_read e name a text before after n s stands h = record {
  key = h.key;
  made = record { text = text; stands = stands; written = subst (λ x. key_written x e.algorithm.algorithm text ≡ Some h.key) n (subst (λ x. key_written name x text ≡ Some h.key) s h.written) };
  added = h.added;
}

zipped_more : {A B : Type 0} (R : A → B → Type 0) (xs : List A) (ys : List B) (x : A) (y : B) → AllZip R xs ys → R x y → AllZip R (xs ++ x ∷ []) (ys ++ y ∷ [])
zipped_more R [] [] x y h r = (r, tt)
zipped_more R [] (b ∷ ys) x y h r = absurd h
zipped_more R (a ∷ xs) [] x y h r = absurd h
zipped_more R (a ∷ xs) (b ∷ ys) x y h r = (h.0, zipped_more R xs ys x y h.1 r)

pub more_read : (es : List KeyEntry) (i : ℕ) (e : KeyEntry) (before after : List KeyParts) → i < length es → e ≡ get_or es i e → AllZip IsKeyOf (take i es) before → AddsKeyOf e before after → AllZip IsKeyOf (take (i + 1) es) after
more_read es i e before after p is h added =
    let next : take i es ++ e ∷ [] ≡ take (i + 1) es = ap (λ x. take i es ++ x ∷ []) is ∙ sym (take_more es i e p) in
    subst (λ front. AllZip IsKeyOf front after) next
    (subst (λ keys. AllZip IsKeyOf (take i es ++ e ∷ []) keys) (sym added.added) (zipped_more IsKeyOf (take i es) before e added.key h added.made))

pub all_read : (es : List KeyEntry) (i : ℕ) (keys : List KeyParts) → length es ≤ i → AllZip IsKeyOf (take i es) keys → AllZip IsKeyOf es keys
all_read es i keys p h = subst (λ front. AllZip IsKeyOf front keys) (take_all i es p) h

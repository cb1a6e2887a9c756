-- Entries of a cache: those after a put and after a use.
use Rattle.std.proofs.Common.{◌≡◌, ℕ, zero, suc, ◌-◌, ◌≤◌, ◌<◌, true, false, cond, List, [], ◌∷◌, length, take, Option, Some, None, refl, ap, sym, ◌∙◌, arith, take_all}
use Rattle.std.specs.Option.{option_map_or}
use Rattle.std.specs.Map.{lookup, lookup_entry, remove_entry}
use Rattle.lru.specs.LruCache.{lru_cache, promoted, put_entries}
use Rattle.dns_cache.specs.AskedCache.{Cached, KeptReply, with_kept, with_used}
use Rattle.dns_cache.specs.Keys.{AskedKey, same_key, same_key_Decides}

abbrev Entries : Type 0
Entries = List (AskedKey × KeptReply)

-- of no entry none is left, whatever the capacity
none_left : (n : ℕ) (es : Entries) → es ≡ [] → lru_cache (take n es) n ≡ lru_cache [] n
none_left zero [] e = refl
none_left (suc n) [] e = refl
none_left zero (x ∷ es) e = absurd (cc)
none_left (suc n) (x ∷ es) e = absurd (cc)

pub none_kept : (c : Cached) (n m : ℕ) → c ≡ lru_cache [] m → lru_cache (take n c.entries) n ≡ lru_cache [] n
none_kept c n m e = none_left n c.entries (ap (λ (x : Cached). x.entries) e)

module _ (key : AskedKey) where
  -- an entry of the key is found by its key alone
  found : (es : Entries) (o : Option (AskedKey × KeptReply)) → lookup_entry (same_key key) es ≡ o → lookup (same_key key) es ≡ option_map_or (λ e. Some e.1) o None
  found [] o h = ap (λ p. option_map_or (λ (e : AskedKey × KeptReply). Some e.1) p None) h
  found (e ∷ es) o h = (elim (same_key key e.0) as (λ b. cond b (Some e) (lookup_entry (same_key key) es) ≡ o → cond b (Some e.1) (lookup (same_key key) es) ≡ option_map_or (λ (e : AskedKey × KeptReply). Some e.1) o None) [
    | true ↦ λ g. ap (λ p. option_map_or (λ (e : AskedKey × KeptReply). Some e.1) p None) g
    | false ↦ λ g. found es o g
  ]) h

  own_key : (es : Entries) (e : AskedKey × KeptReply) → lookup_entry (same_key key) es ≡ Some e → e.0 ≡ key
  own_key [] e h = cc
  own_key (f ∷ es) e h = (elim (same_key key f.0) as (λ b. same_key key f.0 ≡ b → cond b (Some f) (lookup_entry (same_key key) es) ≡ Some e → e.0 ≡ key) [
    | true ↦ λ t g. let same : f ≡ e = cc in sym ((same_key_Decides key f.0).0 t ∙ ap (λ (p : AskedKey × KeptReply). p.0) same)
    | false ↦ λ t g. own_key es e g
  ]) refl h

  none_removed : (es : Entries) → lookup_entry (same_key key) es ≡ None → remove_entry (same_key key) es ≡ es
  none_removed [] h = refl
  none_removed (f ∷ es) h = (elim (same_key key f.0) as (λ b. cond b (Some f) (lookup_entry (same_key key) es) ≡ None → cond b es (f ∷ remove_entry (same_key key) es) ≡ f ∷ es) [
    | true ↦ λ g. cc
    | false ↦ λ g. ap (λ l. f ∷ l) (none_removed es g)
  ]) h

  one_removed : (es : Entries) (e : AskedKey × KeptReply) → lookup_entry (same_key key) es ≡ Some e → suc (length (remove_entry (same_key key) es)) ≡ length es
  one_removed [] e h = cc
  one_removed (f ∷ es) e h = (elim (same_key key f.0) as (λ b. cond b (Some f) (lookup_entry (same_key key) es) ≡ Some e → suc (length (cond b es (f ∷ remove_entry (same_key key) es))) ≡ suc (length es)) [
    | true ↦ λ g. refl
    | false ↦ λ g. ap suc (one_removed es e g)
  ]) h

  -- the entry that is found comes first
  used_by : (c : Cached) (o : Option (AskedKey × KeptReply)) → lookup_entry (same_key key) c.entries ≡ o → lru_cache (option_map_or (λ e. e ∷ remove_entry (same_key key) c.entries) o c.entries) c.cap ≡ with_used key c (option_map_or (λ e. Some e.1) o None)
  used_by c None h = refl
  used_by c (Some e) h = ap (λ k. lru_cache ((k, e.1) ∷ remove_entry (same_key key) c.entries) c.cap) (own_key c.entries e h)

  pub promoted_is_used : (c : Cached) → lru_cache (promoted (same_key key) c.entries) c.cap ≡ with_used key c (lookup (same_key key) c.entries)
  promoted_is_used c = used_by c (lookup_entry (same_key key) c.entries) refl ∙ ap (with_used key c) (sym (found c.entries (lookup_entry (same_key key) c.entries) refl))

  take_first : (n : ℕ) (x : AskedKey × KeptReply) (es : Entries) → 0 < n → take n (x ∷ es) ≡ x ∷ take (n - 1) es
  take_first zero x es h = absurd (omega arith)
  take_first (suc n) x es h = let e : n ≡ suc n - 1 = omega arith in ap (λ (k : ℕ). x ∷ take k es) e

  put_by : (c : Cached) (v : KeptReply) (o : Option (AskedKey × KeptReply)) → lookup_entry (same_key key) c.entries ≡ o → length c.entries ≤ c.cap → 0 < c.cap → option_map_or (λ e. (e.0, v) ∷ remove_entry (same_key key) c.entries) o ((key, v) ∷ take (c.cap - 1) c.entries) ≡ take c.cap ((key, v) ∷ remove_entry (same_key key) c.entries)
  put_by c v None h l p = sym (take_first c.cap (key, v) (remove_entry (same_key key) c.entries) p ∙ ap (λ es. (key, v) ∷ take (c.cap - 1) es) (none_removed c.entries h))
  put_by c v (Some e) h l p =
      let n : length ((key, v) ∷ remove_entry (same_key key) c.entries) ≤ c.cap = omega (arith, one_removed c.entries e h) in
      ap (λ k. (k, v) ∷ remove_entry (same_key key) c.entries) (own_key c.entries e h) ∙ sym (take_all c.cap ((key, v) ∷ remove_entry (same_key key) c.entries) n)

  pub put_is_kept : (c : Cached) (v : KeptReply) → length c.entries ≤ c.cap → 0 < c.cap → lru_cache (put_entries same_key c key v) c.cap ≡ with_kept key c (Some v)
  put_is_kept c v l p = ap (λ es. lru_cache es c.cap) (put_by c v (lookup_entry (same_key key) c.entries) refl l p)

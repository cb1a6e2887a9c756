-- The grammar of names (RFC 1035, sections 3.1 and 4.1.4), apart from how they are read.
use Rattle.std.specs.Prelude.{ℕ, ◌≡◌, ◌+◌, ◌*◌, ◌≤◌, ◌<◌, List, [], ◌∷◌, ◌++◌, length, drop, take}
use Rattle.dns_name.specs.Labels.{spell, IsName}

-- At a place before a limit stands a name of these labels, by that many pointers and up to an end.
-- A pointer's head has its two top bits set, and its target is any earlier place of the octets.
pub data NameStands (o : List ℕ) : ℕ → ℕ → List (List ℕ) → ℕ → ℕ → Type 0 where
  root : (limit at : ℕ) (more : List ℕ) → drop at (take limit o) ≡ 0 ∷ more → NameStands o limit at [] 0 (at + 1)
  label : (limit at h end : ℕ) (l more : List ℕ) (ls : List (List ℕ)) → 0 < length l → length l < 64
      → drop at (take limit o) ≡ length l ∷ (l ++ more) → NameStands o limit (at + length l + 1) ls h end
      → NameStands o limit at (l ∷ ls) h end
  pointer : (limit at h end high low : ℕ) (more : List ℕ) (ls : List (List ℕ)) → drop at (take limit o) ≡ (192 + high) ∷ low ∷ more
      → 256 * high + low < at → NameStands o (length o) (256 * high + low) ls h end → NameStands o limit at ls (h + 1) (at + 2)

-- such a name within the bounds, where size octets and hops pointers came before
pub record Found (o : List ℕ) (limit at size hops : ℕ) (ls : List (List ℕ)) (end : ℕ) : Type 0 where
  pub pointers : ℕ
  pub stands : NameStands o limit at ls pointers end
  pub room : size + length (spell ls) ≤ 255
  pub few : hops + pointers ≤ 255

-- at a place stands an uncompressed name of these labels, up to an end
pub record StandsPlain (o : List ℕ) (at : ℕ) (ls : List (List ℕ)) (end : ℕ) : Type 0 where
  pub more : List ℕ
  pub spelt : drop at o ≡ spell ls ++ more
  pub name : IsName ls
  pub ends : end ≡ at + length (spell ls)

-- Octets in a buffer of 32.
use Rattle.std.specs.Prelude.{◌≡◌, ℕ, ◌-◌, ◌≤◌, List, ◌++◌, length, take, drop, replicate}
use Rattle.std.proofs.Common.{refl, arith, length-take-le, take-append-drop}
use Rattle.dns_cookie.specs.declared.server_cookie.ServerCookie.TheInside.{Inside}

-- 8 to 32 octets, and zeros after them
pub record IsPadded (c : Inside) : Type 0 where
  pub least : 8 ≤ c.len
  pub most : c.len ≤ 32
  pub whole : length c.octets ≡ 32
  pub zeros : drop c.len c.octets ≡ replicate (32 - c.len) 0

-- the octets
abbrev pub octets_in : Inside → List ℕ
octets_in c = take c.len c.octets

-- the buffer of octets
abbrev pub padded : List ℕ → Inside
padded o = record { octets = o ++ replicate (32 - length o) 0; len = length o }

-- which is the buffer that they are in
pub padded-octets_in : (c : Inside) → IsPadded c → padded (octets_in c) ≡ c
padded-octets_in c h =
    let n : length (take c.len c.octets) ≡ c.len = length-take-le c.len c.octets (omega (arith, h.most, h.whole)) in
    rw (n, ← h.zeros, take-append-drop) refl

-- Keys by their names (RFC 8945, section 5.2.1).
use Rattle.std.specs.Prelude.{ℕ, ◌≡◌, ◌≢◌, ◌+◌, List, [], ◌∷◌, ◌++◌, Option, Some, None, IsSome, if◌then◌else◌}
use Rattle.dns_hmac.specs.declared.algorithm.Algorithm.{Algorithm}
use Rattle.dns_name.specs.Canonical.{same_name}
use Rattle.dns_tsig.specs.Keys.{KeyParts}
use Rattle.dns_tsig.specs.Secrets.{key_written}
use Rattle.dns_peer_keys.specs.declared.error.AddKeyError.{AddKeyError}
use Rattle.dns_peer_keys.specs.declared.error.AddKeyError.TheVariants.{Twice, Empty, NotBase64, OutOfMemory}

-- the first key of a name, with its place among keys whose first has this one
abbrev pub key_named_from : ℕ → List (List ℕ) → List KeyParts → Option (ℕ × KeyParts)
key_named_from n name [] = None
key_named_from n name (k ∷ keys) = if same_name name k.name then Some (n, k) else key_named_from (n + 1) name keys

abbrev pub key_named : List (List ℕ) → List KeyParts → Option (ℕ × KeyParts)
key_named name keys = key_named_from 0 name keys

-- a key whose secret a text writes, which isn't empty, is after the others, none of which has its name
pub record AddsKey (name : List (List ℕ)) (a : Algorithm) (text : List ℕ) (before after : List KeyParts) : Type 0 where
  pub alone : key_named name before ≡ None
  pub filled : text ≢ []
  pub key : KeyParts
  pub written : key_written name a text ≡ Some key
  pub added : after ≡ before ++ key ∷ []

-- why a key isn't added
abbrev pub HasAddKeyError : List KeyParts → List (List ℕ) → Algorithm → List ℕ → AddKeyError → Type 0
HasAddKeyError keys name a text Twice = IsSome (key_named name keys)
HasAddKeyError keys name a text Empty = text ≡ []
HasAddKeyError keys name a text NotBase64 = key_written name a text ≡ None
HasAddKeyError keys name a text OutOfMemory = Unit {0}

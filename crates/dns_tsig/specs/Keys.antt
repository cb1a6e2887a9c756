-- Keys: a name, an algorithm and a secret (RFC 8945, sections 4.2 and 6).
use Rattle.std.specs.Prelude.{ℕ, ◌+◌, Bool, List, [], ◌∷◌, ◌&&◌, codes, if◌then◌else◌, Option, Some, None}
use Rattle.dns_name.specs.Canonical.{same_name}
use Rattle.dns_hmac.specs.declared.algorithm.Algorithm.{Algorithm}
use Rattle.dns_hmac.specs.declared.algorithm.Algorithm.TheVariants.{Sha1, Sha256, Sha384, Sha512}
use Rattle.dns_hmac.specs.Hmac.{hmac}
use Rattle.dns_tsig.specs.Tsig.{Tsig}

pub record KeyParts : Type 0 where
  pub name : List (List ℕ)
  pub algorithm : Algorithm
  pub secret : List ℕ

abbrev pub label_of : Algorithm → List ℕ
label_of Sha1 = codes "hmac-sha1"
label_of Sha256 = codes "hmac-sha256"
label_of Sha384 = codes "hmac-sha384"
label_of Sha512 = codes "hmac-sha512"

abbrev pub algorithm_name : Algorithm → List (List ℕ)
algorithm_name a = label_of a ∷ []

-- the code of a text under a key
abbrev pub mac_of : KeyParts → List ℕ → List ℕ
mac_of k text = hmac k.algorithm k.secret text

-- a TSIG names this key and its algorithm, up to ASCII case
abbrev pub is_named : KeyParts → Tsig → Bool
is_named k t = same_name t.key k.name && same_name t.algorithm (algorithm_name k.algorithm)

-- the first key that a TSIG names, with its place among keys whose first has this one (5.2.1)
abbrev pub key_from : ℕ → List KeyParts → Tsig → Option (ℕ × KeyParts)
key_from n [] t = None
key_from n (k ∷ keys) t = if is_named k t then Some (n, k) else key_from (n + 1) keys t

abbrev pub key_for : List KeyParts → Tsig → Option (ℕ × KeyParts)
key_for keys t = key_from 0 keys t

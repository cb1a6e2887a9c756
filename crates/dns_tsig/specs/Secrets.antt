-- Keys whose secret is written in base64 (RFC 4648, section 4).
use Rattle.std.specs.Prelude.{ℕ, ◌≡◌, List, Option, Some, None, Result, Ok, Err}
use Rattle.base64.specs.declared.decode.DecodeError.{DecodeError}
use Rattle.base64.specs.GeneralPurpose.{decode_of as base64_of}
use Rattle.base64.specs.Engines.{standard}
use Rattle.dns_hmac.specs.declared.algorithm.Algorithm.{Algorithm}
use Rattle.dns_tsig.specs.declared.error.KeyError.{KeyError}
use Rattle.dns_tsig.specs.declared.error.KeyError.TheVariants.{NotBase64, OutOfMemory as NoMemory}
use Rattle.dns_tsig.specs.Keys.{KeyParts}

abbrev pub key_decoded : List (List ℕ) → Algorithm → Result (List ℕ) DecodeError → Option KeyParts
key_decoded name a (Ok octets) = Some (record { name = name; algorithm = a; secret = octets })
key_decoded name a (Err e) = None

-- the key whose secret a text writes; none if the text is no base64
abbrev pub key_written : List (List ℕ) → Algorithm → List ℕ → Option KeyParts
key_written name a text = key_decoded name a (base64_of standard text)

-- that key, or the refusal of the text, unless memory runs out
abbrev pub GivesKey : Option KeyParts → Result KeyParts KeyError → Type 0
GivesKey written (Ok k) = written ≡ Some k
GivesKey written (Err NotBase64) = written ≡ None
GivesKey written (Err NoMemory) = Unit {0}

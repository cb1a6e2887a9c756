-- NOTIFYs that are signed, and the answers to them (RFC 8945, section 5.3).
use Rattle.std.specs.Prelude.{ℕ, ◌≡◌, List, [], Option, Some, None, Ok}
use Rattle.dns_peer_keys.specs.Exchanges.{reply_of, request_stamp}
use Rattle.dns_peer_keys.specs.declared.error.SignedReplyError.{SignedReplyError}
use Rattle.dns_tsig.specs.Found.{found}
use Rattle.dns_tsig.specs.Keys.{KeyParts}
use Rattle.dns_tsig.specs.Signed.{Signs}

-- the key, the MAC that was sent last, and why an answer wasn't taken since
pub record SigningParts : Type 0 where
  pub key : KeyParts
  pub mac : Option (List ℕ)
  pub fault : Option SignedReplyError

abbrev pub under : KeyParts → SigningParts
under key = record { key = key; mac = None; fault = None }

-- what was sent is signed after no MAC, and its MAC is known
pub record IsSigned (key : KeyParts) (secs : ℕ) (message sent : List ℕ) (s : SigningParts) : Type 0 where
  pub kept : s.key ≡ key
  pub code : List ℕ
  pub known : s.mac ≡ Some code
  pub signed : Signs key [] (request_stamp secs) [] message sent code

-- an answer verifies after the MAC that was sent
pub record IsVerified (s : SigningParts) (secs : ℕ) (given answer : List ℕ) : Type 0 where
  pub code : List ℕ
  pub sent : s.mac ≡ Some code
  pub taken : reply_of s.key code secs (found given) ≡ Ok answer

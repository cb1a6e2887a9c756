-- The messages of a transfer under a key (RFC 8945, section 5.3.1).
use Rattle.std.specs.Prelude.{ℕ, ◌≡◌, List, Result, Err}
use Rattle.dns_tsig.specs.declared.error.TsigError.{TsigError}
use Rattle.dns_tsig.specs.declared.stream.IncomingStream.{IncomingStream}
use Rattle.dns_tsig.specs.Found.{found}
use Rattle.dns_tsig.specs.Keys.{KeyParts}
use Rattle.dns_tsig.specs.Streams.{Chain}
use Rattle.dns_peer_keys.specs.Exchanges.{said_of}
use Rattle.dns_peer_keys.specs.declared.error.SignedReplyError.{SignedReplyError}

-- the key, and what is kept of the messages
pub record TransferParts : Type 0 where
  pub key : KeyParts
  pub stream : IncomingStream

-- a message doesn't go on a chain; its fault is what it says of itself, or why it is refused
abbrev pub IsRefusedAs : Result Chain TsigError → List ℕ → SignedReplyError → Type 0
IsRefusedAs c m f = (e : TsigError) × (c ≡ Err e) × (f ≡ said_of e (found m))

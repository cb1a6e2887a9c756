-- The replies of a primary that may share a key with its secondary (RFC 8945, sections 5.3 and 5.3.1).
use Rattle.std.specs.Prelude.{ℕ, ◌≡◌, Bool, true, List, Option, Some, None, Ok}
use Rattle.std.specs.Arc.{arc_value}
use Rattle.dns_hmac.specs.Digests.{size_of}
use Rattle.dns_hmac.specs.Macs.{octets_of}
use Rattle.dns_tsig.specs.Found.{found}
use Rattle.dns_tsig.specs.Streaming.{Follows, GoesOn}
use Rattle.dns_tsig.specs.Streams.{Chain, is_whole, taken}
use Rattle.dns_peer_keys.specs.Exchanges.{reply_of, tsig_time}
use Rattle.dns_peer_keys.specs.TransferChains.{TransferParts}
use Rattle.dns_zone_copies.specs.declared.check.SignedQuery.{SignedQuery}

-- a reply is taken as it came; to a query that was signed, only one that verifies at some time, without its TSIG
abbrev pub IsReplyTo : Option SignedQuery → List ℕ → List ℕ → Type 0
IsReplyTo None given reply = reply ≡ given
IsReplyTo (Some q) given reply = (secs : ℕ) × (reply_of (arc_value q.key) (octets_of q.mac) secs (found given) ≡ Ok reply)

-- a message goes on, at some time, what was taken of a transfer before; if that wasn't asked under a key, each does
abbrev pub GoesOnTo : Option TransferParts → Option TransferParts → List ℕ → Type 0
GoesOnTo None after m = after ≡ None
GoesOnTo (Some r) None m = ⊥
GoesOnTo (Some r) (Some after) m = (secs : ℕ) × ((after.key ≡ r.key) × ((c : Chain) → Follows r.key c r.stream
    → GoesOn r.key (taken r.key (size_of r.key.algorithm) (tsig_time secs) c m) after.stream))

-- a transfer may end; one that was asked under a key, only after a message that was signed
abbrev pub MayEnd : Option TransferParts → Bool → Type 0
MayEnd None ends = ends ≡ true
MayEnd (Some r) ends = (c : Chain) → Follows r.key c r.stream → ends ≡ is_whole c

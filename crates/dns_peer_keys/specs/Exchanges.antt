-- Requests that are signed under a key, and the replies to them (RFC 8945, sections 5.1 and 5.3).
use Rattle.std.specs.Prelude.{ℕ, ◌≡◌, List, [], min, nat_eq, Option, Some, None, Result, Ok, Err, if◌then◌else◌}
use Rattle.dns_hmac.specs.Digests.{size_of}
use Rattle.dns_hmac.specs.Macs.{octets_of}
use Rattle.dns_message.specs.Sections.{field}
use Rattle.dns_tsig.specs.declared.error.TsigError.{TsigError}
use Rattle.dns_tsig.specs.declared.signing.TsigFields.{TsigFields}
use Rattle.dns_tsig.specs.Found.{Signed}
use Rattle.dns_tsig.specs.Keys.{KeyParts}
use Rattle.dns_tsig.specs.Signed.{Signs}
use Rattle.dns_tsig.specs.Verdicts.{message_refusal}
use Rattle.dns_peer_keys.specs.declared.error.SignedReplyError.{SignedReplyError}
use Rattle.dns_peer_keys.specs.declared.error.SignedReplyError.TheVariants.{Unsigned, Refused, NotVerified, OutOfMemory}
use Rattle.dns_peer_keys.specs.declared.request.SignedRequest.{SignedRequest}

-- seconds, as a TSIG can say them
abbrev pub tsig_time : ℕ → ℕ
tsig_time secs = min secs 281474976710655

-- the time, 300 s of fudge (section 10), and no error
abbrev pub request_stamp : ℕ → TsigFields
request_stamp secs = record { time = tsig_time secs; fudge = 300; error = 0 }

-- a request is signed after no MAC, unless its header can't count a record more
abbrev pub GivesSigned : KeyParts → ℕ → List ℕ → Option SignedRequest → Type 0
GivesSigned k secs request None = field 10 request ≡ 65535
GivesSigned k secs request (Some s) = Signs k [] (request_stamp secs) [] request s.octets.items (octets_of s.mac)

-- a reply that verifies under the key, with a whole MAC after the request's
abbrev pub by_refusal : Signed → Option TsigError → Result (List ℕ) SignedReplyError
by_refusal s None = Ok s.bare
by_refusal s (Some e) = Err (NotVerified e)

-- one that says an error isn't taken
abbrev pub verified : KeyParts → List ℕ → ℕ → Signed → Result (List ℕ) SignedReplyError
verified k mac secs s =
    if nat_eq s.tsig.error 0
    then by_refusal s (message_refusal k (size_of k.algorithm) (tsig_time secs) mac s) else Err (Refused s.tsig.error)

-- a reply without its TSIG, by what its octets are
abbrev pub reply_of : KeyParts → List ℕ → ℕ → Result (Option Signed) TsigError → Result (List ℕ) SignedReplyError
reply_of k mac secs (Ok None) = Err Unsigned
reply_of k mac secs (Ok (Some s)) = verified k mac secs s
reply_of k mac secs (Err e) = Err (NotVerified e)

-- why a reply isn't taken, unless memory runs out
abbrev pub HasSignedReplyError : Result (List ℕ) SignedReplyError → SignedReplyError → Type 0
HasSignedReplyError r OutOfMemory = Unit {0}
HasSignedReplyError r Unsigned = r ≡ Err Unsigned
HasSignedReplyError r (Refused e) = r ≡ Err (Refused e)
HasSignedReplyError r (NotVerified e) = r ≡ Err (NotVerified e)

-- what a message of a transfer says of itself that isn't taken, for this error
abbrev pub by_error : TsigError → Signed → SignedReplyError
by_error e s = if nat_eq s.tsig.error 0 then NotVerified e else Refused s.tsig.error

abbrev pub said_of : TsigError → Result (Option Signed) TsigError → SignedReplyError
said_of e (Ok None) = Unsigned
said_of e (Ok (Some s)) = by_error e s
said_of e (Err other) = NotVerified other

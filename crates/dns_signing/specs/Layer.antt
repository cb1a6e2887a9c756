-- A service whose signed requests are verified, handed on without their TSIG, and answered by signed replies (RFC 8945, sections 5.2
-- and 5.3).
use Rattle.std.specs.Prelude.{ℕ, false, List, [], min, Option, Some, None, Result, Ok, Err}
use Rattle.dns_base.specs.Msg.{Msg}
use Rattle.dns_service.specs.Answer.{Answer}
use Rattle.dns_service.specs.Once.{once}
use Rattle.dns_service.specs.Req.{Req, with_metadata}
use Rattle.dns_service.specs.Transport.{limit, limit_over}
use Rattle.dns_tsig.specs.declared.error.TsigError.{TsigError}
use Rattle.dns_tsig.specs.Codes.{rcode_of}
use Rattle.dns_tsig.specs.Found.{Signed, found}
use Rattle.dns_tsig.specs.Keys.{KeyParts, key_for}
use Rattle.dns_tsig.specs.Verdicts.{message_refusal}
use Rattle.dns_signing.specs.ErrorResponse.{error_within}
use Rattle.dns_signing.specs.Refused.{RefusalParts, refusal_reply, unknown_reply}
use Rattle.dns_signing.specs.Room.{own_size, room_of}
use Rattle.dns_signing.specs.SignedReplies.{SignerParts, signed_answers}

-- the keys, the octets that a MAC has at least, and the fudge of the replies
pub record Policy : Type 0 where
  pub keys : List KeyParts
  pub least : ℕ
  pub fudge : ℕ

abbrev pub policy : List KeyParts → ℕ → ℕ → Policy
policy keys least fudge = record { keys = keys; least = least; fudge = fudge }

-- a request's seconds, as a TSIG can say them
abbrev pub clock : {M : Type 0} → Req M → ℕ
clock r = min r.received_secs 281474976710655

-- a request without its TSIG, and with the place of the key that it was verified under
abbrev pub taken_off : {M : Type 0} → Req M → Signed → ℕ → Req (Option ℕ)
taken_off r s n = with_metadata (record r { octets = s.bare }) (Some n)

-- what signs the replies to a request, by the hint that the inner service leaves
abbrev pub signer_of : {M : Type 0} → Policy → KeyParts → Req M → Signed → Option ℕ → SignerParts
signer_of p k r s hint = record {
  key = k;
  stamp = record { time = clock r; fudge = p.fudge; error = 0 };
  room = room_of k (limit_over r.transport (limit hint));
  prior = s.tsig.mac;
  begun = false;
  request = s.bare;
  ended = false;
}

-- one reply, and then the end
abbrev pub sole : Msg → ℕ → Answer
sole m = once (Ok (record { response = Some m; feedback = None }))

-- what a refusal is made of
abbrev pub refusal_of : {M : Type 0} → ℕ → Req M → Signed → RefusalParts
refusal_of fudge r s = record { octets = r.octets; size = own_size r; now = clock r; fudge = fudge; tsig = s.tsig }

module _ (answer : Req (Option ℕ) → ℕ → Answer) (hint : Req (Option ℕ) → Option ℕ) (p : Policy) where
  -- by what comes of the message under the key that its TSIG names
  abbrev pub verified : {M : Type 0} → Req M → Signed → ℕ → KeyParts → Option TsigError → ℕ → Answer
  verified r s n k None = signed_answers (answer (taken_off r s n)) (signer_of p k r s (hint (taken_off r s n)))
  verified r s n k (Some e) = sole (refusal_reply (refusal_of p.fudge r s) k e)

  -- by the key that a request's TSIG names (5.2.1)
  abbrev pub by_key : {M : Type 0} → Req M → Signed → Option (ℕ × KeyParts) → ℕ → Answer
  by_key r s None = sole (unknown_reply (refusal_of p.fudge r s))
  by_key r s (Some (n, k)) = verified r s n k (message_refusal k p.least (clock r) [] s)

  -- by what a request's octets are: one without a TSIG is as before
  abbrev pub by_octets : {M : Type 0} → Req M → Result (Option Signed) TsigError → ℕ → Answer
  by_octets r (Ok None) = answer (with_metadata r None)
  by_octets r (Ok (Some s)) = by_key r s (key_for p.keys s.tsig)
  by_octets r (Err e) = sole (error_within (own_size r) r.octets (rcode_of e))

  abbrev pub tsig_answer : {M : Type 0} → Req M → ℕ → Answer
  tsig_answer r = by_octets r (found r.octets)

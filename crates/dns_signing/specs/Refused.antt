-- The reply that refuses a request (RFC 8945, sections 5.2, 5.3 and 5.3.2): NOTAUTH, with the error in a TSIG.
use Rattle.std.specs.Prelude.{ℕ, ◌-◌, List, [], ◌∷◌, ◌++◌, length, nat_le, if◌then◌else◌}
use Rattle.dns_base.specs.Msg.{Msg, ResourceRecord}
use Rattle.dns_base.specs.Wire.{wire}
use Rattle.dns_tsig.specs.declared.error.TsigError.{TsigError}
use Rattle.dns_tsig.specs.declared.error.TsigError.TheVariants.{FormErr, BadKey, BadSig, BadTime, BadTrunc}
use Rattle.dns_tsig.specs.Keys.{KeyParts}
use Rattle.dns_tsig.specs.Refusals.{other_octets, signed_refusal, unsigned_refusal}
use Rattle.dns_tsig.specs.Tsig.{Tsig, six, tsig_record}
use Rattle.dns_signing.specs.ErrorResponse.{error_within}
use Rattle.dns_signing.specs.Room.{size_with, unsigned_size}

-- the request's octets, how many octets its reply may have, the time, the fudge, and the request's TSIG
pub record RefusalParts : Type 0 where
  pub octets : List ℕ
  pub size : ℕ
  pub now : ℕ
  pub fudge : ℕ
  pub tsig : Tsig

-- a message with a record after all its others; one that would have more than that many octets is left as it is
abbrev pub and_record : Msg → ResourceRecord → Msg
and_record m r = record m { additional = m.additional ++ r ∷ [] }

abbrev pub with_record_within : ℕ → Msg → ResourceRecord → Msg
with_record_within size m r = if nat_le (length (wire (and_record m r))) size then and_record m r else m

-- NOTAUTH, truncated if it leaves no room for a TSIG of that many octets (5.3)
abbrev pub not_auth : RefusalParts → ℕ → Msg
not_auth p n = error_within (p.size - n) p.octets 9

-- with a TSIG that has no MAC
abbrev pub with_unsigned : RefusalParts → TsigError → Msg → Msg
with_unsigned p e m = with_record_within p.size m (tsig_record (unsigned_refusal e p.now p.fudge p.tsig (wire m)))

abbrev pub unsigned_reply : RefusalParts → TsigError → Msg
unsigned_reply p e = with_unsigned p e (not_auth p (unsigned_size p.tsig))

-- with a TSIG that has a MAC under the key
abbrev pub with_signed : RefusalParts → KeyParts → TsigError → Msg → Msg
with_signed p k e m = with_record_within p.size m (tsig_record (signed_refusal k e p.now p.fudge p.tsig (wire m)))

abbrev pub signed_reply : RefusalParts → KeyParts → TsigError → Msg
signed_reply p k e = with_signed p k e (not_auth p (size_with k (other_octets e (six p.now))))

-- with a TSIG that has a MAC under the key, however long it is
abbrev pub and_signed : RefusalParts → KeyParts → TsigError → Msg → Msg
and_signed p k e m = and_record m (tsig_record (signed_refusal k e p.now p.fudge p.tsig (wire m)))

abbrev pub with_tsig_signed : RefusalParts → KeyParts → TsigError → Msg
with_tsig_signed p k e = and_signed p k e (not_auth p (size_with k (other_octets e (six p.now))))

-- the key isn't known
abbrev pub unknown_reply : RefusalParts → Msg
unknown_reply p = unsigned_reply p BadKey

-- by the error: a wrong MAC is answered unsigned. A wrong time and a MAC that is too short are answered signed, and a MAC of no
-- lawful size is answered FORMERR
abbrev pub refusal_reply : RefusalParts → KeyParts → TsigError → Msg
refusal_reply p k FormErr = error_within p.size p.octets 1
refusal_reply p k BadKey = unsigned_reply p BadKey
refusal_reply p k BadSig = unsigned_reply p BadSig
refusal_reply p k BadTime = signed_reply p k BadTime
refusal_reply p k BadTrunc = signed_reply p k BadTrunc

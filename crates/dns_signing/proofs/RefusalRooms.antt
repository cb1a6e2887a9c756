-- How many octets a reply has that refuses a request.
use Rattle.std.proofs.Common.{inl, inr, ◌≡◌, ℕ, ◌-◌, ◌≤◌, length, sym, subst, arith}
use Rattle.std.proofs.lemmas.Bool.{cases_lt}
use Rattle.dns_name.specs.Labels.{IsName}
use Rattle.dns_base.specs.Msg.{Msg, ResourceRecord}
use Rattle.dns_base.specs.Wire.{wire}
use Rattle.dns_hmac.proofs.Sizes.{length-hmac}
use Rattle.dns_service.specs.declared.message.TransportSpecificContext.{TransportSpecificContext}
use Rattle.dns_service.specs.declared.message.TransportSpecificContext.TheVariants.{NonUdp, Udp}
use Rattle.dns_service.specs.Asked.{asked_of, client_size}
use Rattle.dns_service.specs.Req.{Req, hint_at_entry}
use Rattle.dns_service.specs.Transport.{limit, limit_over}
use Rattle.dns_tsig.specs.declared.error.TsigError.{TsigError}
use Rattle.dns_tsig.specs.declared.error.TsigError.TheVariants.{FormErr, BadKey, BadSig, BadTime, BadTrunc}
use Rattle.dns_tsig.specs.Keys.{KeyParts}
use Rattle.dns_tsig.specs.Refusals.{other_octets, refusal_stamp, signed_refusal, unsigned_refusal}
use Rattle.dns_tsig.specs.Tsig.{six, tsig_record}
use Rattle.dns_signing.specs.ErrorResponse.{error_response}
use Rattle.dns_signing.specs.Refused.{RefusalParts, and_record, not_auth, refusal_reply, signed_reply, unsigned_reply, with_record_within, with_tsig_signed}
use Rattle.dns_signing.specs.Room.{least_of, own_size, size_with, unsigned_size}
use Rattle.dns_signing.proofs.Cutting.{chosen, cut_within, other}
use Rattle.dns_signing.proofs.Rooms.{algorithm_most, grown, limit_least}

-- a record that is added within a size leaves the message within it
added_within : (size : ℕ) (m : Msg) (r : ResourceRecord) → length (wire m) ≤ size → length (wire (with_record_within size m r)) ≤ size
added_within size m r h =
    let n = and_record m r in
    elim (cases_lt size (length (wire n))) [
      | inl y ↦ subst (λ (x : Msg). length (wire x) ≤ size) (sym (other _ _ n m y)) h
      | inr y ↦ subst (λ (x : Msg). length (wire x) ≤ size) (sym (chosen _ _ n m y)) y
    ]

not_auth_within : (p : RefusalParts) (n : ℕ) → 23 ≤ p.size → length (wire (not_auth p n)) ≤ p.size
not_auth_within p n h = cut_within (p.size - n) p.size (error_response p.octets 9) (omega arith) h

unsigned_within : (p : RefusalParts) (e : TsigError) → 23 ≤ p.size → length (wire (unsigned_reply p e)) ≤ p.size
unsigned_within p e h = let m = not_auth p (unsigned_size p.tsig) in added_within p.size m (tsig_record (unsigned_refusal e p.now p.fudge p.tsig (wire m))) (not_auth_within p (unsigned_size p.tsig) h)

signed_within : (p : RefusalParts) (k : KeyParts) (e : TsigError) → 23 ≤ p.size → length (wire (signed_reply p k e)) ≤ p.size
signed_within p k e h =
    let n = size_with k (other_octets e (six p.now)) in
    let m = not_auth p n in
    added_within p.size m (tsig_record (signed_refusal k e p.now p.fudge p.tsig (wire m))) (not_auth_within p n h)

pub refusal_within : (p : RefusalParts) (k : KeyParts) (e : TsigError) → 23 ≤ p.size → length (wire (refusal_reply p k e)) ≤ p.size
refusal_within p k FormErr h = cut_within p.size p.size (error_response p.octets 1) (omega arith) h
refusal_within p k BadKey h = unsigned_within p BadKey h
refusal_within p k BadSig h = unsigned_within p BadSig h
refusal_within p k BadTime h = signed_within p k BadTime h
refusal_within p k BadTrunc h = signed_within p k BadTrunc h

-- the server's time takes six octets
other_most : (e : TsigError) (now : ℕ) → length (other_octets e (six now)) ≤ 6
other_most FormErr now = omega arith
other_most BadKey now = omega arith
other_most BadSig now = omega arith
other_most BadTime now = omega arith
other_most BadTrunc now = omega arith

pub refusal_signed : (p : RefusalParts) (k : KeyParts) (e : TsigError) → IsName k.name → 512 ≤ p.size → signed_reply p k e ≡ with_tsig_signed p k e
refusal_signed p k e name h =
    let n = size_with k (other_octets e (six p.now)) in
    let m = not_auth p n in
    let t = signed_refusal k e p.now p.fudge p.tsig (wire m) in
    let g = grown k (refusal_stamp e p.now p.fudge p.tsig) (wire m) (other_octets e (six p.now)) t.mac m (length-hmac k.algorithm k.secret _) in
    let room : 23 ≤ p.size - n = omega (arith, name.room, algorithm_most k.algorithm, other_most e p.now) in
    let cut = cut_within (p.size - n) (p.size - n) (error_response p.octets 9) (omega arith) room in
    chosen (length (wire (and_record m (tsig_record t)))) p.size (and_record m (tsig_record t)) m (omega (arith, g, cut, name.room, algorithm_most k.algorithm, other_most e p.now))

least_by : (t : TransportSpecificContext) (n l : ℕ) → 512 ≤ n → 512 ≤ l → 512 ≤ least_of (limit_over t n) l
least_by (Udp hint) n l h g = omega arith
least_by (NonUdp timeout) n l h g = omega arith

pub size_least : (r : Req (Unit {0})) → 512 ≤ own_size r
size_least r = least_by r.transport (limit (hint_at_entry r)) (limit (client_size (asked_of r.octets).opt)) (limit_least (hint_at_entry r)) (limit_least (client_size (asked_of r.octets).opt))

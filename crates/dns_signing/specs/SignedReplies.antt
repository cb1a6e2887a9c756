-- The replies to a signed request, each signed after the one before (RFC 8945, sections 5.3 and 5.3.1).
use Rattle.std.specs.Prelude.{ℕ, zero, suc, Bool, true, List, [], ◌∷◌, ◌++◌, length, nat_le, if◌then◌else◌, Option, Some, None, option_map, Ok, Err}
use Rattle.dns_hmac.specs.declared.mac.Mac.{Mac}
use Rattle.dns_hmac.specs.Macs.{octets_of}
use Rattle.dns_base.specs.Msg.{Msg}
use Rattle.dns_base.specs.Wire.{wire}
use Rattle.dns_service.specs.Answer.{Answer, Item, mapped}
use Rattle.dns_service.specs.Cut.{cut}
use Rattle.dns_service.specs.Errors.{rcode_of}
use Rattle.dns_service.specs.declared.service.Polled.TheVariants.{Pending, Ready}
use Rattle.dns_service.specs.declared.service.ServiceError.{ServiceError}
use Rattle.dns_service.specs.declared.service.ServiceFeedback.TheVariants.{EndTransaction}
use Rattle.dns_tsig.specs.declared.signing.TsigFields.{TsigFields}
use Rattle.dns_tsig.specs.Keys.{KeyParts}
use Rattle.dns_tsig.specs.Tsig.{tsig_record}
use Rattle.dns_tsig.specs.Signed.{tsig_by}
use Rattle.dns_tsig.specs.Sending.{code_behind}
use Rattle.dns_tsig.specs.Streams.{chain_at}
use Rattle.dns_signing.specs.ErrorResponse.{error_response}

-- what signs: a key, a stamp, how many octets a reply may have before its TSIG, and the MAC before. Then whether a reply was signed
-- already, the octets of the request, and whether its service has failed
pub record SignerParts : Type 0 where
  pub key : KeyParts
  pub stamp : TsigFields
  pub room : ℕ
  pub prior : List ℕ
  pub begun : Bool
  pub request : List ℕ
  pub ended : Bool

-- the MAC before: that of the request, or of the last reply
abbrev pub prior_of : List ℕ → Option Mac → List ℕ
prior_of request None = request
prior_of request (Some mac) = octets_of mac

-- the code of a reply
abbrev pub code_of : SignerParts → Msg → List ℕ
code_of p m = code_behind p.key (chain_at p.prior p.begun) p.stamp (wire m)

-- a reply with the TSIG of a code, after all its other records
abbrev pub signed_message : SignerParts → List ℕ → Msg → Msg
signed_message p mac m = record m { additional = m.additional ++ tsig_record (tsig_by p.key p.stamp (wire m) [] mac) ∷ [] }

-- a reply that would have more octets than a message may is left as it is
abbrev pub with_code : SignerParts → List ℕ → Msg → Msg
with_code p mac m = if nat_le (length (wire (signed_message p mac m))) 65535 then signed_message p mac m else m

abbrev pub signed_whole : SignerParts → Msg → Msg
signed_whole p m = with_code p (code_of p m) m

-- one that leaves no room for the TSIG is truncated before it is signed (5.3)
abbrev pub signed : SignerParts → Msg → Msg
signed p m = signed_whole p (cut p.room m)

-- an error of the service is answered by the error reply, signed too; it ends the transaction
abbrev pub error_of : SignerParts → ServiceError → Msg
error_of p error = error_response p.request (rcode_of error)

abbrev pub signed_item : SignerParts → Item → Item
signed_item p (Ok given) = Ok (record given { response = option_map (signed p) given.response })
signed_item p (Err error) = Ok (record { response = Some (signed p (error_of p error)); feedback = Some EndTransaction })

-- after an error there is no item
abbrev pub signed_answer : SignerParts → Answer → Answer
signed_answer p a = if p.ended then Ready None else mapped (signed_item p) a

-- what signs after a reply
abbrev pub behind_reply : SignerParts → Option Msg → SignerParts
behind_reply p None = p
behind_reply p (Some m) = record p { prior = code_of p (cut p.room m); begun = true }

abbrev pub behind_item : SignerParts → Item → SignerParts
behind_item p (Ok given) = behind_reply p given.response
behind_item p (Err error) = record (behind_reply p (Some (error_of p error))) { ended = true }

abbrev pub behind_polled : SignerParts → Answer → SignerParts
behind_polled p Pending = p
behind_polled p (Ready None) = p
behind_polled p (Ready (Some item)) = behind_item p item

abbrev pub behind_answer : SignerParts → Answer → SignerParts
behind_answer p a = if p.ended then p else behind_polled p a

-- the answer to poll k
abbrev pub signed_answers : (ℕ → Answer) → SignerParts → ℕ → Answer
signed_answers answers p zero = signed_answer p (answers 0)
signed_answers answers p (suc k) = signed_answers (λ n. answers (suc n)) (behind_answer p (answers 0)) k

-- replies that a service gives at once, one at each poll, and then the end
abbrev pub given : List Msg → ℕ → Answer
given [] k = Ready None
given (m ∷ more) zero = Ready (Some (Ok (record { response = Some m; feedback = None })))
given (m ∷ more) (suc k) = given more k

-- replies as they are sent, each signed after the one before
abbrev pub signed_replies : SignerParts → List Msg → List Msg
signed_replies p [] = []
signed_replies p (m ∷ more) = signed p m ∷ signed_replies (behind_reply p (Some m)) more

-- a reply as it is signed, with its stamp
abbrev pub stamped : SignerParts → Msg → Option TsigFields × Msg
stamped p m = (Some p.stamp, cut p.room m)

-- What the service replies to the layer that signs: NXDOMAIN to a request under a key, REFUSED to one without, or an error.
use Rattle.std.specs.Prelude.{ℕ, Bool, List, Option, Some, None, Ok, Err, if◌then◌else◌}
use Rattle.dns_service.specs.Answer.{Item}
use Rattle.dns_service.specs.ErrorReply.{error_reply}
use Rattle.dns_service.specs.Req.{Req}
use Rattle.dns_service.specs.declared.service.ServiceError.TheVariants.{InternalError}

abbrev pub code_for : {K : Type 0} → Option K → ℕ
code_for (Some key) = 3
code_for None = 5

abbrev pub reply_by_key : {K : Type 0} → Bool → Req (Option K) → Item
reply_by_key fails r = if fails then Err InternalError
    else Ok (record { response = Some (error_reply r.octets (code_for r.metadata)); feedback = None })

-- a response code to each request
abbrev pub plain_reply : ℕ → List ℕ → Item
plain_reply code o = Ok (record { response = Some (error_reply o code); feedback = None })

-- The error replies of the layer.
use Rattle.std.specs.Prelude.{ℕ, List, if◌then◌else◌}
use Rattle.dns_base.specs.Msg.{Msg}
use Rattle.dns_service.specs.Asked.{asked_of, has_item}
use Rattle.dns_service.specs.Cut.{cut}
use Rattle.dns_service.specs.ErrorReply.{error_begun, error_reply}

-- with an OPT record if the request has one, and else without (RFC 6891, section 6.1.1)
abbrev pub error_response : List ℕ → ℕ → Msg
error_response o code = if has_item (asked_of o).opt then error_reply o code else (error_begun o code).message

-- an error response of that many octets at most
abbrev pub error_within : ℕ → List ℕ → ℕ → Msg
error_within size o code = cut size (error_response o code)

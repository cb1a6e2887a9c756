-- Replies that a router and the adapters give of their own: error replies (RFC 1035, section 4.1.1), with an extended error
-- that says why (RFC 8914, section 4.1).
use Rattle.std.specs.Prelude.{ℕ, List, Some, codes}
use Rattle.dns_base.specs.Msg.{Msg}
use Rattle.dns_base.specs.Wire.{wire}
use Rattle.dns_opt.specs.Extended.{extended, extended_octets}
use Rattle.dns_opt.specs.Reopened.{opt_among}
use Rattle.dns_service.specs.Codes.{extended_error_option, servfail}
use Rattle.dns_service.specs.ErrorReply.{error_reply}
use Rattle.dns_route.specs.ReplyMessage.{ReplyState, with_reply_option}
use Rattle.dns_route.specs.declared.send_request.SendError.{SendError}
use Rattle.dns_route.specs.declared.send_request.SendError.TheVariants.{Closed, Timeout, Unreachable}

-- the reply that is a message of our own: its octets, and what it has of OPT records
abbrev pub kept_whole : Msg → ReplyState
kept_whole m = record { octets = wire m; opt = opt_among m.additional }

-- the error reply to a query
abbrev pub error_state : List ℕ → ℕ → ReplyState
error_state query code = kept_whole (error_reply query code)

-- SERVFAIL with an extended error of code 0, which is another reason than those that have codes, and a text
abbrev pub explained : List ℕ → List ℕ → ReplyState
explained query text = with_reply_option extended_error_option (extended_octets (extended 0 (Some text))) (error_state query servfail)

-- why a router has no service for a name
abbrev pub no_upstream : List ℕ
no_upstream = codes "No upstream for request"

-- why a transport has no answer
abbrev pub send_error_text : SendError → List ℕ
send_error_text Closed = codes "connection closed"
send_error_text Timeout = codes "request timed out"
send_error_text Unreachable = codes "no route"

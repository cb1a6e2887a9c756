-- The EDNS layer (RFC 6891, sections 6.1, 6.2 and 7; RFC 7828, section 3, for keepalives).
use Rattle.std.specs.Prelude.{ℕ, ◌+◌, ◌/◌, min, max, Bool, true, false, ◌&&◌, List, [], ◌∷◌, ◌++◌, length, Option, Some, None, is_some, nat_eq, nat_lt, nat_le, if◌then◌else◌}
use Rattle.dns_name.specs.Place.{two}
use Rattle.dns_base.specs.Msg.{Msg, ResourceRecord}
use Rattle.dns_base.specs.Replaced.{other_than}
use Rattle.dns_base.specs.Wire.{wire}
use Rattle.dns_opt.specs.OptRecords.{opt_record, opt_state, zero_head}
use Rattle.dns_service.specs.declared.asked.Asked.{Asked}
use Rattle.dns_service.specs.declared.asked.AskedOpt.{AskedOpt}
use Rattle.dns_service.specs.declared.asked.AskedOpt.TheVariants.{NoItem, One, Faulty}
use Rattle.dns_service.specs.declared.asked.AskedRecord.{AskedRecord}
use Rattle.dns_service.specs.declared.message.TransportSpecificContext.{TransportSpecificContext}
use Rattle.dns_service.specs.declared.message.TransportSpecificContext.TheVariants.{Udp, NonUdp}
use Rattle.dns_service.specs.Answer.{Answer, mapped}
use Rattle.dns_service.specs.Asked.{asked_of, client_size, has_item}
use Rattle.dns_service.specs.Codes.{badvers, formerr, keepalive_option}
use Rattle.dns_service.specs.ErrorReply.{error_reply}
use Rattle.dns_service.specs.Req.{Req, hint_at_entry}
use Rattle.dns_service.specs.Transport.{hint_of, hinted, is_stream}
use Rattle.dns_service.specs.WithOption.{with_option}
use Rattle.dns_layers.specs.declared.edns_post.EdnsPost.{EdnsPost}
use Rattle.dns_layers.specs.Rewritten.{hint_by, own_reply, rewritten}

-- BADVERS for another version than 0, and FORMERR for a keepalive with a timeout over a stream
abbrev pub record_refusal : Bool → AskedRecord → Option ℕ
record_refusal stream h = if nat_lt 0 h.version then Some badvers else (if stream && h.sends_timeout then Some formerr else None)

-- FORMERR for two or more items, or if the first is no record
abbrev pub opt_refusal : Bool → AskedOpt → Option ℕ
opt_refusal stream NoItem = None
opt_refusal stream (One h) = record_refusal stream h
opt_refusal stream (Faulty first) = Some formerr

-- the response code with which a request is refused
abbrev pub edns_refusal : {Meta : Type 0} → Req Meta → Option ℕ
edns_refusal r = opt_refusal (is_stream r.transport) (asked_of r.octets).opt

-- the largest response over UDP, by the server's hint and the client's size
abbrev pub negotiated : Option ℕ → ℕ → ℕ
negotiated None size = max 512 size
negotiated (Some hint) size = min (max 512 size) (max 512 hint)

-- how many octets an OPT record takes that is added to a response, and with a keepalive
abbrev pub reserved_over : TransportSpecificContext → ℕ
reserved_over (Udp hint) = 11
reserved_over (NonUdp timeout) = 17

-- what is passed on by the client's size, none if the request has no OPT record
abbrev pub transport_by : Option ℕ → TransportSpecificContext → TransportSpecificContext
transport_by None t = t
transport_by (Some size) t = hinted (Some (negotiated (hint_of t) size)) t

abbrev pub reserved_by : Option ℕ → TransportSpecificContext → ℕ → ℕ
reserved_by None t before = before
reserved_by (Some size) t before = min (before + reserved_over t) 65535

abbrev pub passed_by : {Meta : Type 0} → Option ℕ → Req Meta → Req Meta
passed_by size r = record r { transport = transport_by size r.transport; reserved = reserved_by size r.transport r.reserved }

-- the request as it is passed on
abbrev pub edns_passed : {Meta : Type 0} → Req Meta → Req Meta
edns_passed r = passed_by (client_size (asked_of r.octets).opt) r

-- whether there is a record of type OPT
abbrev pub has_opt : List ResourceRecord → Bool
has_opt [] = false
has_opt (r ∷ rs) = if nat_eq r.rtype 41 then true else has_opt rs

-- the message without its OPT records, in reply to a request without one
abbrev pub in_kind : Bool → Msg → Msg
in_kind true m = m
in_kind false m = record m { additional = other_than 41 m.additional }

-- a time in ms as the units of a keepalive, if sixteen bits hold them
abbrev pub units_of : Option ℕ → Option ℕ
units_of None = None
units_of (Some millis) = if nat_lt millis 6553600 then Some (millis / 100) else None

-- the keepalive that a reply gets: over a stream, if the request has an OPT item
abbrev pub keepalive_over : TransportSpecificContext → AskedOpt → Option ℕ
keepalive_over (Udp hint) opt = None
keepalive_over (NonUdp timeout) opt = if has_item opt then units_of timeout else None

abbrev pub with_keepalive : Option ℕ → Msg → Msg
with_keepalive None m = m
with_keepalive (Some units) m = with_option m keepalive_option (two units)

-- the message with an empty OPT record
abbrev pub and_empty : Msg → Msg
and_empty m = record m { additional = m.additional ++ opt_record (opt_state zero_head []) ∷ [] }

abbrev pub and_fitting : Msg → Msg
and_fitting m = if nat_le (length (wire (and_empty m))) 65535 then and_empty m else m

-- the message with an OPT record if it has none and an empty one fits, in reply to a request with one
abbrev pub with_some_opt : Bool → Msg → Msg
with_some_opt true m = if has_opt m.additional then m else and_fitting m
with_some_opt false m = m

-- what the rule of a request makes of a reply
abbrev pub edns_by : EdnsPost → Msg → Msg
edns_by p m = with_some_opt p.request_has_opt (with_keepalive p.keepalive (in_kind p.request_has_opt m))

-- the rule for the replies to what is asked
abbrev pub edns_rule : TransportSpecificContext → Asked → EdnsPost
edns_rule t a = record { request_has_opt = is_some (client_size a.opt); keepalive = keepalive_over t a.opt }

-- a reply to a request, rewritten
abbrev pub edns_post : {Meta : Type 0} → Req Meta → Msg → Msg
edns_post r m = edns_by (edns_rule r.transport (asked_of r.octets)) m

-- the answers of an enabled layer, which answers by itself if it has a code
abbrev pub edns_by_code : {Meta : Type 0} → (Req Meta → ℕ → Answer) → Req Meta → ℕ → Option ℕ → Answer
edns_by_code answer r k (Some code) = own_reply (edns_post r (error_reply r.octets code)) k
edns_by_code answer r k None = mapped (rewritten (edns_post r)) (answer (edns_passed r) k)

-- what the layer answers, enabled or not, by what the service inside answers
abbrev pub edns : {Meta : Type 0} → Bool → (Req Meta → ℕ → Answer) → Req Meta → ℕ → Answer
edns on answer r k = if on then edns_by_code answer r k (edns_refusal r) else answer r k

-- the hint that a request has after the call: the service inside can't change it
abbrev pub edns_hint : {Meta : Type 0} → Bool → Req Meta → Option ℕ
edns_hint on r = if on then hint_by (λ q. hint_at_entry (edns_passed q)) r (edns_refusal r) else hint_at_entry r

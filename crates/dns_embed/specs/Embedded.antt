-- What is decided about a message, whatever service is asked, and what becomes of a reply.
use Rattle.std.specs.Prelude.{ℕ, ◌≡◌, ◌<◌, ◌≤◌, ◌⊎◌, List, length, nat_lt, Bool, true, false, if◌then◌else◌, Option, Some, None, Result, Ok, Err}
use Rattle.dns_name.specs.declared.address.SocketAddr.{SocketAddr}
use Rattle.dns_name.specs.declared.error.ParseError.{ParseError}
use Rattle.dns_base.specs.Built.{Built}
use Rattle.dns_base.specs.Header.{header_of}
use Rattle.dns_base.specs.Msg.{Msg}
use Rattle.dns_base.specs.Wire.{wire}
use Rattle.dns_replies.specs.Cut.{cut, sized}
use Rattle.dns_replies.specs.ErrorReply.{error_reply}
use Rattle.dns_events.specs.declared.settings.Settings.{Settings}
use Rattle.dns_service.specs.declared.asked.Asked.{Asked}
use Rattle.dns_service.specs.declared.message.TransportSpecificContext.{TransportSpecificContext}
use Rattle.dns_service.specs.declared.reply_error.ReplyError.{ReplyError}
use Rattle.dns_service.specs.declared.reply_error.ReplyError.TheVariants.{Service, OutOfMemory as NoMemory}
use Rattle.dns_service.specs.declared.service.Polled.TheVariants.{Pending, Ready}
use Rattle.dns_service.specs.declared.service.ServiceError.{ServiceError}
use Rattle.dns_service.specs.declared.service.ServiceError.TheVariants.{FormatError, InternalError, NotImplemented, Refused}
use Rattle.dns_service.specs.Answer.{Answer, mapped}
use Rattle.dns_service.specs.Asked.{asked_of}
use Rattle.dns_service.specs.Errors.{rcode_of}
use Rattle.dns_service.specs.Req.{Req}
use Rattle.dns_service.specs.Transport.{hint_of, limit}
use Rattle.dns_route.specs.ReplyMessage.{IsRefused, ReplyState, reply_message, reply_read}
use Rattle.dns_layers.specs.declared.notice.Notice.{Notice}
use Rattle.dns_layers.specs.declared.notifiable.NotifyError.{NotifyError}
use Rattle.dns_layers.specs.Edns.{edns_by, edns_rule}
use Rattle.dns_layers.specs.Mandatory.{mand_by, mand_rule}
use Rattle.dns_layers.specs.Notify.{PolledVerdict}
use Rattle.dns_layers.specs.Rewritten.{own_reply, rewritten}
use Rattle.dns_middleware.specs.Wrapped.{passed, replies, request_limit}
use Rattle.dns_decide.specs.declared.decision.Decision.{Decision}
use Rattle.dns_decide.specs.Decided.{decided, is_passed}
use Rattle.dns_session.specs.Datagrams.{asks_nothing}
use Rattle.dns_session.specs.Requests.{header_size, request_of_datagram}
use Rattle.dns_embed.specs.declared.action.Action.{Action}
use Rattle.dns_embed.specs.declared.action.Action.TheVariants.{Nothing, Reply, Ask}
use Rattle.dns_embed.specs.declared.action.Arrival.{Arrival}
use Rattle.dns_embed.specs.declared.rule.ReplyRule.{ReplyRule}
use Rattle.dns_embed.specs.declared.verdict.KnownVerdict.{KnownVerdict}

-- ---- the rule for replies

-- what the rule of a request makes of a reply
abbrev pub rewrite_by : ReplyRule → Msg → Msg
rewrite_by p m = mand_by p.mandatory (if p.speaks_edns then edns_by p.edns m else m)

-- the rule for the replies to what is asked, of at most n octets over UDP
abbrev pub rule_with : Bool → TransportSpecificContext → ℕ → Asked → ReplyRule
rule_with on t n a = record { speaks_edns = on; edns = edns_rule t a; mandatory = mand_rule t n a }

-- by the hint that is left
abbrev pub rule_left : Bool → TransportSpecificContext → Asked → ReplyRule
rule_left on t a = rule_with on t (limit (hint_of t)) a

-- the rule for the replies to a request
abbrev pub rule_of : Settings → Req (Unit {0}) → ReplyRule
rule_of s r = rule_with s.edns r.transport (request_limit s r) (asked_of r.octets)

-- ---- a message that came

-- the request that octets make
abbrev pub request_of : Arrival → List ℕ → Req (Unit {0})
request_of c o = record {
  octets = o;
  client_addr = c.addr;
  received_at = c.at;
  received_secs = c.secs;
  transport = c.transport;
  reserved = 0;
  metadata = tt;
}

-- a verdict that is given at once, whatever is asked
abbrev pub always : Result (Unit {0}) NotifyError → Notice → ℕ → PolledVerdict
always v notice k = Ready v

-- what the layers answer around a service, by a verdict on each change of a zone
abbrev pub answers : Settings → Result (Unit {0}) NotifyError → (Req (Unit {0}) → ℕ → Answer) → Req (Unit {0}) → ℕ → Answer
answers s v svc r k = replies s svc (always v) r k

-- whatever the service, the layers answer with this reply
abbrev pub IsOwn : Settings → Result (Unit {0}) NotifyError → Req (Unit {0}) → Built → Type 0
IsOwn s v r b = (svc : Req (Unit {0}) → ℕ → Answer) (k : ℕ) → answers s v svc r k ≡ own_reply b.message k

-- whatever the service, the layers answer with what it gives to the request as they pass it on, rewritten
abbrev pub IsAsked : Settings → Result (Unit {0}) NotifyError → Req (Unit {0}) → ReplyRule → Type 0
IsAsked s v r rule = (svc : Req (Unit {0}) → ℕ → Answer) (k : ℕ)
    → answers s v svc r k ≡ mapped (rewritten (rewrite_by rule)) (svc (passed s r) k)

-- nothing is done exactly about what asks nothing, which are fewer octets than a header has, and a response
abbrev pub IsDecided : Settings → Result (Unit {0}) NotifyError → Req (Unit {0}) → Action → Type 0
IsDecided s v r Nothing = asks_nothing r.octets ≡ true
IsDecided s v r (Reply b) = (asks_nothing r.octets ≡ false) × IsOwn s v r b
IsDecided s v r (Ask rule) = (asks_nothing r.octets ≡ false) × (rule ≡ rule_of s r) × IsAsked s v r rule

-- ---- a datagram that came, as it was cut

-- a response is answered with FORMERR, which is cut to the size that the configuration allows
abbrev pub ByResponse : Bool → Settings → Result (Unit {0}) NotifyError → Req (Unit {0}) → Built → Type 0
ByResponse true s v r b = b.message ≡ cut (limit s.dgram.max_response_size) (error_reply r.octets 1)
ByResponse false s v r b = IsOwn s v r b

abbrev pub IsExchangedBy : Settings → Result (Unit {0}) NotifyError → Req (Unit {0}) → Action → Type 0
IsExchangedBy s v r Nothing = length r.octets < header_size
IsExchangedBy s v r (Reply b) = (nat_lt (length r.octets) header_size ≡ false) × ByResponse (header_of r.octets).qr s v r b
IsExchangedBy s v r (Ask rule) = (asks_nothing r.octets ≡ false) × (rule ≡ rule_of s r) × IsAsked s v r rule

-- nothing is done exactly about fewer octets than a header has
abbrev pub IsExchanged : Settings → Result (Unit {0}) NotifyError → SocketAddr → ℕ → ℕ → List ℕ → Action → Type 0
IsExchanged s v addr at secs o action = IsExchangedBy s v (request_of_datagram s.dgram addr at secs o) action

-- ---- what the layers decided

abbrev pub at_once : KnownVerdict → ℕ → PolledVerdict
at_once g k = Ready g.verdict

-- what is done as the layers decided about a request that they left so, over whatever service
abbrev pub IsTakenAs : Bool → Req (Unit {0}) → Decision KnownVerdict → Action → Type 0
IsTakenAs on r d Nothing = (given : ℕ → Answer) (k : ℕ) → decided at_once given d k ≡ Ready None
IsTakenAs on r d (Reply b) = (given : ℕ → Answer) (k : ℕ) → decided at_once given d k ≡ own_reply b.message k
IsTakenAs on r d (Ask rule) = (is_passed d ≡ true) × (rule ≡ rule_left on r.transport (asked_of r.octets))

-- the reply in an answer
abbrev pub first_reply : Answer → Option Msg
first_reply (Ready (Some (Ok given))) = given.response
first_reply (Ready (Some (Err e))) = None
first_reply (Ready None) = None
first_reply Pending = None

-- the reply that is sent, if one is, if no service is asked
abbrev pub replied : Action → Option (Option Msg)
replied Nothing = Some None
replied (Reply b) = Some (Some b.message)
replied (Ask rule) = None

-- ---- a reply of the service's

-- the message that a reply's octets are, names uncompressed, of its OPT record what is kept; or why it can't be read
abbrev pub composed_by : Result ReplyState ParseError → Result Msg ParseError
composed_by (Ok state) = reply_message state
composed_by (Err e) = Err e

abbrev pub composed_of : List ℕ → Result Msg ParseError
composed_of o = composed_by (reply_read o)

-- a reply is rewritten; FormatError exactly if it has no header or can't be read, else InternalError exactly above 65,535 octets
abbrev pub Rewrites : ReplyRule → List ℕ → Result Built ReplyError → Type 0
Rewrites rule o (Ok b) = (m : Msg) × (composed_of o ≡ Ok m) × (length (wire m) ≤ 65535) × (b.message ≡ rewrite_by rule m)
Rewrites rule o (Err (Service FormatError)) = (length o < 12) ⊎ IsRefused (composed_of o)
Rewrites rule o (Err (Service InternalError)) = (m : Msg) × (composed_of o ≡ Ok m) × (65535 < length (wire m))
Rewrites rule o (Err (Service NotImplemented)) = ⊥
Rewrites rule o (Err (Service Refused)) = ⊥
Rewrites rule o (Err NoMemory) = Unit {0}

-- the error reply to a message, of no more octets than the rule allows; none exactly to fewer octets than a header has
abbrev pub Refuses : ReplyRule → List ℕ → ServiceError → Option Built → Type 0
Refuses rule o error None = length o < 12
Refuses rule o error (Some b) = b.message ≡ sized rule.mandatory.limit (error_reply o (rcode_of error))

-- What each call of the layers leaves of its buffer, its length and its rule, by its status.
use Rattle.std.specs.Prelude.{ℕ, ◌≡◌, ◌<◌, ◌≤◌, ◌⊎◌, ◌++◌, List, length, drop, Option, Some, None, Result, Ok}
use Rattle.dns_name.specs.declared.address.SocketAddr.{SocketAddr}
use Rattle.dns_base.specs.Built.{Built}
use Rattle.dns_base.specs.Msg.{Msg}
use Rattle.dns_base.specs.Wire.{wire}
use Rattle.dns_events.specs.declared.settings.Settings.{Settings}
use Rattle.dns_service.specs.declared.service.ServiceError.{ServiceError}
use Rattle.dns_service.specs.Req.{Req}
use Rattle.dns_route.specs.ReplyMessage.{IsRefused}
use Rattle.dns_layers.specs.declared.notifiable.NotifyError.{NotifyError}
use Rattle.dns_session.specs.Datagrams.{cut_datagram}
use Rattle.dns_embed.specs.declared.action.Action.{Action}
use Rattle.dns_embed.specs.declared.action.Action.TheVariants.{Nothing as DoNothing, Reply as SendReply, Ask as AskService}
use Rattle.dns_embed.specs.declared.action.Arrival.{Arrival}
use Rattle.dns_embed.specs.declared.rule.ReplyRule.{ReplyRule}
use Rattle.dns_embed.specs.declared.verdict.KnownVerdict.{KnownVerdict}
use Rattle.dns_embed.specs.Embedded.{IsDecided, IsExchanged, Refuses as IsErrorReply, composed_of, request_of, rewrite_by}
use Rattle.nutscythe_c.specs.declared.handle_value.HandleValue.{HandleValue}
use Rattle.nutscythe_c.specs.declared.handle_value.HandleValue.TheVariants.{Settings as KeptSettings}
use Rattle.nutscythe_c.specs.declared.origin.Origin.{Origin}
use Rattle.nutscythe_c.specs.declared.rule.Rule.{Rule}
use Rattle.nutscythe_c.specs.declared.status.Status.{Status}
use Rattle.nutscythe_c.specs.declared.status.Status.TheVariants.{Done, Reply, Nothing, Ask, Response, Dropped, Close, Held, NoMemory, NoHandle, OutOfRange, NoRoom, Unreadable, TooLong, NullPointer, BadLine}
use Rattle.nutscythe_c.specs.Objects.{OfFirst}
use Rattle.nutscythe_c.specs.Rules.{rule_in}

-- the number that a caller is given
abbrev pub number : Status → ℕ
number Done = 0
number Reply = 1
number Nothing = 2
number Ask = 3
number Response = 4
number Dropped = 5
number Close = 6
number Held = 7
number NoMemory = 16
number NoHandle = 17
number OutOfRange = 18
number NoRoom = 19
number Unreadable = 20
number TooLong = 21
number NullPointer = 22
number BadLine = 23

-- a reply stands at the front of the buffer, or is longer than that, and its length is written in both cases
abbrev pub PutsReply : Msg → List ℕ → List ℕ → ℕ → Status → Type 0
PutsReply m before after len Reply = (len ≡ length (wire m)) × (len ≤ length before) × (after ≡ wire m ++ drop len before)
PutsReply m before after len NoRoom = (len ≡ length (wire m)) × (length before < len) × (after ≡ before)
PutsReply m before after len t = ⊥

-- buffer and length stay as they were
abbrev pub Unwritten : List ℕ → List ℕ → ℕ → ℕ → Type 0
Unwritten before after len len' = (after ≡ before) × (len' ≡ len)

-- what a caller's buffer, length and rule hold
pub record Output : Type 0 where
  pub reply : List ℕ
  pub len : ℕ
  pub rule : Rule

abbrev pub output : List ℕ → ℕ → Rule → Output
output reply len rule = record { reply = reply; len = len; rule = rule }

-- nothing of them is written
abbrev pub SameOutput : Output → Output → Type 0
SameOutput w x = (x.reply ≡ w.reply) × (x.len ≡ w.len) × (x.rule ≡ w.rule)

-- what is to be done is done: nothing, a reply is written, or the rule for the service's reply is
abbrev pub Acts : Action → Output → Output → Status → Type 0
Acts DoNothing w x t = (t ≡ Nothing) × SameOutput w x
Acts (SendReply b) w x t = PutsReply b.message w.reply x.reply x.len t × (x.rule ≡ w.rule)
Acts (AskService asked) w x t = (t ≡ Ask) × (rule_in x.rule ≡ asked) × (x.rule.spare ≡ 0) × (x.reply ≡ w.reply) × (x.len ≡ w.len)

-- a call gave this status, and nothing is written
abbrev pub Stays : Status → Output → Output → Status → Type 0
Stays wanted w x t = (t ≡ wanted) × SameOutput w x

-- what is decided about a request is done, unless there was no memory
abbrev pub Decides : Settings → Result (Unit {0}) NotifyError → Req (Unit {0}) → Output → Output → Status → Type 0
Decides s v r w x t = Stays NoMemory w x t ⊎ ((action : Action) × IsDecided s v r action × Acts action w x t)

-- by numbers that may be out of range
abbrev pub DecidesIn : Settings → Option Arrival → Option KnownVerdict → List ℕ → Output → Output → Status → Type 0
DecidesIn s (Some arrival) (Some known) o w x t = Decides s known.verdict (request_of arrival o) w x t
DecidesIn s (Some arrival) None o w x t = Stays OutOfRange w x t
DecidesIn s None known o w x t = Stays OutOfRange w x t

-- by what a handle holds
abbrev pub DecidesBy : Option HandleValue → Option Arrival → Option KnownVerdict → List ℕ → Output → Output → Status → Type 0
DecidesBy (Some (KeptSettings s)) arrival known o w x t = DecidesIn s arrival known o w x t
DecidesBy kept arrival known o w x t = Stays NoHandle w x t

-- by a length and a rule that may not be given
abbrev pub DecidesAt : Option HandleValue → Option Arrival → Option KnownVerdict → List ℕ → List ℕ → List ℕ → List ℕ → List ℕ
    → List Rule → List Rule → Status → Type 0
DecidesAt kept arrival known o before after lens lens' rules rules' t =
    OfFirst lens lens' (λ n l. OfFirst rules rules' (λ r p.
    DecidesBy kept arrival known o (output before n r) (output after l p) t) (t ≡ NullPointer)) (t ≡ NullPointer)

-- what is decided about a datagram, as it was cut, is done, unless there was no memory
abbrev pub Exchanges : Settings → Result (Unit {0}) NotifyError → SocketAddr → ℕ → ℕ → List ℕ → Output → Output → Status → Type 0
Exchanges s v addr at secs o w x t = Stays NoMemory w x t ⊎ ((action : Action) × IsExchanged s v addr at secs o action × Acts action w x t)

abbrev pub ExchangesIn : Settings → Origin → Option SocketAddr → Option KnownVerdict → List ℕ → Output → Output → Status → Type 0
ExchangesIn s origin (Some addr) (Some known) o w x t = Exchanges s known.verdict addr origin.at origin.secs (cut_datagram o) w x t
ExchangesIn s origin (Some addr) None o w x t = Stays OutOfRange w x t
ExchangesIn s origin None known o w x t = Stays OutOfRange w x t

abbrev pub ExchangesBy : Option HandleValue → Origin → Option SocketAddr → Option KnownVerdict → List ℕ → Output → Output → Status → Type 0
ExchangesBy (Some (KeptSettings s)) origin addr known o w x t = ExchangesIn s origin addr known o w x t
ExchangesBy kept origin addr known o w x t = Stays NoHandle w x t

-- by a length and a rule that may not be given
abbrev pub ExchangesAt : Option HandleValue → Origin → Option SocketAddr → Option KnownVerdict → List ℕ → List ℕ → List ℕ → List ℕ → List ℕ
    → List Rule → List Rule → Status → Type 0
ExchangesAt kept origin addr known o before after lens lens' rules rules' t =
    OfFirst lens lens' (λ n l. OfFirst rules rules' (λ r p.
    ExchangesBy kept origin addr known o (output before n r) (output after l p) t) (t ≡ NullPointer)) (t ≡ NullPointer)

-- what is done with a reply
abbrev pub Rewrites : ReplyRule → List ℕ → List ℕ → List ℕ → ℕ → ℕ → Status → Type 0
Rewrites p o before after len len' Reply = (m : Msg) × (composed_of o ≡ Ok m) × (length (wire m) ≤ 65535)
    × PutsReply (rewrite_by p m) before after len' Reply
Rewrites p o before after len len' NoRoom = (m : Msg) × (composed_of o ≡ Ok m) × (length (wire m) ≤ 65535)
    × PutsReply (rewrite_by p m) before after len' NoRoom
Rewrites p o before after len len' Unreadable = ((length o < 12) ⊎ IsRefused (composed_of o)) × Unwritten before after len len'
Rewrites p o before after len len' TooLong = ((m : Msg) × (composed_of o ≡ Ok m) × (65535 < length (wire m)))
    × Unwritten before after len len'
Rewrites p o before after len len' NoMemory = Unwritten before after len len'
Rewrites p o before after len len' t = ⊥

-- what is done about a request whose service fails
abbrev pub Refuses : ReplyRule → List ℕ → ServiceError → List ℕ → List ℕ → ℕ → ℕ → Status → Type 0
Refuses p o error before after len len' Reply = (b : Built) × IsErrorReply p o error (Some b)
    × PutsReply b.message before after len' Reply
Refuses p o error before after len len' NoRoom = (b : Built) × IsErrorReply p o error (Some b)
    × PutsReply b.message before after len' NoRoom
Refuses p o error before after len len' Unreadable = (length o < 12) × Unwritten before after len len'
Refuses p o error before after len len' NoMemory = Unwritten before after len len'
Refuses p o error before after len len' t = ⊥

-- by a number that may be no error
abbrev pub RefusesBy : ReplyRule → List ℕ → Option ServiceError → List ℕ → List ℕ → ℕ → ℕ → Status → Type 0
RefusesBy p o (Some error) before after len len' t = Refuses p o error before after len len' t
RefusesBy p o None before after len len' t = (t ≡ OutOfRange) × Unwritten before after len len'

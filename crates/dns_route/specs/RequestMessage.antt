-- What is kept of a request that is asked again elsewhere (RFC 1035, section 4.1; RFC 6891, section 6.1.1; RFC 7871), and the
-- message that is sent.
use Rattle.std.specs.Prelude.{ℕ, ⊤, ◌≡◌, ◌<◌, ◌≤◌, Bool, true, false, List, [], ◌∷◌, ◌++◌, codes, length, Option, Some, None, Result, Ok, Err}
use Rattle.dns_name.specs.ErrorTexts.{parse_text}
use Rattle.dns_name.specs.declared.error.ParseError.{ParseError}
use Rattle.dns_name.specs.declared.error.ParseError.TheVariants.{ShortInput, Form, OutOfMemory as NoParseMemory}
use Rattle.dns_name.specs.declared.opt_error.BuildDataError.{BuildDataError}
use Rattle.dns_base.specs.declared.error.PushError.{PushError}
use Rattle.dns_base.specs.declared.error.PushError.TheVariants.{ShortBuf, OutOfMemory as NoPushMemory}
use Rattle.dns_base.specs.Msg.{Msg}
use Rattle.dns_base.specs.Wire.{wire}
use Rattle.dns_opt.specs.OptRecords.{OptState, is_do, opt_of, opt_state}
use Rattle.dns_opt.specs.Pushes.{Pushed}
use Rattle.dns_route.specs.declared.kept.KeptKinds.TheVariants.{Subnets}
use Rattle.dns_route.specs.declared.request.Error.{Error}
use Rattle.dns_route.specs.declared.request.Error.TheVariants.{Unreadable, OutOfMemory as NoMemory}
use Rattle.dns_service.specs.LastOpt.{and_opt}
use Rattle.dns_service.specs.Copied.{copied}
use Rattle.dns_route.specs.KeptOptions.{kept_opt, plain_head}

-- the message without its OPT record, whether DNSSEC records are wanted, and the options that are sent
pub record RequestState : Type 0 where
  pub message : Msg
  pub dnssec_ok : Bool
  pub options : List ℕ

abbrev pub request_opt : Msg → Result OptState ParseError → Result RequestState ParseError
request_opt m (Ok s) = Ok (record { message = m; dnssec_ok = is_do s.head.flags; options = s.options })
request_opt m (Err e) = Err e

-- the size of the OPT record that is sent, in octets
abbrev pub sent_size : ℕ
sent_size = 1232

-- a message with the DO bit and the client subnets of an OPT record, refused if one of its options is unreadable
abbrev pub request_by : Msg → Option OptState → Result RequestState ParseError
request_by m None = Ok (record { message = m; dnssec_ok = false; options = [] })
request_by m (Some s) = request_opt m (kept_opt sent_size Subnets s)

abbrev pub request_with : Option OptState → Result Msg ParseError → Result RequestState ParseError
request_with opt (Ok m) = request_by m opt
request_with opt (Err e) = Err e

-- the request that octets are: the refusal of sections and data comes before that of options
abbrev pub request_of : List ℕ → Result RequestState ParseError
request_of o = request_with (opt_of o) (copied o)

-- a request is read, or refused as its octets are
abbrev pub ReadsRequest : Result RequestState ParseError → Result RequestState Error → Type 0
ReadsRequest read (Ok r) = read ≡ Ok r
ReadsRequest read (Err (Unreadable ShortInput)) = read ≡ Err ShortInput
ReadsRequest read (Err (Unreadable (Form f))) = read ≡ Err (Form f)
ReadsRequest read (Err (Unreadable NoParseMemory)) = ⊥
ReadsRequest read (Err NoMemory) = Unit {0}

-- a refused reading as the refusal of a request
abbrev pub unreadable : ParseError → Error
unreadable ShortInput = Unreadable ShortInput
unreadable (Form f) = Unreadable (Form f)
unreadable NoParseMemory = NoMemory

-- the text of the refusal of a request
abbrev pub request_error_text : Error → List ℕ
request_error_text (Unreadable e) = codes "unreadable request: " ++ parse_text e
request_error_text NoMemory = codes "out of memory"

-- an option is added as by a push, and a refused call leaves the request
abbrev pub AddsTo : ℕ → List ℕ → RequestState → RequestState → Result ⊤ BuildDataError → Type 0
AddsTo code d old new result = Pushed code d old.options new.options result × (new ≡ record old { options = new.options })

-- the OPT record that is sent, if DO is set or there are options
abbrev pub sent_opt : Bool → List ℕ → Option OptState
sent_opt true o = Some (opt_state (plain_head sent_size true) o)
sent_opt false [] = None
sent_opt false (x ∷ o) = Some (opt_state (plain_head sent_size false) (x ∷ o))

-- the message that is sent, its OPT record last
abbrev pub request_sent : RequestState → Msg
request_sent r = and_opt r.message (sent_opt r.dnssec_ok r.options)

-- octets of a message are written; ShortBuf exactly above 65,535
abbrev pub Sends : Msg → Result (List ℕ) PushError → Type 0
Sends m (Ok o) = (o ≡ wire m) × (length o ≤ 65535)
Sends m (Err ShortBuf) = 65535 < length (wire m)
Sends m (Err NoPushMemory) = Unit {0}

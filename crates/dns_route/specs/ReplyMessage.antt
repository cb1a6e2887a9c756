-- What a reply keeps of a message (RFC 1035, section 4.1; RFC 6891, section 6.1.2), and the message that is built of it.
use Rattle.std.specs.Prelude.{ℕ, ⊤, ◌≡◌, ◌<◌, ◌≤◌, ◌+◌, ◌++◌, List, [], length, Option, Some, None, Result, Ok, Err}
use Rattle.dns_name.specs.declared.error.ParseError.{ParseError}
use Rattle.dns_name.specs.declared.opt_error.BuildDataError.{BuildDataError}
use Rattle.dns_name.specs.declared.opt_error.BuildDataError.TheVariants.{LongOptData, WrongLength, ShortBuf, OutOfMemory as NoBuildMemory}
use Rattle.dns_base.specs.Built.{Built}
use Rattle.dns_base.specs.Options.{option_octets}
use Rattle.dns_base.specs.Msg.{Msg}
use Rattle.dns_base.specs.Wire.{wire}
use Rattle.dns_opt.specs.OptRecords.{OptState, opt_of, opt_state, zero_head}
use Rattle.dns_opt.specs.Pushes.{Fits}
use Rattle.dns_service.specs.declared.service.ServiceError.TheVariants.{FormatError, InternalError, NotImplemented, Refused}
use Rattle.dns_service.specs.declared.reply_error.ReplyError.{ReplyError}
use Rattle.dns_service.specs.declared.reply_error.ReplyError.TheVariants.{Service, OutOfMemory as NoMemory}
use Rattle.dns_route.specs.declared.kept.KeptKinds.TheVariants.{SubnetsAndErrors}
use Rattle.dns_service.specs.LastOpt.{and_opt}
use Rattle.dns_service.specs.Copied.{copied}
use Rattle.dns_route.specs.KeptOptions.{kept_opt}

-- the octets of the message, and the OPT record that the reply gets
pub record ReplyState : Type 0 where
  pub octets : List ℕ
  pub opt : Option OptState

abbrev pub reply_with : List ℕ → Result OptState ParseError → Result ReplyState ParseError
reply_with o (Ok s) = Ok (record { octets = o; opt = Some s })
reply_with o (Err e) = Err e

abbrev pub reply_by : List ℕ → Option OptState → Result ReplyState ParseError
reply_by o None = Ok (record { octets = o; opt = None })
reply_by o (Some s) = reply_with o (kept_opt s.head.size SubnetsAndErrors s)

-- the reply that is begun with octets that are a message
abbrev pub reply_read : List ℕ → Result ReplyState ParseError
reply_read o = reply_by o (opt_of o)

abbrev pub IsRefused : {A : Type 0} → Result A ParseError → Type 0
IsRefused read = (e : ParseError) × (read ≡ Err e)

-- a reply is begun that has this state; FormatError exactly if an option is unreadable
abbrev pub BeginsReply : {R : Type 0} → (R → ReplyState) → Result ReplyState ParseError → Result R ReplyError → Type 0
BeginsReply state read (Ok r) = read ≡ Ok (state r)
BeginsReply state read (Err (Service FormatError)) = IsRefused read
BeginsReply state read (Err (Service InternalError)) = ⊥
BeginsReply state read (Err (Service NotImplemented)) = ⊥
BeginsReply state read (Err (Service Refused)) = ⊥
BeginsReply state read (Err NoMemory) = Unit {0}

-- the OPT record that an option is added to
abbrev pub begun : Option OptState → OptState
begun None = opt_state zero_head []
begun (Some s) = s

-- the reply with an option as the last of its OPT record
abbrev pub with_reply_option : ℕ → List ℕ → ReplyState → ReplyState
with_reply_option code d r = record r { opt = Some (opt_state (begun r.opt).head ((begun r.opt).options ++ option_octets code d)) }

-- an option is added; refused LongOptData exactly if the options would pass 65,535 octets, and a refused call leaves the reply
abbrev pub Adds : ℕ → List ℕ → ReplyState → ReplyState → Result ⊤ BuildDataError → Type 0
Adds code d old new (Ok _) = Fits (begun old.opt).options (length d) × (new ≡ with_reply_option code d old)
Adds code d old new (Err LongOptData) = (65535 < length (begun old.opt).options + 4 + length d) × (new ≡ old)
Adds code d old new (Err NoBuildMemory) = Fits (begun old.opt).options (length d) × (new ≡ old)
Adds code d old new (Err ShortBuf) = ⊥
Adds code d old new (Err (WrongLength s w)) = ⊥

abbrev pub reply_with_opt : Option OptState → Result Msg ParseError → Result Msg ParseError
reply_with_opt opt (Ok m) = Ok (and_opt m opt)
reply_with_opt opt (Err e) = Err e

-- the message of a reply: the copy of its octets, and its OPT record last
abbrev pub reply_message : ReplyState → Result Msg ParseError
reply_message r = reply_with_opt r.opt (copied r.octets)

-- a message is composed; FormatError exactly if it can't be read, else InternalError exactly above 65,535 octets
abbrev pub Composes : Result Msg ParseError → Result Built ReplyError → Type 0
Composes read (Ok b) = (read ≡ Ok b.message) × (b.limit ≡ 65535) × (length (wire b.message) ≤ 65535)
Composes read (Err (Service FormatError)) = IsRefused read
Composes read (Err (Service InternalError)) = (m : Msg) × (read ≡ Ok m) × (65535 < length (wire m))
Composes read (Err (Service NotImplemented)) = ⊥
Composes read (Err (Service Refused)) = ⊥
Composes read (Err NoMemory) = Unit {0}

-- A message with one option more (RFC 6891, sections 6.1.1 and 6.1.2): what it has of OPT records becomes one, its last additional record.
use Rattle.std.specs.Prelude.{◌≡◌, ℕ, ⊤, ◌+◌, ◌≤◌, ◌<◌, List, [], ◌∷◌, ◌++◌, length, nat_le, if◌then◌else◌, Result, Ok, Err}
use Rattle.dns_name.specs.declared.opt_error.BuildDataError.{BuildDataError}
use Rattle.dns_name.specs.declared.opt_error.BuildDataError.TheVariants.{LongOptData, WrongLength, ShortBuf, OutOfMemory as NoMemory}
use Rattle.dns_base.specs.Msg.{Msg, ResourceRecord}
use Rattle.dns_base.specs.Built.{Built}
use Rattle.dns_base.specs.Options.{option_octets}
use Rattle.dns_base.specs.Replaced.{other_than}
use Rattle.dns_base.specs.Wire.{wire}
use Rattle.dns_opt.specs.OptRecords.{OptState, opt_record, opt_state}
use Rattle.dns_opt.specs.Pushes.{Fits}
use Rattle.dns_opt.specs.Reopened.{old_opt}

-- an OPT record with an option more, after those that it has
abbrev pub and_option : OptState → ℕ → List ℕ → OptState
and_option s code d = opt_state s.head (s.options ++ option_octets code d)

-- the additional records that are no OPT, in order, and then one OPT
abbrev pub one_opt : List ResourceRecord → OptState → List ResourceRecord
one_opt rs s = other_than 41 rs ++ opt_record s ∷ []

-- the message with an option more, however long it is
abbrev pub optioned : Msg → ℕ → List ℕ → Msg
optioned m code d = record m { additional = one_opt m.additional (and_option (old_opt m) code d) }

-- the message with an option more if it has at most 65,535 octets then, else the message itself
abbrev pub with_option : Msg → ℕ → List ℕ → Msg
with_option m code d = if nat_le (length (wire (optioned m code d))) 65535 then optioned m code d else m

-- An option is added: refused LongOptData if the option list would pass 65,535 octets, then ShortBuf if the message would pass
-- its limit, both exactly. A refused call leaves the message.
abbrev pub AddsOption : ℕ → List ℕ → Built → Built → Result ⊤ BuildDataError → Type 0
AddsOption code d old new (Ok _) = (new ≡ record old { message = with_option old.message code d })
    × (length (wire (optioned old.message code d)) ≤ old.limit)
AddsOption code d old new (Err LongOptData) = (new ≡ old) × (65535 < length (old_opt old.message).options + 4 + length d)
AddsOption code d old new (Err ShortBuf) = (new ≡ old) × Fits (old_opt old.message).options (length d)
    × (old.limit < length (wire (optioned old.message code d)))
AddsOption code d old new (Err NoMemory) = new ≡ old
AddsOption code d old new (Err (WrongLength s w)) = ⊥

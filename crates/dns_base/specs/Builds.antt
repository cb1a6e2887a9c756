-- A message that is built within a limit, several records at a time (RFC 1035, section 4.1).
use Rattle.std.specs.Prelude.{⊤, ◌≡◌, ◌≤◌, List, ◌++◌, length, Result, Ok, Err}
use Rattle.dns_base.specs.declared.draft.Section.{Section}
use Rattle.dns_base.specs.declared.draft.Section.TheVariants.{Answer, Authority, Additional}
use Rattle.dns_base.specs.declared.error.PushError.{PushError}
use Rattle.dns_base.specs.declared.error.PushError.TheVariants.{ShortBuf, OutOfMemory as NoMemory}
use Rattle.dns_base.specs.Built.{Built, PassesLimit}
use Rattle.dns_base.specs.Msg.{Msg, ResourceRecord}
use Rattle.dns_base.specs.Wire.{wire}

-- a message within its limit
abbrev pub KeepsLimit : Built → Type 0
KeepsLimit b = length (wire b.message) ≤ b.limit

-- a message may take 65,535 octets
abbrev pub unlimited : Msg → Built
unlimited m = record { message = m; limit = 65535 }

-- the message with these records of a section as well
abbrev pub and_records : Section → Msg → List ResourceRecord → Msg
and_records Answer m rs = record m { answers = m.answers ++ rs }
and_records Authority m rs = record m { authority = m.authority ++ rs }
and_records Additional m rs = record m { additional = m.additional ++ rs }

abbrev pub with_records : Section → Built → List ResourceRecord → Built
with_records s b rs = record b { message = and_records s b.message rs }

-- what is built becomes more, or the additions end ShortBuf exactly if it would pass its limit
abbrev pub Becomes : Built → Built → Result ⊤ PushError → Type 0
Becomes new more (Ok _) = (new ≡ more) × KeepsLimit more
Becomes new more (Err ShortBuf) = PassesLimit more
Becomes new more (Err NoMemory) = Unit {0}

-- this is built, or refused ShortBuf exactly if it would pass its limit
abbrev pub Builds : Built → Result Built PushError → Type 0
Builds more (Ok b) = (b ≡ more) × KeepsLimit more
Builds more (Err ShortBuf) = PassesLimit more
Builds more (Err NoMemory) = Unit {0}

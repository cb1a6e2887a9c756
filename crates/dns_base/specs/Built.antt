-- What a builder has built: a message, and the limit of its octets.
use Rattle.std.specs.Prelude.{ℕ, ⊤, ◌≡◌, ◌≤◌, ◌<◌, false, List, [], ◌∷◌, ◌++◌, length, Result, Ok, Err}
use Rattle.dns_base.specs.declared.draft.Section.{Section}
use Rattle.dns_base.specs.declared.draft.Section.TheVariants.{Answer, Authority, Additional}
use Rattle.dns_base.specs.declared.error.PushError.{PushError}
use Rattle.dns_base.specs.declared.error.PushError.TheVariants.{ShortBuf, OutOfMemory as NoMemory}
use Rattle.dns_message.specs.declared.header.Header.{Header}
use Rattle.dns_message.specs.declared.question.Question.{Question}
use Rattle.dns_base.specs.Msg.{Msg, ResourceRecord, IsMessage}
use Rattle.dns_base.specs.Wire.{wire}
use Rattle.dns_base.specs.Sections.{message_of}

pub record Built : Type 0 where
  pub message : Msg
  pub limit : ℕ

-- the header whose bits are all zero
abbrev pub zero_header : Header
zero_header = record {
  id = 0;
  qr = false;
  opcode = 0;
  aa = false;
  tc = false;
  rd = false;
  ra = false;
  z = false;
  ad = false;
  cd = false;
  rcode = 0;
}

-- the message with a zero header and nothing else
abbrev pub empty : Msg
empty = record { header = zero_header; questions = []; answers = []; authority = []; additional = [] }

abbrev pub with_header : Built → Header → Built
with_header b h = record b { message = record b.message { header = h } }

abbrev pub and_question : Msg → Question → Msg
and_question m q = record m { questions = m.questions ++ q ∷ [] }

abbrev pub and_record : Section → Msg → ResourceRecord → Msg
and_record Answer m r = record m { answers = m.answers ++ r ∷ [] }
and_record Authority m r = record m { authority = m.authority ++ r ∷ [] }
and_record Additional m r = record m { additional = m.additional ++ r ∷ [] }

abbrev pub with_question : Built → Question → Built
with_question b q = record b { message = and_question b.message q }

abbrev pub with_record : Section → Built → ResourceRecord → Built
with_record s b r = record b { message = and_record s b.message r }

abbrev pub with_answer : Built → ResourceRecord → Built
with_answer b r = with_record Answer b r

abbrev pub with_additional : Built → ResourceRecord → Built
with_additional b r = with_record Additional b r

-- the message without the records of a section
abbrev pub less_records : Section → Msg → Msg
less_records Answer m = record m { answers = [] }
less_records Authority m = record m { authority = [] }
less_records Additional m = record m { additional = [] }

-- what is built, without the last section
abbrev pub less_questions : Built → Built
less_questions b = record b { message = record b.message { questions = [] } }

abbrev pub less_section : Section → Built → Built
less_section s b = record b { message = less_records s b.message }

-- a message that passes the limit
abbrev pub PassesLimit : Built → Type 0
PassesLimit b = b.limit < length (wire b.message)

-- A push adds an item if the message stays within its limit. It is refused ShortBuf exactly if the message would pass it;
-- a refused push leaves what was built.
abbrev pub Pushes : Built → Built → Built → Result ⊤ PushError → Type 0
Pushes old new more (Ok _) = (new ≡ more) × (length (wire more.message) ≤ more.limit)
Pushes old new more (Err ShortBuf) = (new ≡ old) × PassesLimit more
Pushes old new more (Err NoMemory) = (new ≡ old) × (length (wire more.message) ≤ more.limit)

-- octets that are a built message
pub record IsBuilt (o : List ℕ) : Type 0 where
  pub lawful : IsMessage (message_of o)
  pub whole : o ≡ wire (message_of o)
  pub short : length o ≤ 65535

-- the sections that are still empty while another is built
pub record NoRecords (m : Msg) : Type 0 where
  pub answers : m.answers ≡ []
  pub authority : m.authority ≡ []
  pub additional : m.additional ≡ []

pub record NoAuthority (m : Msg) : Type 0 where
  pub authority : m.authority ≡ []
  pub additional : m.additional ≡ []

-- the sections after a section of records are empty
abbrev pub IsLast : Section → Msg → Type 0
IsLast Answer m = NoAuthority m
IsLast Authority m = m.additional ≡ []
IsLast Additional m = Unit {0}

pub record NoSections (m : Msg) : Type 0 where
  pub questions : m.questions ≡ []
  pub records : NoRecords m

-- how far a message reaches
pub data Extent : Type 0 where
  to_header : Extent
  to_questions : Extent
  to_records : Section → Extent

-- what is after that is empty
abbrev pub IsWithin : Extent → Msg → Type 0
IsWithin to_header m = NoSections m
IsWithin to_questions m = NoRecords m
IsWithin (to_records s) m = IsLast s m

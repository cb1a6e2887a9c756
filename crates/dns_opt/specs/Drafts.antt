-- An OPT record that is built for a message.
use Rattle.std.specs.Prelude.{◌≡◌, ◌≢◌, ℕ, ◌+◌, ◌-◌, ◌≤◌, ◌<◌, ⊤, Bool, true, false, List, [], ◌++◌, length, Result, Ok, Err, nat_le}
use Rattle.dns_name.specs.declared.opt_error.BuildDataError.{BuildDataError}
use Rattle.dns_name.specs.declared.opt_error.BuildDataError.TheVariants.{LongOptData, WrongLength, ShortBuf, OutOfMemory as NoMemory}
use Rattle.dns_base.specs.Built.{Built, PassesLimit, with_additional, with_header}
use Rattle.dns_base.specs.Options.{option_octets}
use Rattle.dns_base.specs.Wire.{wire}
use Rattle.dns_opt.specs.OptRecords.{OptHead, OptState, opt_record, opt_state, zero_head}
use Rattle.dns_options.specs.Pushes.{Fits}

-- the head and the options so far, the lower four bits of the response code, and how many octets the message may still take
pub record OptDraft : Type 0 where
  pub head : OptHead
  pub low : ℕ
  pub options : List ℕ
  pub room : ℕ

-- how many octets a message may still take
abbrev pub room_of : Built → ℕ
room_of b = b.limit - length (wire b.message)

-- an OPT record without options
abbrev pub opened_opt : Built → OptDraft
opened_opt b = record { head = zero_head; low = b.message.header.rcode; options = []; room = room_of b }

abbrev pub with_options : OptDraft → List ℕ → OptDraft
with_options d o = record { head = d.head; low = d.low; options = o; room = d.room }

-- an option is pushed: refused LongOptData as into any list, then ShortBuf exactly if the message would pass its limit
abbrev pub PushedIn : ℕ → List ℕ → OptDraft → OptDraft → Result ⊤ BuildDataError → Type 0
PushedIn code d old new (Ok _) = Fits old.options (length d) × (length old.options + 4 + length d + 11 ≤ old.room)
    × (new ≡ with_options old (old.options ++ option_octets code d))
PushedIn code d old new (Err LongOptData) = (65535 < length old.options + 4 + length d) × (new ≡ old)
PushedIn code d old new (Err ShortBuf) = Fits old.options (length d) × (old.room < length old.options + 4 + length d + 11) × (new ≡ old)
PushedIn code d old new (Err NoMemory) = Fits old.options (length d) × (new ≡ old)
PushedIn code d old new (Err (WrongLength s w)) = ⊥

-- the message with one record more, the OPT, and the lower four bits in its header
abbrev pub with_opt_record : OptDraft → Built → Built
with_opt_record d b = with_additional b (opt_record (opt_state d.head d.options))

abbrev pub with_opt : OptDraft → Built → Built
with_opt d b = with_header (with_opt_record d b) (record b.message.header { rcode = d.low })

-- The record is put into a message that is bare of others; ShortBuf exactly if it would pass its limit, and a refused call
-- leaves the message as it was before.
abbrev pub PutInto : OptDraft → Built → Built → Built → Result ⊤ BuildDataError → Type 0
PutInto d bare old new (Ok _) = (new ≡ with_opt d bare) × (length (wire (with_opt_record d bare).message) ≤ bare.limit)
PutInto d bare old new (Err ShortBuf) = (new ≡ old) × PassesLimit (with_opt_record d bare)
PutInto d bare old new (Err NoMemory) = new ≡ old
PutInto d bare old new (Err LongOptData) = ⊥
PutInto d bare old new (Err (WrongLength s w)) = ⊥

-- the record is appended
abbrev pub Appended : OptDraft → Built → Built → Result ⊤ BuildDataError → Type 0
Appended d old new result = PutInto d old old new result

-- What comes of a message whose OPT record a closure built, if it gave an answer and left a draft.
abbrev pub EndsIn : Result ⊤ BuildDataError → OptDraft → Built → Built → Built → Result ⊤ BuildDataError → Type 0
EndsIn (Err e) d bare old new result = (result ≡ Err e) × (new ≡ old)
EndsIn (Ok _) d bare old new result = PutInto d bare old new result

abbrev pub Ends : Result ⊤ BuildDataError → OptDraft → Built → Built → Result ⊤ BuildDataError → Type 0
Ends answer d old new result = EndsIn answer d old old new result

-- calls x r y says that the closure, at x, may answer r and leave y there
pub record IsBuiltOpt (calls : OptDraft → Result ⊤ BuildDataError → OptDraft → Type 0) (old new : Built)
    (result : Result ⊤ BuildDataError) : Type 0 where
  pub answer : Result ⊤ BuildDataError
  pub left : OptDraft
  pub met : calls (opened_opt old) answer left
  pub ends : Ends answer left old new result

abbrev pub BuiltFitting : Bool → (OptDraft → Result ⊤ BuildDataError → OptDraft → Type 0) → Built → Built → Result ⊤ BuildDataError → Type 0
BuiltFitting false calls old new result = (result ≡ Err ShortBuf) × (new ≡ old)
BuiltFitting true calls old new result = IsBuiltOpt calls old new result

-- ShortBuf if not even an empty OPT record, of eleven octets, has room; else as the closure builds it
abbrev pub BuiltOpt : (OptDraft → Result ⊤ BuildDataError → OptDraft → Type 0) → Built → Built → Result ⊤ BuildDataError → Type 0
BuiltOpt calls old new result = BuiltFitting (nat_le 11 (room_of old)) calls old new result

-- head and options are those of another record; ShortBuf exactly if the message would pass its limit
abbrev pub Cloned : OptState → OptDraft → OptDraft → Result ⊤ BuildDataError → Type 0
Cloned s old new (Ok _) = (length s.options + 11 ≤ old.room)
    × (new ≡ record { head = s.head; low = old.low; options = s.options; room = old.room })
Cloned s old new (Err ShortBuf) = (old.room < length s.options + 11) × (new ≡ old)
Cloned s old new (Err NoMemory) = (length s.options + 11 ≤ old.room) × (new ≡ old)
Cloned s old new (Err LongOptData) = ⊥
Cloned s old new (Err (WrongLength a b)) = ⊥

-- An option of octets that a writer writes, n of them as was stated, is pushed to a draft, or refused. WrongLength
-- comes before ShortBuf.
abbrev pub PushedRawIn : (List ℕ → Type 0) → ℕ → ℕ → OptDraft → OptDraft → Result ⊤ BuildDataError → Type 0
PushedRawIn writes code n old new (Ok _) = Fits old.options n × (length old.options + 4 + n + 11 ≤ old.room)
    × ((d : List ℕ) × writes d × (length d ≡ n) × (new ≡ with_options old (old.options ++ option_octets code d)))
PushedRawIn writes code n old new (Err LongOptData) = (65535 < length old.options + 4 + n) × (new ≡ old)
PushedRawIn writes code n old new (Err (WrongLength s w)) = Fits old.options n
    × ((d : List ℕ) × writes d × (s ≡ n) × (w ≡ length d) × (length d ≢ n)) × (new ≡ old)
PushedRawIn writes code n old new (Err ShortBuf) = Fits old.options n × (old.room < length old.options + 4 + n + 11)
    × ((d : List ℕ) × writes d × (length d ≡ n)) × (new ≡ old)
PushedRawIn writes code n old new (Err NoMemory) = Fits old.options n × (new ≡ old)

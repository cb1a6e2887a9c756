-- The OPT record of a message under construction, taken up again: a message has at most one (RFC 6891, section 6.1.1).
use Rattle.std.specs.Prelude.{◌≡◌, ⊤, List, [], Option, Result, Ok, Err, option_map, unwrap_or}
use Rattle.dns_name.specs.declared.opt_error.BuildDataError.{BuildDataError}
use Rattle.dns_name.specs.declared.opt_error.BuildDataError.TheVariants.{LongOptData, WrongLength, ShortBuf, OutOfMemory as NoMemory}
use Rattle.dns_base.specs.Msg.{Msg, ResourceRecord}
use Rattle.dns_base.specs.Built.{Built}
use Rattle.dns_base.specs.Replaced.{less_type}
use Rattle.dns_opt.specs.Drafts.{OptDraft, EndsIn, room_of}
use Rattle.dns_opt.specs.OptRecords.{OptState, opt_record_among, opt_state, opt_state_of, zero_head}

-- the first record of type OPT; none if its data is no option list
abbrev pub opt_among : List ResourceRecord → Option OptState
opt_among rs = option_map opt_state_of (opt_record_among rs)

-- a record, or one with zeros and no options if there is none
abbrev pub opt_or_empty : Option OptState → OptState
opt_or_empty found = unwrap_or found (opt_state zero_head [])

abbrev pub old_opt : Msg → OptState
old_opt m = opt_or_empty (opt_among m.additional)

-- the message without its OPT records
abbrev pub less_opts : Built → Built
less_opts b = less_type 41 b

-- the draft of a record that is gone on with for a message without OPT records
abbrev pub resumed : OptState → Built → OptDraft
resumed s bare = record { head = s.head; low = bare.message.header.rcode; options = s.options; room = room_of bare }

-- the draft of a message's OPT record
abbrev pub reopened : Built → OptDraft
reopened b = resumed (old_opt b.message) (less_opts b)

-- A closure builds on the old OPT record, and what it leaves takes the place of the OPT records; a refused call leaves the message.
-- calls x r y says that the closure, at x, may answer r and leave y there.
pub record IsReopened (calls : OptDraft → Result ⊤ BuildDataError → OptDraft → Type 0) (old new : Built)
    (result : Result ⊤ BuildDataError) : Type 0 where
  pub answer : Result ⊤ BuildDataError
  pub left : OptDraft
  pub met : calls (reopened old) answer left
  pub ends : EndsIn answer left (less_opts old) old new result

-- if memory runs out the closure need not be called
abbrev pub Reopens : (OptDraft → Result ⊤ BuildDataError → OptDraft → Type 0) → Built → Built → Result ⊤ BuildDataError → Type 0
Reopens calls old new (Ok u) = IsReopened calls old new (Ok u)
Reopens calls old new (Err NoMemory) = new ≡ old
Reopens calls old new (Err LongOptData) = IsReopened calls old new (Err LongOptData)
Reopens calls old new (Err ShortBuf) = IsReopened calls old new (Err ShortBuf)
Reopens calls old new (Err (WrongLength s w)) = IsReopened calls old new (Err (WrongLength s w))

-- A reply that a service builds (RFC 1035, section 4.1): the query's identifier, opcode, RD and questions, and records by section.
use Rattle.std.specs.Prelude.{ℕ, ◌≡◌, ◌<◌, ◌≤◌, ◌⊎◌, ◌+◌, ◌++◌, ◌==◌, Bool, List, length, Option, Some, None, Result, Ok, Err, if◌then◌else◌}
use Rattle.dns_name.specs.declared.error.ParseError.{ParseError}
use Rattle.dns_name.specs.declared.error.ParseError.TheVariants.{ShortInput}
use Rattle.dns_name.specs.Place.{four, two}
use Rattle.dns_base.specs.declared.draft.Section.{Section}
use Rattle.dns_base.specs.declared.draft.Section.TheVariants.{Answer, Authority, Additional}
use Rattle.dns_base.specs.declared.error.PushError.{PushError}
use Rattle.dns_base.specs.declared.error.PushError.TheVariants.{ShortBuf, OutOfMemory as NoPushMemory}
use Rattle.dns_base.specs.Built.{Built, PassesLimit, empty, with_header, with_record}
use Rattle.dns_base.specs.CopiedRecord.{copied_record}
use Rattle.dns_base.specs.Msg.{ResourceRecord}
use Rattle.dns_base.specs.Replies.{error_to}
use Rattle.dns_base.specs.Standing.{Standing, standing_at}
use Rattle.dns_base.specs.Wire.{wire}
use Rattle.dns_opt.specs.Reopened.{old_opt}
use Rattle.dns_service.specs.WithOption.{optioned, with_option}
use Rattle.dns_reply_builder.specs.declared.plain_record.PlainRecord.{PlainRecord}
use Rattle.dns_reply_builder.specs.declared.reply_builder.AddError.{AddError}
use Rattle.dns_reply_builder.specs.declared.reply_builder.AddError.TheVariants.{Unreadable, Order, TooLong, OutOfMemory}
use Rattle.dns_reply_builder.specs.declared.reply_builder.ReplyBuilder.{ReplyBuilder}
use Rattle.dns_reply_builder.specs.declared.reply_builder.ReplyBuilder.TheVariants as Reply

-- what is built so far
abbrev pub built_of : ReplyBuilder → Built
built_of (Reply.Answer b) = b
built_of (Reply.Authority b) = b
built_of (Reply.Additional b) = b

-- the place of a section, and of the one that was begun last
abbrev pub place_of : Section → ℕ
place_of Answer = 0
place_of Authority = 1
place_of Additional = 2

abbrev pub stage_of : ReplyBuilder → ℕ
stage_of (Reply.Answer b) = 0
stage_of (Reply.Authority b) = 1
stage_of (Reply.Additional b) = 2

-- the later of both
abbrev pub stage_onward : Section → ReplyBuilder → ℕ
stage_onward Answer b = stage_of b
stage_onward Authority (Reply.Answer b) = 1
stage_onward Authority (Reply.Authority b) = 1
stage_onward Authority (Reply.Additional b) = 2
stage_onward Additional b = 2

-- the reply that is begun to a query, authoritative or not (RFC 1035, section 4.1.1)
abbrev pub begun_to : List ℕ → ℕ → Bool → Built
begun_to o rcode aa =
    let b = error_to (record { message = empty; limit = 65535 }) o rcode in
    with_header b (record b.message.header { aa = aa })

-- none exactly to fewer octets than a header has
abbrev pub Begins : List ℕ → ℕ → Bool → Option ReplyBuilder → Type 0
Begins o rcode aa None = length o < 12
Begins o rcode aa (Some b) = (built_of b ≡ begun_to o rcode aa) × (stage_of b ≡ 0)

-- the one record that octets are
abbrev pub record_by : List ℕ → Result (Standing × ℕ) ParseError → Result ResourceRecord ParseError
record_by o (Ok p) = if p.1 == length o then copied_record p.0 else Err ShortInput
record_by o (Err e) = Err e

abbrev pub record_alone : List ℕ → Result ResourceRecord ParseError
record_alone o = record_by o (standing_at o 0)

-- the result of an addition, by that of the push
abbrev pub AddedAs : Result (Unit {0}) PushError → Result (Unit {0}) AddError → Type 0
AddedAs (Ok u) result = result ≡ Ok tt
AddedAs (Err ShortBuf) result = result ≡ Err TooLong
AddedAs (Err NoPushMemory) result = result ≡ Err OutOfMemory

-- the section and what is built so far stay
abbrev pub SameReply : ReplyBuilder → ReplyBuilder → Type 0
SameReply b c = (stage_of c ≡ stage_of b) × (built_of c ≡ built_of b)

-- a record stands last in its section; Order exactly if another section was begun last, else TooLong exactly above the limit
abbrev pub PushesAt : Section → ResourceRecord → ReplyBuilder → ReplyBuilder → Result (Unit {0}) AddError → Type 0
PushesAt section r b c (Ok u) =
    (stage_of b ≡ place_of section) × (stage_of c ≡ stage_of b) × (built_of c ≡ with_record section (built_of b) r)
PushesAt section r b c (Err Order) = ((stage_of b ≡ place_of section) → ⊥) × (c ≡ b)
PushesAt section r b c (Err TooLong) = (stage_of b ≡ place_of section) × SameReply b c × PassesLimit (with_record section (built_of b) r)
PushesAt section r b c (Err OutOfMemory) = SameReply b c
PushesAt section r b c (Err Unreadable) = ⊥

-- a record is added, and its section begun; a refused one begins it too; Unreadable comes first
abbrev pub AddsBuilt : Section → List ℕ → Built → ℕ → Built → Result (Unit {0}) AddError → Type 0
AddsBuilt section o b stage c (Ok u) =
    (r : ResourceRecord) × (record_alone o ≡ Ok r) × (stage ≡ place_of section) × (c ≡ with_record section b r)
AddsBuilt section o b stage c (Err Unreadable) = (e : ParseError) × (record_alone o ≡ Err e) × (c ≡ b)
AddsBuilt section o b stage c (Err Order) = (r : ResourceRecord) × (record_alone o ≡ Ok r) × ((stage ≡ place_of section) → ⊥) × (c ≡ b)
AddsBuilt section o b stage c (Err TooLong) =
    (r : ResourceRecord) × (record_alone o ≡ Ok r) × (stage ≡ place_of section) × PassesLimit (with_record section b r) × (c ≡ b)
AddsBuilt section o b stage c (Err OutOfMemory) = c ≡ b

abbrev pub Adds : Section → List ℕ → ReplyBuilder → ReplyBuilder → Result (Unit {0}) AddError → Type 0
Adds section o b c result =
    (stage_of c ≡ stage_onward section b) × AddsBuilt section o (built_of b) (stage_onward section b) (built_of c) result

-- a record whose name and data are borrowed
abbrev pub plain_record : PlainRecord → ResourceRecord
plain_record r = record { owner = r.owner; rtype = r.rtype; class = r.class; ttl = r.ttl; rdata = r.rdata.now }

-- type, class, TTL and the length of the data
abbrev pub plain_head : ResourceRecord → List ℕ
plain_head r = two r.rtype ++ (two r.class ++ (four r.ttl ++ two (length r.rdata)))

-- a record that was read stands last in a section, whose stage was begun last; or it is refused
abbrev pub AddsRecord : Section → ResourceRecord → Built → ℕ → Built → Result (Unit {0}) AddError → Type 0
AddsRecord section r b stage c (Ok u) = (stage ≡ place_of section) × (c ≡ with_record section b r)
AddsRecord section r b stage c (Err Unreadable) = ⊥
AddsRecord section r b stage c (Err Order) = ((stage ≡ place_of section) → ⊥) × (c ≡ b)
AddsRecord section r b stage c (Err TooLong) = (stage ≡ place_of section) × PassesLimit (with_record section b r) × (c ≡ b)
AddsRecord section r b stage c (Err OutOfMemory) = c ≡ b

-- an option more: TooLong exactly if the option list would pass 65,535 octets, or the message its limit
abbrev pub OptionAdded : ℕ → List ℕ → Built → Built → Result (Unit {0}) AddError → Type 0
OptionAdded code d b c (Ok u) =
    (c ≡ record b { message = with_option b.message code d }) × (length (wire (optioned b.message code d)) ≤ b.limit)
OptionAdded code d b c (Err Unreadable) = ⊥
OptionAdded code d b c (Err Order) = ⊥
OptionAdded code d b c (Err TooLong) =
    ((65535 < length (old_opt b.message).options + 4 + length d) ⊎ (b.limit < length (wire (optioned b.message code d)))) × (c ≡ b)
OptionAdded code d b c (Err OutOfMemory) = c ≡ b

-- What the calls of a reply that is built leave, by their status.
use Rattle.std.specs.Prelude.{ℕ, ◌≡◌, ◌≤◌, ◌<◌, Bool, List, length, nat_lt, Option, Some, None, Result, Ok, Err, nat_eq, if◌then◌else◌}
use Rattle.dns_name.specs.declared.error.OutOfMemory.{OutOfMemory as NoneLeft}
use Rattle.dns_name.specs.declared.error.ParseError.{ParseError}
use Rattle.dns_name.specs.Names.{uncompressed}
use Rattle.dns_base.specs.declared.draft.Section.{Section}
use Rattle.dns_base.specs.declared.draft.Section.TheVariants.{Answer, Authority, Additional}
use Rattle.dns_base.specs.Built.{Built}
use Rattle.dns_base.specs.Msg.{ResourceRecord}
use Rattle.dns_embed.specs.declared.rule.ReplyRule.{ReplyRule}
use Rattle.dns_reply_builder.specs.declared.plain_record.PlainRecord.{PlainRecord}
use Rattle.dns_reply_builder.specs.declared.reply_builder.AddError.{AddError}
use Rattle.dns_reply_builder.specs.declared.reply_builder.AddError.TheVariants as Add
use Rattle.dns_reply_builder.specs.declared.service_reply.ServiceReply.{ServiceReply}
use Rattle.dns_reply_builder.specs.declared.service_reply.ServiceReply.TheVariants.{Begun, Rewritten, Lost}
use Rattle.dns_reply_builder.specs.Held.{AddsOptionTo, AddsTo, BeginsReply, RewritesTo, rewritten_in}
use Rattle.dns_reply_builder.specs.Replying.{plain_record}
use Rattle.nutscythe_c.specs.declared.handle_value.HandleValue.{HandleValue}
use Rattle.nutscythe_c.specs.declared.handle_value.HandleValue.TheVariants.{Reply as KeptReply}
use Rattle.nutscythe_c.specs.declared.status.Status.{Status}
use Rattle.nutscythe_c.specs.declared.status.Status.TheVariants.{Done, NoMemory, NoHandle, OutOfRange, Unreadable, TooLong}
use Rattle.nutscythe_c.specs.Calls.{PutsReply, Unwritten}

-- the section of a number
abbrev pub section_of : ℕ → Option Section
section_of n =
    if nat_eq n 1 then Some Answer
    else (if nat_eq n 2 then Some Authority
    else (if nat_eq n 3 then Some Additional else None))

-- the response code of a number (RFC 1035, section 4.1.1)
abbrev pub rcode_of : ℕ → Option ℕ
rcode_of n = if nat_lt 15 n then None else Some n

-- a reply is begun and held
abbrev pub BeginsHeld : List ℕ → ℕ → Bool → Option HandleValue → Option HandleValue → Status → Type 0
BeginsHeld query rcode aa before after Done = (reply : ServiceReply) × BeginsReply query rcode aa (Some reply)
    × (after ≡ Some (KeptReply reply))
BeginsHeld query rcode aa before after Unreadable = (length query < 12) × (after ≡ before)
BeginsHeld query rcode aa before after NoMemory = after ≡ before
BeginsHeld query rcode aa before after t = ⊥

abbrev pub BeginsBy : List ℕ → Option ℕ → Bool → Option HandleValue → Option HandleValue → Status → Type 0
BeginsBy query (Some rcode) aa before after t = BeginsHeld query rcode aa before after t
BeginsBy query None aa before after t = (t ≡ OutOfRange) × (after ≡ before)

-- a record of a name in wire form
abbrev pub plain_by : ℕ → ℕ → ℕ → List ℕ → Result (List (List ℕ)) ParseError → Result ResourceRecord Status
plain_by t c ttl d (Ok owner) = Ok (record { owner = owner; rtype = t; class = c; ttl = ttl; rdata = d })
plain_by t c ttl d (Err e) = Err Unreadable

abbrev pub plain_in : List ℕ → ℕ → ℕ → ℕ → List ℕ → Result ResourceRecord Status
plain_in owner t c ttl d = if nat_lt 65535 (length d) then Err TooLong else plain_by t c ttl d (uncompressed owner)

abbrev pub IsPlain : Result ResourceRecord Status → Result PlainRecord Status → Type 0
IsPlain wanted (Ok r) = (wanted ≡ Ok (plain_record r)) × (length r.rdata.now ≤ 65535)
IsPlain wanted (Err t) = wanted ≡ Err t

-- what became of an addition
abbrev pub added_status : Result (Unit {0}) AddError → Status
added_status (Ok u) = Done
added_status (Err Add.Unreadable) = Unreadable
added_status (Err Add.Order) = OutOfRange
added_status (Err Add.TooLong) = TooLong
added_status (Err Add.OutOfMemory) = NoMemory

-- a record is added to the reply that a handle holds
abbrev pub AddsHeld : Section → ResourceRecord → Option HandleValue → Option HandleValue → Status → Type 0
AddsHeld section r (Some (KeptReply a)) after t =
    (b : ServiceReply) × (result : Result (Unit {0}) AddError) × (after ≡ Some (KeptReply b))
    × AddsTo section r a b result × (t ≡ added_status result)
AddsHeld section r before after t = (t ≡ NoHandle) × (after ≡ before)

abbrev pub AddsBy : Option Section → Result ResourceRecord Status → Option HandleValue → Option HandleValue → Status → Type 0
AddsBy None r before after t = (t ≡ OutOfRange) × (after ≡ before)
AddsBy (Some section) (Err u) before after t = (t ≡ u) × (after ≡ before)
AddsBy (Some section) (Ok r) before after t = AddsHeld section r before after t

-- an option is added to the reply that a handle holds
abbrev pub AddsOption : ℕ → List ℕ → Option HandleValue → Option HandleValue → Status → Type 0
AddsOption code d (Some (KeptReply a)) after t =
    (b : ServiceReply) × (result : Result (Unit {0}) AddError) × (after ≡ Some (KeptReply b))
    × AddsOptionTo code d a b result × (t ≡ added_status result)
AddsOption code d before after t = (t ≡ NoHandle) × (after ≡ before)

-- a reply is sent as its rule rewrites it, or as it was rewritten before
abbrev pub ShowsReply : Option Built → List ℕ → List ℕ → ℕ → ℕ → Status → Type 0
ShowsReply (Some m) before after len len' t = PutsReply m.message before after len' t
ShowsReply None before after len len' t = (t ≡ NoMemory) × Unwritten before after len len'

unfoldable pub WritesReply : ReplyRule → ServiceReply → ServiceReply → List ℕ → List ℕ → ℕ → ℕ → Status → Type 0
WritesReply rule a b before after len len' t = (result : Result (Unit {0}) NoneLeft) × RewritesTo rule a b result
    × ShowsReply (rewritten_in b) before after len len' t

abbrev pub WritesBy : ReplyRule → Option HandleValue → Option HandleValue → List ℕ → List ℕ → ℕ → ℕ → Status → Type 0
WritesBy rule (Some (KeptReply a)) kept before after len len' t = (b : ServiceReply) × (kept ≡ Some (KeptReply b))
    × WritesReply rule a b before after len len' t
WritesBy rule held kept before after len len' t = (t ≡ NoHandle) × (kept ≡ held) × Unwritten before after len len'

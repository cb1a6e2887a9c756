-- A reply as its service holds it from call to call.
use Rattle.std.specs.Prelude.{ℕ, ◌≡◌, ◌<◌, Bool, List, length, Option, Some, None, Result, Ok, Err}
use Rattle.dns_base.specs.declared.draft.Section.{Section}
use Rattle.dns_base.specs.Built.{Built}
use Rattle.dns_base.specs.Msg.{ResourceRecord}
use Rattle.dns_name.specs.declared.error.OutOfMemory.{OutOfMemory}
use Rattle.dns_embed.specs.declared.rule.ReplyRule.{ReplyRule}
use Rattle.dns_embed.specs.Embedded.{rewrite_by}
use Rattle.dns_reply_builder.specs.declared.reply_builder.AddError.{AddError}
use Rattle.dns_reply_builder.specs.declared.reply_builder.AddError.TheVariants.{Order}
use Rattle.dns_reply_builder.specs.declared.reply_builder.ReplyBuilder.{ReplyBuilder}
use Rattle.dns_reply_builder.specs.declared.service_reply.ServiceReply.{ServiceReply}
use Rattle.dns_reply_builder.specs.declared.service_reply.ServiceReply.TheVariants.{Begun, Rewritten, Lost}
use Rattle.dns_reply_builder.specs.Replying.{AddsRecord, OptionAdded, begun_to, built_of, stage_of, stage_onward}

-- none exactly to fewer octets than a header has
abbrev pub BeginsReply : List ℕ → ℕ → Bool → Option ServiceReply → Type 0
BeginsReply o rcode aa None = length o < 12
BeginsReply o rcode aa (Some reply) = (b : ReplyBuilder) × (reply ≡ Begun b) × (built_of b ≡ begun_to o rcode aa) × (stage_of b ≡ 0)

-- a record is added to a reply that wasn't rewritten
abbrev pub AddsTo : Section → ResourceRecord → ServiceReply → ServiceReply → Result (Unit {0}) AddError → Type 0
AddsTo section r (Begun b) after result = (c : ReplyBuilder) × (after ≡ Begun c) × (stage_of c ≡ stage_onward section b)
    × AddsRecord section r (built_of b) (stage_onward section b) (built_of c) result
AddsTo section r (Rewritten m) after result = (result ≡ Err Order) × (after ≡ Rewritten m)
AddsTo section r Lost after result = (result ≡ Err Order) × (after ≡ Lost)

-- an option is added to a reply that wasn't rewritten
abbrev pub AddsOptionTo : ℕ → List ℕ → ServiceReply → ServiceReply → Result (Unit {0}) AddError → Type 0
AddsOptionTo code d (Begun b) after result = (c : ReplyBuilder) × (after ≡ Begun c) × (stage_of c ≡ 2)
    × OptionAdded code d (built_of b) (built_of c) result
AddsOptionTo code d (Rewritten m) after result = (result ≡ Err Order) × (after ≡ Rewritten m)
AddsOptionTo code d Lost after result = (result ≡ Err Order) × (after ≡ Lost)

-- a reply is rewritten once, or lost
abbrev pub RewritesTo : ReplyRule → ServiceReply → ServiceReply → Result (Unit {0}) OutOfMemory → Type 0
RewritesTo rule (Begun b) after (Ok u) = (m : Built) × (after ≡ Rewritten m) × (m.message ≡ rewrite_by rule (built_of b).message)
RewritesTo rule (Begun b) after (Err e) = after ≡ Lost
RewritesTo rule (Rewritten m) after (Ok u) = after ≡ Rewritten m
RewritesTo rule (Rewritten m) after (Err e) = ⊥
RewritesTo rule Lost after (Ok u) = ⊥
RewritesTo rule Lost after (Err e) = after ≡ Lost

-- what is sent, once it was rewritten
abbrev pub rewritten_in : ServiceReply → Option Built
rewritten_in (Rewritten m) = Some m
rewritten_in (Begun b) = None
rewritten_in Lost = None

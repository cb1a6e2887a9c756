-- Parts of a call of a cache.
use Rattle.std.specs.Prelude.{ℕ, ◌≡◌, ◌≤◌, ◌-◌, length, Option, Some, None, Result, Ok, Err, if◌then◌else◌}
use Rattle.std.specs.Map.{lookup}
use Rattle.dns_name.specs.declared.error.ParseError.{ParseError}
use Rattle.dns_base.specs.Built.{Built}
use Rattle.dns_base.specs.Msg.{Msg}
use Rattle.dns_base.specs.Wire.{wire}
use Rattle.dns_route.specs.ReplyMessage.{ReplyState, reply_message}
use Rattle.dns_cache.specs.AskedCache.{Cached, KeptReply, bare_octets, is_young, with_used}
use Rattle.dns_cache.specs.Keys.{AskedKey, same_key}

-- the age in s at a request's seconds, if the reply is young
abbrev pub age_of : KeptReply → ℕ → Option ℕ
age_of e secs = if is_young e secs then Some (secs - e.secs) else None

-- a reply is given whose built message this is, of its octets without the OPT record, and none if there is none
abbrev pub GivesMessage : Option Msg → Option ReplyState → Type 0
GivesMessage None None = Unit {0}
GivesMessage None (Some reply) = ⊥
GivesMessage (Some m) None = ⊥
GivesMessage (Some m) (Some reply) = (reply_message reply ≡ Ok m) × (reply.octets ≡ bare_octets m)

-- a message of at most 65,535 octets is read
abbrev pub ComposesShort : Result Msg ParseError → Type 0
ComposesShort (Ok m) = length (wire m) ≤ 65535
ComposesShort (Err e) = ⊥

-- a message is given, built, and none if there is none
abbrev pub GivesBuilt : Option Msg → Option Built → Type 0
GivesBuilt None None = Unit {0}
GivesBuilt None (Some b) = ⊥
GivesBuilt (Some m) None = ⊥
GivesBuilt (Some m) (Some b) = b.message ≡ m

-- the entry of a key comes first if a reply of it was given
abbrev pub used_where : {A : Type 0} → Option A → AskedKey → Cached → Cached
used_where None key c = c
used_where (Some given) key c = with_used key c (lookup (same_key key) c.entries)

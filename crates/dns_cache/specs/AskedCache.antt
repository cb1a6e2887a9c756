-- A bounded cache of replies in front of a service (RFC 1034, section 5.3.3; RFC 1035, section 7.4; RFC 2308, section 5).
use Rattle.std.specs.Prelude.{ℕ, ◌≡◌, ◌≤◌, ◌-◌, ◌+◌, ◌*◌, ◌&&◌, ◌||◌, Bool, false, not, List, [], ◌∷◌, length, take, nat_eq, nat_lt, nat_le, if◌then◌else◌, Option, Some, None, is_some, option_and_then, Result, Ok, Err, is_ok}
use Rattle.std.specs.Map.{lookup, remove_entry}
use Rattle.dns_name.specs.declared.error.ParseError.{ParseError}
use Rattle.dns_base.specs.Msg.{Msg}
use Rattle.dns_base.specs.Replaced.{other_than}
use Rattle.dns_base.specs.Wire.{wire}
use Rattle.dns_opt.specs.OptRecords.{OptState}
use Rattle.dns_opt.specs.Reopened.{opt_among}
use Rattle.dns_service.specs.Config.{in_range}
use Rattle.dns_service.specs.Copied.{copied}
use Rattle.dns_service.specs.Req.{Req}
use Rattle.dns_service.specs.declared.service.Polled.TheVariants.{Pending, Ready}
use Rattle.dns_route.specs.ReplyMessage.{ReplyState, reply_message}
use Rattle.dns_route.specs.Turns.{TurnAnswer}
use Rattle.lru.specs.LruCache.{LruCache, lru_cache}
use Rattle.dns_cache.specs.Aged.{aged}
use Rattle.dns_cache.specs.Keys.{AskedKey, key_of, same_key}
use Rattle.dns_cache.specs.Ttls.{least_ttl}

-- a reply that is kept: the seconds of its request, and the message that is built of it
pub record KeptReply : Type 0 where
  pub secs : ℕ
  pub message : Msg

-- the entries, the most recently used first, and how many there may be
abbrev pub Cached : Type 0
Cached = LruCache AskedKey KeptReply

-- an empty cache of that many replies at most, within 1 to 65,536
abbrev pub empty_cache : ℕ → Cached
empty_cache capacity = lru_cache [] (in_range 1 65536 capacity)

-- ---- which message can be kept

-- the response code with its upper eight bits in the OPT record (RFC 6891, section 6.1.3)
abbrev pub extended_code : Option OptState → ℕ
extended_code None = 0
extended_code (Some s) = s.head.ext

abbrev pub response_code : Msg → ℕ
response_code m = 16 * extended_code (opt_among m.additional) + m.header.rcode

-- a message of at most 65,535 octets (RFC 1035, section 4.2.2)
abbrev pub fits_frame : Msg → Bool
fits_frame m = nat_le (length (wire m)) 65535

-- NOERROR or NXDOMAIN (RFC 2308, section 2)
abbrev pub has_code : Msg → Bool
has_code m = nat_eq (response_code m) 0 || nat_eq (response_code m) 3

-- a message of such a code that isn't truncated (RFC 2181, section 9)
abbrev pub is_whole : Msg → Bool
is_whole m = not m.header.tc && has_code m

-- such a message, each of whose records may be kept for some time, and that has one
abbrev pub may_keep : Msg → Bool
may_keep m = is_whole m && nat_lt 0 (least_ttl m)

-- a message that fits and is readable, all its sections and data
abbrev pub comes_back : Msg → Bool
comes_back m = fits_frame m && is_ok (copied (wire m))

-- a message that can be kept for a request's octets: one that comes back at age 0
abbrev pub can_keep : Msg → List ℕ → Bool
can_keep m request = may_keep m && comes_back (aged m request 0)

-- the message that a reply is, if it can be built
abbrev pub built_message : Result Msg ParseError → Option Msg
built_message (Ok m) = if fits_frame m then Some m else None
built_message (Err e) = None

abbrev pub where_kept : Req (Unit {0}) → Msg → Option KeptReply
where_kept r m = if can_keep m r.octets then Some (record { secs = r.received_secs; message = m }) else None

-- what is kept of a reply to a request, if anything
abbrev pub kept_reply : Req (Unit {0}) → ReplyState → Option KeptReply
kept_reply r reply = option_and_then (where_kept r) (built_message (reply_message reply))

abbrev pub kept_answer : Req (Unit {0}) → TurnAnswer → Option KeptReply
kept_answer r (Ready (Ok reply)) = kept_reply r reply
kept_answer r (Ready (Err e)) = None
kept_answer r Pending = None

-- ---- which entry is used

-- the message of a reply that is kept, as a request gets it
abbrev pub aged_for : KeptReply → Req (Unit {0}) → Msg
aged_for e r = aged e.message r.octets (r.received_secs - e.secs)

-- a reply is young at a request's seconds: it isn't of later seconds, and its age is below its least TTL
abbrev pub is_young : KeptReply → ℕ → Bool
is_young e secs = nat_le e.secs secs && nat_lt (secs - e.secs) (least_ttl e.message)

abbrev pub young_message : Req (Unit {0}) → KeptReply → Option Msg
young_message r e = if is_young e r.received_secs && fits_frame (aged_for e r) then Some (aged_for e r) else None

-- ---- what a call does

-- the message that a call takes out of the cache: none if it isn't the first, or no young entry has the key
abbrev pub cached_message : Cached → Req (Unit {0}) → ℕ → Option AskedKey → Option Msg
cached_message c r k None = None
cached_message c r k (Some key) = if nat_eq k 0 then option_and_then (young_message r) (lookup (same_key key) c.entries) else None

-- the entry of a key comes first, if there is one
abbrev pub with_used : AskedKey → Cached → Option KeptReply → Cached
with_used key c None = c
with_used key c (Some e) = lru_cache ((key, e) ∷ remove_entry (same_key key) c.entries) c.cap

-- an older entry of the key goes, the new one comes first, and past the capacity the last one goes
abbrev pub with_kept : AskedKey → Cached → Option KeptReply → Cached
with_kept key c None = c
with_kept key c (Some e) = lru_cache (take c.cap ((key, e) ∷ remove_entry (same_key key) c.entries)) c.cap

-- the cache after a call, if a message was taken out of it, or not
abbrev pub behind_call : Cached → Req (Unit {0}) → TurnAnswer → Option AskedKey → Option Msg → Cached
behind_call c r answer None cached = c
behind_call c r answer (Some key) (Some m) = with_used key c (lookup (same_key key) c.entries)
behind_call c r answer (Some key) None = with_kept key c (kept_answer r answer)

-- whether a reply is kept under a key
abbrev pub has_entry : Cached → Option AskedKey → Bool
has_entry c None = false
has_entry c (Some key) = is_some (lookup (same_key key) c.entries)

-- the cache without the entry of a key
abbrev pub without_entry : Cached → Option AskedKey → Cached
without_entry c None = c
without_entry c (Some key) = lru_cache (remove_entry (same_key key) c.entries) c.cap

-- a call's message out of the cache, and the cache after it. If there is no such message, the service's answer is given.
pub record AskedCache : Type 0 where
  pub cached : Option Msg
  pub behind : Cached

abbrev pub asked_cache : Cached → Req (Unit {0}) → ℕ → TurnAnswer → AskedCache
asked_cache c r k answer = record {
  cached = cached_message c r k (key_of r.octets);
  behind = behind_call c r answer (key_of r.octets) (cached_message c r k (key_of r.octets));
}

-- the octets of a message without its OPT record, names uncompressed
abbrev pub bare_octets : Msg → List ℕ
bare_octets m = wire (record m { additional = other_than 41 m.additional })

-- a reply whose built message this is, of its octets without the OPT record; or the service's answer
abbrev pub AnswersCached : Option Msg → TurnAnswer → TurnAnswer → Type 0
AnswersCached None answer result = result ≡ answer
AnswersCached (Some m) answer result = (reply : ReplyState) × (result ≡ Ready (Ok reply)) × (reply_message reply ≡ Ok m)
    × (length (wire m) ≤ 65535) × (reply.octets ≡ bare_octets m)

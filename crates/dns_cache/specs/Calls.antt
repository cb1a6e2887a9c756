-- Lists of calls that all hand in one service, and what a reply out of the cache then is (RFC 2181, section 8: a TTL runs down in
-- the cache).
use Rattle.std.specs.Prelude.{ℕ, ◌≡◌, ◌≤◌, ◌<◌, ◌-◌, List, [], ◌∷◌, Contains, Ok}
use Rattle.dns_base.specs.Msg.{Msg}
use Rattle.dns_service.specs.Req.{Req}
use Rattle.dns_service.specs.declared.service.Polled.TheVariants.{Ready}
use Rattle.dns_route.specs.ReplyMessage.{ReplyState, reply_message}
use Rattle.dns_route.specs.Turns.{TurnAnswer}
use Rattle.lru.specs.LruCache.{lru_cache}
use Rattle.dns_cache.specs.Aged.{aged}
use Rattle.dns_cache.specs.AskedCache.{AskedCache, Cached, asked_cache}
use Rattle.dns_cache.specs.Keys.{key_of}
use Rattle.dns_cache.specs.Ttls.{least_ttl}

-- a call: its request and its number
pub record CacheCall : Type 0 where
  pub request : Req (Unit {0})
  pub k : ℕ

-- the answers of a service
abbrev pub TurnAnswers : Type 0
TurnAnswers = Req (Unit {0}) → ℕ → TurnAnswer

-- what a call does to a cache
abbrev pub called : TurnAnswers → Cached → CacheCall → AskedCache
called answer c call = asked_cache c call.request call.k (answer call.request call.k)

-- an empty cache after calls, the last call first
abbrev pub cache_behind : TurnAnswers → ℕ → List CacheCall → Cached
cache_behind answer capacity [] = lru_cache [] capacity
cache_behind answer capacity (call ∷ before) = (called answer (cache_behind answer capacity before) call).behind

-- A message is an earlier reply of the service to a request's question, younger than its least TTL, with every TTL lowered by
-- its age.
pub record IsEarlier (answer : TurnAnswers) (before : List CacheCall) (r : Req (Unit {0})) (m : Msg) : Type 0 where
  pub call : CacheCall
  pub made : Contains before call
  pub reply : ReplyState
  pub answered : answer call.request call.k ≡ Ready (Ok reply)
  pub message : Msg
  pub built : reply_message reply ≡ Ok message
  pub same : key_of call.request.octets ≡ key_of r.octets
  pub earlier : call.request.received_secs ≤ r.received_secs
  pub young : r.received_secs - call.request.received_secs < least_ttl message
  pub lowered : m ≡ aged message r.octets (r.received_secs - call.request.received_secs)

-- A cache behind the layers: what is answered out of it, and what it keeps (RFC 1035, section 7.4; RFC 2181, section 5.4).
use Rattle.std.specs.Prelude.{ℕ, List, [], ◌∷◌, Option, Some, None, Result, Ok}
use Rattle.dns_name.specs.declared.address.IpAddr.TheVariants.{V4}
use Rattle.dns_base.specs.Msg.{Msg}
use Rattle.dns_events.specs.declared.settings.Settings.{Settings}
use Rattle.dns_service.specs.Answer.{Answer, Item}
use Rattle.dns_service.specs.Req.{Req}
use Rattle.dns_service.specs.declared.message.TransportSpecificContext.TheVariants.{Udp}
use Rattle.dns_service.specs.declared.service.Polled.TheVariants.{Pending, Ready}
use Rattle.dns_route.specs.Relays.{relay_answer}
use Rattle.dns_route.specs.declared.send_request.SendError.{SendError}
use Rattle.dns_cache.specs.AskedCache.{AskedCache, Cached, asked_cache}
use Rattle.dns_fronts.specs.Layered.{asked_message, layered}

-- a request is asked of a cache over a service that has no answer yet
abbrev pub looked_up : Cached → Req (Unit {0}) → AskedCache
looked_up c r = asked_cache c r 0 Pending

-- an item that is a message
abbrev pub item_of : Msg → Item
item_of m = Ok (record { response = Some m; feedback = None })

abbrev pub young_item : Option Msg → Option Item
young_item None = None
young_item (Some m) = Some (item_of m)

-- the message out of the cache is given, if there is one, and else an item
abbrev pub young_or : Option Msg → Item → Item
young_or None i = i
young_or (Some m) i = item_of m

-- what is answered to a request if this item is given for it, and the message that is asked for it, if one is
abbrev pub cached_over : Settings → Cached → Item → Req (Unit {0}) → ℕ → Answer
cached_over s c i r = layered s (young_or (looked_up c r).cached i) r

abbrev pub unless_young : Option Msg → Option (List ℕ) → Option (List ℕ)
unless_young None message = message
unless_young (Some m) message = None

abbrev pub cached_asks : Settings → Cached → Req (Unit {0}) → Option (List ℕ)
cached_asks s c r = unless_young (looked_up c r).cached (asked_message s r)

-- the cache after a request that was taken: it is asked for one that is passed on and can be sent
abbrev pub taken_by : Option (List ℕ) → Cached → Cached → Cached
taken_by None c behind = c
taken_by (Some message) c behind = behind

abbrev pub cache_taken : Settings → Cached → Req (Unit {0}) → Cached
cache_taken s c r = taken_by (asked_message s r) c (looked_up c r).behind

-- octets that are a request at these seconds
abbrev pub request_at : List ℕ → ℕ → Req (Unit {0})
request_at o secs = record {
  octets = o;
  client_addr = record { ip = V4 (0 ∷ 0 ∷ 0 ∷ 0 ∷ []); port = 0 };
  received_at = 0;
  received_secs = secs;
  transport = Udp None;
  reserved = 0;
  metadata = tt;
}

-- a cache after an upstream's answer to a request, of which the reply is kept if it can be
abbrev pub cache_given : Cached → List ℕ → ℕ → Result (List ℕ) SendError → Cached
cache_given c o secs r = (asked_cache c (request_at o secs) 1 (relay_answer o (Ready r))).behind

-- When a query stands for what is asked, and what its events lead to.
use Rattle.std.specs.Prelude.{◌≡◌, ℕ, List, [], Option, Some, None, option_map, Result, if◌then◌else◌}
use Rattle.dns_base.specs.Msg.{Msg}
use Rattle.dns_base.specs.Wire.{wire}
use Rattle.dns_events.specs.Config.{Dgram}
use Rattle.dns_layers.specs.Rewritten.{rewritten}
use Rattle.dns_service.specs.Answer.{Item}
use Rattle.dns_service.specs.Req.{Req}
use Rattle.dns_service.specs.declared.service.Polled.TheVariants.{Pending, Ready}
use Rattle.dns_session.specs.Datagrams.{asks_nothing}
use Rattle.dns_session.specs.Turns.{reply_to}
use Rattle.dns_route.specs.declared.send_request.SendError.{SendError}
use Rattle.dns_lookup.specs.declared.lookup_event.LookupEvent.{LookupEvent}
use Rattle.dns_lookup.specs.declared.lookup_event.LookupOutcome.{LookupOutcome}
use Rattle.dns_lookup.specs.declared.lookup_event.LookupOutcome.TheVariants as Led_to
use Rattle.dns_lookup.specs.declared.lookup_event.UpstreamConfig.{UpstreamConfig}
use Rattle.dns_forward.specs.Matching.{with_id}
use Rattle.dns_lookup.specs.Lookups.{InDatagrams}
use Rattle.dns_lookup.specs.Stages.{IsAt}
use Rattle.dns_proxy.specs.declared.query_event.ClientMessage.{ClientMessage}
use Rattle.dns_proxy.specs.declared.query_event.QueryOutcome.{QueryOutcome}
use Rattle.dns_proxy.specs.declared.query_event.QueryOutcome.TheVariants.{Nothing, Send, Connect, Reply}
use Rattle.dns_proxy.specs.declared.query.Query.{Query}
use Rattle.dns_proxy.specs.declared.beginning.BegunQuery.{BegunQuery}
use Rattle.dns_proxy.specs.declared.beginning.BegunQuery.TheVariants.{Sent, Short, Asks}
use Rattle.dns_proxy.specs.declared.beginning.PassedQuery.{PassedQuery}
use Rattle.dns_proxy.specs.declared.beginning.TakenMessage.{TakenMessage}
use Rattle.dns_proxy.specs.declared.beginning.TakenMessage.TheVariants as Taken_as
use Rattle.dns_proxy.specs.Coming.{closed_by, message_of, outputs_to, request_of}
use Rattle.dns_proxy.specs.Fronts.{Fronting}
use Rattle.dns_proxy.specs.Proxied.{Asked, answer_of, asked_for, came_to, outcome_after, sent, sent_over, subject, with_event}

-- the octets that are sent for an item
abbrev pub replied : Option ℕ → List ℕ → Item → Option (List ℕ)
replied n o i = option_map wire (reply_to n o (Ready (Some i)))

-- an upstream is asked for a query of a client that was passed on
abbrev pub IsAsked : {R : Type 0} → PassedQuery R → UpstreamConfig → ℕ → BegunQuery R → Type 0
IsAsked p u id (Sent o) = ⊥
IsAsked p u id Short = ⊥
IsAsked p u id (Asks q octets) =
    (q.client ≡ p.client) × (q.request ≡ p.request) × (q.limit ≡ p.limit) × (q.rule ≡ p.rule)
    × IsAt (record { upstream = u; message = p.message; id = id; at = p.request.received_at }) (InDatagrams []) q.lookup
    × (octets ≡ with_id id p.message)

-- what stood before the upstreams is, after an event of what is asked, what it is once the answer was given, if there is one
abbrev pub front_by : {F : Type 0} → (F → List ℕ → ℕ → Result (List ℕ) SendError → F) → ClientMessage → F → LookupOutcome → F
front_by after_give c front Led_to.Nothing = front
front_by after_give c front (Led_to.Send o) = front
front_by after_give c front (Led_to.Connect o) = front
front_by after_give c front (Led_to.Answer r) = after_give front (message_of c) c.secs r

abbrev pub FrontAfter : {F : Type 0} → (F → List ℕ → ℕ → Result (List ℕ) SendError → F) → Asked → LookupEvent → F → F → Type 0
FrontAfter after_give a e old new = new ≡ front_by after_give a.came old (outcome_after a e)

module _ {R : Type 0} (rewriting : R → Msg → Msg) where
  -- what is kept of a message for which an upstream is asked: its lookup has no answer yet, and whatever is given, its reply is that of
  -- its exchange
  pub record Stands (q : Query R) (a : Asked) : Type 0 where
    pub client : q.client ≡ a.came.client
    pub octets : q.request.octets ≡ message_of a.came
    pub secs : q.request.received_secs ≡ a.came.secs
    pub lookup : IsAt (subject a) (came_to a) q.lookup
    pub waits : answer_of a ≡ Pending
    pub replies : (i : Item) → outputs_to a.came (replied q.limit (message_of a.came) (rewritten (rewriting q.rule) i))
        ≡ sent_over a.front a.dgram a.came i

  -- a message is answered at once, whatever would be given; or it is shorter than a header; or an upstream is asked for it
  abbrev pub Begins : Fronting → Dgram → ClientMessage → UpstreamConfig → ℕ → BegunQuery R → Type 0
  Begins f dgram c u id (Sent o) = (asked_for f dgram c ≡ None) × ((i : Item) → outputs_to c o ≡ sent_over f dgram c i)
  Begins f dgram c u id Short = (asked_for f dgram c ≡ None) × ((i : Item) → closed_by c.transport c.client ≡ sent_over f dgram c i)
  Begins f dgram c u id (Asks q octets) = (m : List ℕ) × (asked_for f dgram c ≡ Some m) × (octets ≡ with_id id m)
      × Stands q (record { front = f; dgram = dgram; came = c; upstream = u; message = m; id = id; events = [] })

  -- a message begins so, whichever upstream is asked for it under whichever identifier
  abbrev pub Takes : Fronting → Dgram → ClientMessage → TakenMessage R → Type 0
  Takes f dgram c (Taken_as.Sent o) = (u : UpstreamConfig) (id : ℕ) → Begins f dgram c u id (Sent o)
  Takes f dgram c Taken_as.Short = (u : UpstreamConfig) (id : ℕ) → Begins f dgram c u id Short
  Takes f dgram c (Taken_as.Passed p) = (u : UpstreamConfig) (id : ℕ) (b : BegunQuery R) → IsAsked p u id b → Begins f dgram c u id b

-- what an event leads to, by what the lookup says: the upstream is sent that, or a connection to it is opened, and this is kept; or the
-- client is sent all that it is sent, and nothing is kept
abbrev pub GoesBy : (List ℕ → Result (List ℕ) SendError → Item) → Asked → Type 0 → Type 0 → LookupOutcome → QueryOutcome → Type 0
GoesBy given a kept gone Led_to.Nothing t = (t ≡ Nothing) × kept
GoesBy given a kept gone (Led_to.Send o) t = (t ≡ Send o) × kept
GoesBy given a kept gone (Led_to.Connect o) t = (t ≡ Connect o) × kept
GoesBy given a kept gone (Led_to.Answer r) t = (o : Option (List ℕ)) × (t ≡ Reply o) × (outputs_to a.came o ≡ sent given a) × gone

-- what an event after the others does to the query that stands for what is asked
abbrev pub Goes : {R : Type 0} → (R → Msg → Msg) → (List ℕ → Result (List ℕ) SendError → Item) → Asked
    → LookupEvent → QueryOutcome → Query R → Type 0
Goes rewriting given a e t q =
    GoesBy given (with_event a e) (Stands rewriting q (with_event a e)) (Unit {0}) (outcome_after a e) t

-- what stood before the upstreams is, once a message was taken that makes a request
abbrev pub front_taken : {F : Type 0} → (F → Req (Unit {0}) → F) → Dgram → ClientMessage → F → F
front_taken after_take dgram c front = if asks_nothing (message_of c) then front else after_take front (request_of dgram c)

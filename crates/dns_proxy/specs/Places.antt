-- The places of a proxy: at each a query, or none.
use Rattle.std.specs.Prelude.{◌≡◌, ◌≢◌, ◌≤◌, ℕ, List, [], Bool, true, false, Option, Some, None, Result, Err}
use Rattle.std.specs.Prelude.{length, slice_get, option_and_then}
use Rattle.dns_base.specs.Msg.{Msg}
use Rattle.dns_events.specs.Config.{Dgram}
use Rattle.dns_service.specs.Answer.{Item}
use Rattle.dns_service.specs.Req.{Req}
use Rattle.dns_service.specs.declared.service.Polled.TheVariants.{Ready}
use Rattle.dns_forward.specs.Matching.{with_id}
use Rattle.dns_route.specs.declared.send_request.SendError.{SendError}
use Rattle.dns_route.specs.declared.send_request.SendError.TheVariants.{Unreachable}
use Rattle.dns_lookup.specs.declared.lookup_event.LookupEvent.{LookupEvent}
use Rattle.dns_lookup.specs.declared.lookup_event.UpstreamConfig.{UpstreamConfig}
use Rattle.dns_proxy.specs.declared.query_event.ClientMessage.{ClientMessage}
use Rattle.dns_proxy.specs.declared.query_event.QueryOutcome.{QueryOutcome}
use Rattle.dns_proxy.specs.declared.query_event.QueryOutcome.TheVariants.{Nothing, Send, Connect, Reply}
use Rattle.dns_proxy.specs.declared.query.Query.{Query}
use Rattle.dns_proxy.specs.declared.proxy.Started.{Started}
use Rattle.dns_proxy.specs.declared.proxy.Started.TheVariants.{Sent, Short, Full, Asks}
use Rattle.dns_proxy.specs.declared.proxy.WhenFull.{WhenFull}
use Rattle.dns_proxy.specs.declared.proxy.WhenFull.TheVariants.{Fail, Wait}
use Rattle.dns_proxy.specs.Coming.{closed_by, message_of, outputs_to}
use Rattle.dns_proxy.specs.Fronts.{Fronting}
use Rattle.dns_proxy.specs.Proxied.{Asked, asked_for, due_of, outcome_after, sent_for, sent_over, with_event}
use Rattle.dns_proxy.specs.Queries.{GoesBy, Stands, front_by, front_taken}

-- the query at a place
abbrev pub kept_at : {Q : Type 0} → ℕ → List (Option Q) → Option Q
kept_at k qs = option_and_then (λ q. q) (slice_get qs k)

-- each place has the query that it had
abbrev pub IsSame : {Q : Type 0} → List (Option Q) → List (Option Q) → Type 0
IsSame before after = (k : ℕ) → kept_at k after ≡ kept_at k before

-- as many places as there may be are there, and none is free
abbrev pub IsFull : {Q : Type 0} → ℕ → List (Option Q) → Type 0
IsFull bound qs = (bound ≤ length qs) × ((k : ℕ) → slice_get qs k ≡ Some None → ⊥)

abbrev pub ends : QueryOutcome → Bool
ends (Reply o) = true
ends Nothing = false
ends (Send o) = false
ends (Connect o) = false

-- when a tick of what is asked at a place is due, if anything is asked there
abbrev pub due_there : Option Asked → Option ℕ
due_there None = None
due_there (Some a) = due_of a

-- what stood before the upstreams is, after an event of what is asked at a place, if anything is
abbrev pub front_at : {F : Type 0} → (F → List ℕ → ℕ → Result (List ℕ) SendError → F) → Option Asked → LookupEvent → F → F
front_at after_give None e front = front
front_at after_give (Some a) e front = front_by after_give a.came front (outcome_after a e)

module _ {R : Type 0} (rewriting : R → Msg → Msg) where
  -- the query at a place stands for what is asked there
  abbrev pub StandsAt : Option (Query R) → Option Asked → Type 0
  StandsAt None None = Unit {0}
  StandsAt None (Some a) = ⊥
  StandsAt (Some q) None = ⊥
  StandsAt (Some q) (Some a) = Stands rewriting q a

  module _ (given : List ℕ → Result (List ℕ) SendError → Item) where
    -- what an event at a place leads to, and what is kept there then
    abbrev pub GoesAt : Option Asked → LookupEvent → QueryOutcome → Option (Query R) → Type 0
    GoesAt None e t p = StandsAt p None × (t ≡ Nothing)
    GoesAt (Some a) e t p = GoesBy given (with_event a e) (StandsAt p (Some (with_event a e))) (StandsAt p None) (outcome_after a e) t

    module _ {F : Type 0} (after_give : F → List ℕ → ℕ → Result (List ℕ) SendError → F) where
      -- a query whose upstream is sent these octets takes a place that was free, and no other changes; or, if none is free, its
      -- client is sent what it is sent if no upstream can be reached; or, if it is to wait, nothing is kept of it
      abbrev pub Enters : ℕ → WhenFull → Asked → List ℕ → F → List (Option (Query R)) → Started → F → List (Option (Query R)) → Type 0
      Enters bound when a octets front before (Sent o) new after = (when ≡ Fail) × IsFull bound before × IsSame before after
          × (outputs_to a.came o ≡ sent_for given a.front a.dgram a.came (Ready (Err Unreachable)))
          × (new ≡ after_give front (message_of a.came) a.came.secs (Err Unreachable))
      Enters bound when a octets front before Short new after = ⊥
      Enters bound when a octets front before Full new after = (when ≡ Wait) × IsFull bound before × IsSame before after × (new ≡ front)
      Enters bound when a octets front before (Asks place o) new after = (o ≡ octets) × (kept_at place before ≡ None)
          × StandsAt (kept_at place after) (Some a) × ((k : ℕ) → k ≢ place → kept_at k after ≡ kept_at k before)
          × (new ≡ front)

      -- no upstream is asked, and the client is sent what it is whatever would be given
      abbrev pub IsAnswered : Fronting → Dgram → ClientMessage → F → List (Option (Query R)) → Started
          → F → List (Option (Query R)) → Type 0
      IsAnswered f dgram c front before (Sent o) new after = IsSame before after × ((i : Item) → outputs_to c o ≡ sent_over f dgram c i)
          × (new ≡ front)
      IsAnswered f dgram c front before Short new after = IsSame before after
          × ((i : Item) → closed_by c.transport c.client ≡ sent_over f dgram c i)
          × (new ≡ front)
      IsAnswered f dgram c front before Full new after = ⊥
      IsAnswered f dgram c front before (Asks place o) new after = ⊥

      -- how a message starts, by the message that is asked for it, if one is
      abbrev pub StartsBy : Option (List ℕ) → ℕ → WhenFull → Fronting → Dgram → ClientMessage → UpstreamConfig → ℕ
          → F → List (Option (Query R)) → Started → F → List (Option (Query R)) → Type 0
      StartsBy None bound when f dgram c u id front before s new after = IsAnswered f dgram c front before s new after
      StartsBy (Some m) bound when f dgram c u id front before s new after =
          let a : Asked = record { front = f; dgram = dgram; came = c; upstream = u; message = m; id = id; events = [] } in
          Enters bound when a (with_id id m) front before s new after

      abbrev pub Starts : (F → Req (Unit {0}) → F) → ℕ → WhenFull → Fronting → Dgram → ClientMessage → UpstreamConfig → ℕ
          → F → List (Option (Query R)) → Started → F → List (Option (Query R)) → Type 0
      Starts after_take bound when f dgram c u id front before s new after =
          StartsBy (asked_for f dgram c) bound when f dgram c u id (front_taken after_take dgram c front) before s new after

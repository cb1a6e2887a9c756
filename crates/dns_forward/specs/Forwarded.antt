-- What a forwarder answers: the request goes to the upstream that is chosen for its question's name, and the reply is made of
-- its answer (RFC 1034, section 4.3.1; RFC 1035, section 7).
use Rattle.std.specs.Prelude.{ℕ, ◌≡◌, List, map}
use Rattle.dns_service.specs.Req.{Req}
use Rattle.dns_route.specs.Relays.{SentAnswer, relayed}
use Rattle.dns_route.specs.RequestMessage.{RequestState}
use Rattle.dns_route.specs.Routes.{Route, routed}
use Rattle.dns_route.specs.Turns.{TurnAnswer}

-- an upstream: what it answers to a request, if it is asked for it at a number
abbrev pub Upstream : Type 0
Upstream = RequestState → ℕ → SentAnswer

-- what a single service answers
abbrev pub SingleAnswers : Type 0
SingleAnswers = Req (Unit {0}) → ℕ → TurnAnswer

-- names, and what is answered under them
abbrev pub answered_under : {S : Type 0} → (S → SingleAnswers) → List (Route S) → List (Route SingleAnswers)
answered_under {S} answer rs = map (λ (r : Route S). (r.0, answer r.1)) rs

-- the answer by the upstream that is chosen
abbrev pub forwarded : List (Route Upstream) → SingleAnswers
forwarded us = routed relayed us

-- names and services that stand for upstreams under these names: they answer as those are relayed, and a router of them so too
pub record Forwards {S : Type 0} (answer : S → SingleAnswers) (us : List (Route Upstream)) (rs : List (Route S)) : Type 0 where
  pub relays : answered_under answer rs ≡ answered_under relayed us
  pub answers : routed answer rs ≡ forwarded us

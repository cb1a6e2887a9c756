-- What a router answers: the service that is chosen by the name of the question has the request.
use Rattle.std.specs.Prelude.{ℕ, List, Option, Some, None, Ok}
use Rattle.dns_base.specs.Sections.{first_of, questions_of}
use Rattle.dns_message.specs.declared.question.Question.{Question}
use Rattle.dns_service.specs.Req.{Req}
use Rattle.dns_service.specs.declared.service.Polled.TheVariants.{Ready}
pub use Rattle.dns_routes.specs.Routes.{Route, ends_name, matching, most_labels, of_labels, chosen_route, chosen}
use Rattle.dns_route.specs.OwnReplies.{error_state, explained, no_upstream}
use Rattle.dns_route.specs.Turns.{TurnAnswer}

-- the answer of the service that is chosen; without one it is SERVFAIL, which says so
abbrev pub served_by : {S : Type 0} → (S → Req (Unit {0}) → ℕ → TurnAnswer) → Req (Unit {0}) → ℕ → Option S → TurnAnswer
served_by answer r k None = Ready (Ok (explained r.octets no_upstream))
served_by answer r k (Some s) = answer s r k

-- the answer by the first question; without a readable one it is FORMERR
abbrev pub routed_by : {S : Type 0} → (S → Req (Unit {0}) → ℕ → TurnAnswer) → List (Route S) → Req (Unit {0}) → ℕ → Option Question
    → TurnAnswer
routed_by answer rs r k None = Ready (Ok (error_state r.octets 1))
routed_by answer rs r k (Some q) = served_by answer r k (chosen q.qname rs)

abbrev pub routed : {S : Type 0} → (S → Req (Unit {0}) → ℕ → TurnAnswer) → List (Route S) → Req (Unit {0}) → ℕ → TurnAnswer
routed answer rs r k = routed_by answer rs r k (first_of (questions_of r.octets).0)

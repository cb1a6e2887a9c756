-- What a closure has to answer that a service is made of.
use Rattle.std.specs.Prelude.{ℕ}
use Rattle.dns_service.specs.Req.{Req}
use Rattle.dns_service.specs.Answer.{Item, Answer}
use Rattle.dns_service.specs.Once.{once}

-- the item of a request, once
abbrev pub answers_once : {Metadata : Type 0} → (Req (Unit {0}) → Metadata → Item) → Metadata → Req (Unit {0}) → ℕ → Answer
answers_once item metadata r = once (item r metadata)

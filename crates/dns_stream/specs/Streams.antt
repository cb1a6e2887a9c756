-- What the streams of this crate answer to poll k, and what their size hints are, by those of what they hold.
use Rattle.std.specs.Prelude.{ℕ, ◌≡◌, Option, Result, Ok, Err}
use Rattle.dns_service.specs.declared.service.Polled.{Polled}
use Rattle.dns_service.specs.declared.service.Polled.TheVariants.{Pending, Ready}
use Rattle.dns_service.specs.Answer.{Item, Answer, mapped}
use Rattle.dns_service.specs.PolledRequest.{unknown_size}
use Rattle.dns_stream.specs.declared.middleware.MiddlewareStream.{MiddlewareStream}
use Rattle.dns_stream.specs.declared.middleware.MiddlewareStream.TheVariants.{IdentityFuture, IdentityStream, Map, Result as Own}

-- a middleware stream answers what it holds answers
abbrev pub middleware_answer : {F R M O : Type 0} → (F → ℕ → Answer) → (R → ℕ → Answer) → (M → ℕ → Answer) → (O → ℕ → Answer)
    → MiddlewareStream F R M O → ℕ → Answer
middleware_answer f r m o (IdentityFuture future) = f future
middleware_answer f r m o (IdentityStream stream) = r stream
middleware_answer f r m o (Map stream) = m stream
middleware_answer f r m o (Own stream) = o stream

abbrev pub middleware_size : {F R M O : Type 0} → (R → ℕ × Option ℕ) → (M → ℕ × Option ℕ) → (O → ℕ × Option ℕ)
    → MiddlewareStream F R M O → ℕ × Option ℕ
middleware_size r m o (IdentityFuture future) = unknown_size
middleware_size r m o (IdentityStream stream) = r stream
middleware_size r m o (Map stream) = m stream
middleware_size r m o (Own stream) = o stream

-- what a stream becomes and answers after a poll of its future: that of the future's stream if it is ready
abbrev pub Follows : {E F R M O : Type 0} → Result (Polled (R × Answer)) E → MiddlewareStream F R M O → MiddlewareStream F R M O
    → Result Answer E → Type 0
Follows (Ok Pending) old new result = (result ≡ Ok Pending) × (new ≡ old)
Follows (Ok (Ready p)) old new result = (result ≡ Ok p.1) × (new ≡ IdentityStream p.0)
Follows (Err e) old new result = result ≡ Err e

-- each answer with its item mapped once
abbrev pub each_mapped : (Item → Item) → (ℕ → Answer) → ℕ → Answer
each_mapped f answer k = mapped f (answer k)

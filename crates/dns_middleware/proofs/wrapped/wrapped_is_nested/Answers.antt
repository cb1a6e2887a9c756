-- The law, from the lemmas.
use Rattle.dns_middleware.proofs.Nested.{nested-replies, nested-hint}
use Rattle.dns_middleware.proofs.wrapped.wrapped_is_nested.Goals as goal

pub returns-clause-replies : goal.returns-clause-replies
returns-clause-replies c = nested-replies

pub returns-clause-hint : goal.returns-clause-hint
returns-clause-hint c = nested-hint

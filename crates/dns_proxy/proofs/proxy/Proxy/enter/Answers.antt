-- A query takes a free place, or its client is sent why not.
use Rattle.std.proofs.Common.{ap, sym, subst, ◌∙◌, Option, Some, refl}
use Rattle.dns_proxy.specs.declared.query.Query.{Query}
use Rattle.dns_proxy.specs.Places.{StandsAt}
use Rattle.dns_proxy.proofs.Placed.{free_so}
use Rattle.dns_proxy.proofs.proxy.Proxy.enter.Goals as goal

pub returns-in-Ok-Some-clause-entered : goal.returns-in-Ok-Some-clause-entered
returns-in-Ok-Some-clause-entered g c = λ a s. (
  refl,
  free_so _ _ c.in-Ok-Some.place _ _ c.in-Ok-Some.field-0-is c.in-Ok-Some.ensures.free (c.in-Ok-Some.ensures.kept c.in-Ok-Some.place),
  subst (λ (x : Option (Query _)). StandsAt g.F.Rule.Rewrite.rewriting x (Some a)) (sym c.put.ensures.here) s,
  (λ k n. c.put.ensures.others k n ∙ c.in-Ok-Some.ensures.kept k),
  ap (λ p. p.front) c.put.ensures.rest ∙ ap (λ p. p.front) c.in-Ok-Some.ensures.rest,
)

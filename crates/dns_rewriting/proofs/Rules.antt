-- What a rule makes of an answer that is pending.
use Rattle.std.proofs.Common.{◌≡◌, Option, Some, None, ap}
use Rattle.dns_service.specs.Msg.{Msg}
use Rattle.dns_service.specs.Answer.{Answer}
use Rattle.dns_service.specs.declared.service.Polled.TheVariants.{Pending}
use Rattle.dns_rewriting.specs.Rewritings.{by_rule}

pub by_rule_pending : {R : Type 0} → (rewriting : R → Msg → Msg) (rule : Option R) (a : Answer) → a ≡ Pending → by_rule rewriting rule a ≡ Pending
by_rule_pending rewriting None a e = e
by_rule_pending rewriting (Some rule) a e = ap (by_rule rewriting (Some rule)) e

use Rattle.std.proofs.Common.{List, subst}
use Rattle.std.specs.Prelude.{MatchResult}
use Rattle.dns_denial.specs.Chains.{IsChained}
use Rattle.dns_denial.specs.Checks.{Breaks}
use Rattle.dns_denial.specs.Nsecs.{NsecState}
use Rattle.dns_denial.proofs.chain.Chain.check.Goals as goal

pub returns : goal.returns
returns c = subst (λ (ns : List NsecState). MatchResult c.checked.result (λ u. IsChained c.args.zone.now ns) (λ e. Breaks c.args.zone.now ns e)) c.nsecs-nsecs.ensures.value c.checked.ensures

use Rattle.std.proofs.Common.{List, subst}
use Rattle.std.specs.Prelude.{IfOk}
use Rattle.dns_denial.specs.Denials.{IsLastOf}
use Rattle.dns_denial.specs.Nsecs.{NsecState}
use Rattle.dns_denial.proofs.chain.Chain.last_up_to.Goals as goal

pub returns : goal.returns
returns c = subst (λ (ns : List NsecState). IfOk c.last_of.result (IsLastOf ns c.args.name.now)) c.nsecs-nsecs.ensures.value c.last_of.ensures

use Rattle.std.proofs.Common.{ℕ, List, subst}
use Rattle.std.specs.Prelude.{IfOk, Option}
use Rattle.dns_name_server.specs.NameServerReplies.{by_target}
use Rattle.dns_name_server.specs.Steps.{StepsTo}
use Rattle.dns_name_server.specs.declared.step.Step.{Step}
use Rattle.dns_name_server.proofs.step.by_target.Goals as goal

pub returns-in-Some : goal.returns-in-Some
returns-in-Some c = λ z.
    subst (λ (o : Option (List (List ℕ))). IfOk c.substituted.result (λ (s : Step). StepsTo z c.args.given.now c.substituted.new.given s (λ go. by_target go c.args.rtype c.args.name.now c.args.dname.now o)))
    c.in-Some.ensures (c.substituted.ensures z)

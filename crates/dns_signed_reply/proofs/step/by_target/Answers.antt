use Rattle.std.proofs.Common.{ℕ, List, ap, subst, ◌∙◌}
use Rattle.std.specs.Prelude.{IfOk, Option}
use Rattle.dns_name_server.specs.NameServerReplies.{by_target}
use Rattle.dns_signed_reply.specs.PlainReplies.{StepsTo, behind}
use Rattle.dns_signed_reply.specs.declared.step.Step.{Step}
use Rattle.dns_signed_reply.proofs.step.by_target.Goals as goal

pub returns-in-Some : goal.returns-in-Some
returns-in-Some c =
    subst (λ (o : Option (List (List ℕ))). IfOk c.substituted.result (λ (s : Step). StepsTo c.args.given.now.items c.substituted.new.given.items s (λ go. by_target go c.args.rtype c.args.name.now c.args.dname.now o))) c.in-Some.ensures c.substituted.ensures

pub returns-in-None : goal.returns-in-None
returns-in-None c = λ go. ap (behind c.args.given.now.items) (c.nothing.ensures ∙ ap (by_target go c.args.rtype c.args.name.now c.args.dname.now) c.in-None.ensures)

use Rattle.dns_zone.specs.Owned.{target}
use Rattle.dns_zone_tree.proofs.KeptLaws.{if_ok}
use Rattle.dns_name_server.specs.NameServerReplies.{behind_alias, by_target}
use Rattle.dns_signed_reply.specs.PlainReplies.{StepsTo}
use Rattle.dns_signed_reply.specs.declared.step.Step.{Step}
use Rattle.dns_signed_reply.proofs.StepLaws.{given_then}
use Rattle.dns_signed_reply.proofs.step.give_dname.Goals as goal

pub returns : goal.returns
returns c =
    let d = c.args.dname.now in
    let mid = c.push.new.self.items in
    let new = c.by_target.new.given.items in
    if_ok (λ (s : Step). StepsTo mid new s (λ go. by_target go c.args.rtype c.args.name.now d (target d.rdata))) (λ (s : Step). StepsTo c.args.given.now.items new s (λ go. behind_alias d (by_target go c.args.rtype c.args.name.now d (target d.rdata)))) c.by_target.result c.by_target.ensures
    (λ s g go. given_then c.args.given.now.items mid new c.in_ok-copy.copy d _ _ c.in_ok-push.ensures.items c.in_ok-copy.ensures.value (g go))

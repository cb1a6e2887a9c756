use Rattle.dns_zone.specs.Owned.{target}
use Rattle.dns_zone_tree.proofs.KeptLaws.{if_ok}
use Rattle.dns_name_server.specs.NameServerReplies.{behind_alias, by_target}
use Rattle.dns_name_server.specs.Steps.{StepsTo}
use Rattle.dns_name_server.specs.declared.step.Step.{Step}
use Rattle.dns_name_server.proofs.StepLaws.{given_then}
use Rattle.dns_name_server.proofs.step.give_dname.Goals as goal

pub push-requires : goal.push-requires
push-requires c = c.in_ok-copy.ensures.lawful c.requires

pub returns : goal.returns
returns c = λ z.
    let d = c.args.dname.now in
    if_ok (λ (s : Step). StepsTo z c.push.new.self c.by_target.new.given s (λ go. by_target go c.args.rtype c.args.name.now d (target d.rdata)))
    (λ (s : Step). StepsTo z c.args.given.now c.by_target.new.given s (λ go. behind_alias d (by_target go c.args.rtype c.args.name.now d (target d.rdata)))) c.by_target.result (c.by_target.ensures z)
    (λ s g go. given_then c.args.given.now c.push.new.self c.by_target.new.given c.in_ok-copy.copy d _ _ c.in_ok-push.ensures.ok c.in_ok-copy.ensures.value (g go))

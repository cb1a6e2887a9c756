use Rattle.std.proofs.Common.{ap, sym, ◌∙◌}
use Rattle.dns_zone.specs.ZoneReply.{ZoneReply}
use Rattle.dns_zone_tree.proofs.KeptLaws.{if_ok}
use Rattle.dns_name_server.specs.Steps.{StepsTo, behind, wired}
use Rattle.dns_name_server.specs.declared.step.Step.{Step}
use Rattle.dns_name_server.specs.NameServerReplies.{behind_alias, by_region, gone_to}
use Rattle.dns_zone_tree.specs.Regions.{asked_region}
use Rattle.dns_zone_tree.specs.Wildcards.{given_as}
use Rattle.dns_zone.specs.Owned.{target}
use Rattle.dns_name_server.proofs.StepLaws.{wild_alias, wild_records}
use Rattle.dns_name_server.proofs.step.at_wildcard.Goals as goal

pub returns-in-Some : goal.returns-in-Some
returns-in-Some c = λ n h found.
    let z = c.args.zone.now in
    let a = c.in-Some.alias.now in
    let name = c.args.name.now in
    if_ok (λ (s : Step). StepsTo z c.args.given.now c.follow.new.given s (λ go. behind_alias (given_as name a) (gone_to go (target a.rdata))))
    (λ (s : Step). StepsTo z c.args.given.now c.follow.new.given s (λ go. by_region z go c.args.rtype name (asked_region z c.args.rtype name))) c.follow.result (c.follow.ensures z)
    (λ s g go. g go ∙ ap (λ (r : ZoneReply). behind c.args.given.now (wired r)) (sym (wild_alias z c.args.rtype name n h c.args.kinds.now found go a c.in-Some.ensures.value)))

pub returns-in_ok-end-in-None : goal.returns-in_ok-end-in-None
returns-in_ok-end-in-None c = λ n h found go.
    let z = c.args.zone.now in
    c.in_ok-end-in-None.ensures ∙ ap (λ (r : ZoneReply). behind c.args.given.now (wired r)) (sym (wild_records z c.args.rtype c.args.name.now n h c.args.kinds.now found go c.in-None.ensures.value))

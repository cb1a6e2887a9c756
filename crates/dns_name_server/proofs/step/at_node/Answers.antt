use Rattle.std.proofs.Common.{ap, sym, ◌∙◌}
use Rattle.dns_zone.specs.ZoneReply.{ZoneReply}
use Rattle.dns_zone_tree.proofs.KeptLaws.{if_ok}
use Rattle.dns_name_server.specs.Steps.{StepsTo, behind, wired}
use Rattle.dns_name_server.specs.declared.step.Step.{Step}
use Rattle.dns_name_server.specs.NameServerReplies.{behind_alias, by_region, gone_to}
use Rattle.dns_zone_tree.specs.Regions.{asked_region}
use Rattle.dns_zone.specs.Owned.{target}
use Rattle.dns_name_server.proofs.StepLaws.{own_alias, own_records}
use Rattle.dns_name_server.proofs.step.at_node.Goals as goal

pub returns-in-Some : goal.returns-in-Some
returns-in-Some c = λ name h.
    let z = c.args.zone.now in
    let a = c.in-Some.alias.now in
    if_ok (λ (s : Step). StepsTo z c.args.given.now c.follow.new.given s (λ go. behind_alias a (gone_to go (target a.rdata))))
    (λ (s : Step). StepsTo z c.args.given.now c.follow.new.given s (λ go. by_region z go c.args.rtype name (asked_region z c.args.rtype name))) c.follow.result (c.follow.ensures z)
    (λ s g go. g go ∙ ap (λ (r : ZoneReply). behind c.args.given.now (wired r)) (sym (own_alias z c.args.rtype name c.args.kinds.now h go a c.in-Some.ensures.value)))

pub returns-in-None : goal.returns-in-None
returns-in-None c = λ name h go.
    let z = c.args.zone.now in
    ap (λ (r : ZoneReply). behind c.args.given.now (wired r)) (c.own_end.ensures z name h ∙ sym (own_records z c.args.rtype name c.args.kinds.now h go c.in-None.ensures.value))

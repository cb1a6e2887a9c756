use Rattle.std.proofs.Common.{ap, ◌∙◌}
use Rattle.dns_zone_tree.proofs.KeptLaws.{if_ok}
use Rattle.dns_zone_tree.specs.Regions.{asked_region}
use Rattle.dns_name_server.specs.NameServerReplies.{by_region}
use Rattle.dns_signed_reply.specs.PlainReplies.{StepsTo, behind, by_records}
use Rattle.dns_signed_reply.specs.declared.step.Step.{Step}
use Rattle.dns_signed_reply.proofs.StepLaws.{node_reply}
use Rattle.dns_signed_reply.proofs.step.at_node.Goals as goal

pub returns : goal.returns
returns c = λ name h.
    let z = c.args.zone.now in
    let t = c.args.rtype in
    let old = c.args.given.now.items in
    let new = c.with_records.new.given.items in
    if_ok (λ (s : Step). StepsTo old new s (λ go. by_records z go t c.as_slice.result.now c.in_ok-records.records.items)) (λ (s : Step). StepsTo old new s (λ go. by_region z go t name (asked_region z t name))) c.with_records.result c.with_records.ensures
    (λ s f go. f go ∙ ap (behind old) (node_reply z t name c.args.kinds.now h go c.as_slice.result.now c.in_ok-records.records.items (c.as_slice.ensures.value ∙ c.in_ok-aliases.ensures) c.in_ok-records.ensures))

use Rattle.std.proofs.Common.{◌≡◌, sym, ◌∙◌}
use Rattle.dns_zone.specs.Owned.{asked_records}
use Rattle.dns_zone_tree.proofs.KeptLaws.{if_ok}
use Rattle.dns_zone_tree.specs.Regions.{asked_region}
use Rattle.dns_signed_reply.specs.SignedReplies.{if_within, owned_records}
use Rattle.dns_signed_reply.proofs.NodeLaws.{inside_is, outside_is}
use Rattle.dns_signed_reply.proofs.records.owned_records.Goals as goal

pub returns-then-is_in_zone : goal.returns-then-is_in_zone
returns-then-is_in_zone c =
    let z = c.args.zone.now in
    let n = c.args.name.now in
    let t = c.args.rtype in
    if_ok (λ v. v.items ≡ if_within (asked_region z 43 n) (asked_records z n t)) (λ v. v.items ≡ owned_records z n t) c.owned_within.result c.owned_within.ensures (λ v e. e ∙ inside_is z n (asked_records z n t) (sym c.is_in_zone.ensures ∙ c.if-is_in_zone.true))

pub returns : goal.returns
returns c = c.new.ensures.items ∙ outside_is c.args.zone.now c.args.name.now (asked_records c.args.zone.now c.args.name.now c.args.rtype) (sym c.is_in_zone.ensures ∙ c.if-is_in_zone.false)

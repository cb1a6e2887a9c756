use Rattle.std.proofs.Common.{◌≡◌, ℕ, ap, ◌∙◌}
use Rattle.dns_zone.specs.Cuts.{glue}
use Rattle.dns_zone.specs.Places.{at_places}
use Rattle.dns_zone_tree.specs.Kinds.{kind_places}
use Rattle.dns_signed_reply.proofs.StepLaws.{referral_is}
use Rattle.dns_signed_reply.proofs.plain.referral.Goals as goal

pub returns : goal.returns
returns c =
    let z = c.args.zone.now in
    let servers = at_places z.records (kind_places 2 c.args.cut.now) in
    let n : c.in_ok-authority.authority.items ≡ servers = c.in_ok-authority.ensures ∙ ap (λ (t : ℕ). at_places z.records (kind_places t c.args.cut.now)) c.to_int.ensures.value in
    let x : c.in_ok-additional.additional.items ≡ glue z servers = c.in_ok-additional.ensures in
    referral_is z servers c.new-answers.result.items c.in_ok-authority.authority.items c.in_ok-additional.additional.items n x c.new-answers.ensures.items

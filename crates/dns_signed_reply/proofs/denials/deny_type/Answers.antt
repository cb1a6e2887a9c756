use Rattle.std.proofs.Common.{[], ◌∷◌, ap, ◌∙◌}
use Rattle.std.specs.Prelude.{if◌then◌else◌}
use Rattle.dns_zone_tree.proofs.KeptLaws.{on_ok}
use Rattle.dns_signed_reply.specs.SignedReplies.{denied}
use Rattle.dns_signed_reply.proofs.NearLaws.{for_none, for_one, node_denied}
use Rattle.dns_signed_reply.proofs.denials.deny_type.Goals as goal

pub returns-then-gives : goal.returns-then-gives
returns-then-gives c =
    let s = c.args.zone.now in
    let name = c.args.name.now in
    for_none s.zone s.nsecs c.args.into.now.items (denied s.zone c.args.rtype name) (node_denied s.zone c.args.rtype name c.args.kinds.now c.gives.result c.requires c.gives.ensures ∙ ap (λ b. if b then [] else name ∷ []) c.if-gives.true)

pub returns : goal.returns
returns c =
    let s = c.args.zone.now in
    let name = c.args.name.now in
    on_ok c.deny.result c.deny.ensures
    (λ e. e ∙ for_one s.zone s.nsecs c.args.into.now.items name (denied s.zone c.args.rtype name) (node_denied s.zone c.args.rtype name c.args.kinds.now c.gives.result c.requires c.gives.ensures ∙ ap (λ b. if b then [] else name ∷ []) c.if-gives.false))

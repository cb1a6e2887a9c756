use Rattle.std.proofs.Common.{false, [], ap, sym, ◌∙◌}
use Rattle.std.specs.Prelude.{if◌then◌else◌}
use Rattle.dns_zone_tree.proofs.KeptLaws.{on_ok}
use Rattle.dns_hashed_reply.specs.Choices.{names_places}
use Rattle.dns_hashed_reply.specs.HashedReplies.{own_proof}
use Rattle.dns_hashed_reply.proofs.ChoiceLaws.{adds_none, for_one}
use Rattle.dns_hashed_reply.proofs.MissingLaws.{node_fine, node_places}
use Rattle.dns_hashed_reply.proofs.denials.add_node.Goals as goal

pub returns-then-gives : goal.returns-then-gives
returns-then-gives c =
    let s = c.args.zone.now in
    let t = c.args.rtype in
    let name = c.args.name.now in
    let m = c.args.kinds.now in
    let old = c.args.chosen.now in
    for_one s t old old name false [] (node_fine s t name m c.requires.reached)
    (ap (λ b. names_places s (if b then [] else own_proof s name)) (sym c.if-gives.true) ∙ node_places s t name m c.gives.result c.requires.reached c.gives.ensures) (adds_none old)

pub returns : goal.returns
returns c =
    let s = c.args.zone.now in
    let t = c.args.rtype in
    let name = c.args.name.now in
    let m = c.args.kinds.now in
    on_ok c.add_own.result c.add_own.ensures (for_one s t c.args.chosen.now c.add_own.new.chosen name false (names_places s (own_proof s name)) (node_fine s t name m c.requires.reached)
    (ap (λ b. names_places s (if b then [] else own_proof s name)) (sym c.if-gives.false) ∙ node_places s t name m c.gives.result c.requires.reached c.gives.ensures))

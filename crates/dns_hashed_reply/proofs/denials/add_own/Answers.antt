use Rattle.std.proofs.Common.{false, [], ◌∷◌, refl}
use Rattle.dns_zone_tree.proofs.KeptLaws.{on_ok}
use Rattle.dns_hashed_reply.specs.Choices.{names_places}
use Rattle.dns_hashed_reply.specs.HashedReplies.{own_proof}
use Rattle.dns_hashed_reply.proofs.ChoiceLaws.{adds_as, own_places, spared_places}
use Rattle.dns_hashed_reply.proofs.denials.add_own.Goals as goal

pub returns-in-Own : goal.returns-in-Own
returns-in-Own c =
    let s = c.args.zone.now in
    let name = c.args.name.now in
    let f = rw c.in-Own.is at c.in_ok-found.ensures in
    on_ok c.add.result c.add.ensures (adds_as c.args.chosen.now c.add.new.chosen false false (c.in-Own.place ∷ []) (names_places s (own_proof s name)) refl (own_places s name c.in-Own.place f.0 f.1))

pub returns-in-Missing : goal.returns-in-Missing
returns-in-Missing c =
    let s = c.args.zone.now in
    let name = c.args.name.now in
    let f = rw c.in-Missing.is at c.in_ok-found.ensures in
    on_ok c.add_both.result c.add_both.ensures (adds_as c.args.chosen.now c.add_both.new.chosen false false (c.in-Missing.encloser ∷ c.in-Missing.next ∷ []) (names_places s (own_proof s name)) refl
    (spared_places s name c.in-Missing.encloser c.in-Missing.next f.0 f.2 f.3))

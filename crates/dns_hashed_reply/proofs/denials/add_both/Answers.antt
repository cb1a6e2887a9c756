use Rattle.std.proofs.Common.{false, [], ◌∷◌}
use Rattle.dns_zone_tree.proofs.KeptLaws.{on_ok}
use Rattle.dns_hashed_reply.proofs.ChoiceLaws.{adds_then}
use Rattle.dns_hashed_reply.proofs.denials.add_both.Goals as goal

pub returns : goal.returns
returns c = on_ok c.add-2.result c.add-2.ensures (adds_then c.args.chosen.now c.add.new.chosen c.add-2.new.chosen false false (c.args.first ∷ []) (c.args.second ∷ []) c.in_ok-add.ensures)

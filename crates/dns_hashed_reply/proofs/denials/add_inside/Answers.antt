use Rattle.std.proofs.Common.{sym, ◌∙◌}
use Rattle.dns_zone_tree.proofs.KeptLaws.{on_ok}
use Rattle.dns_hashed_reply.proofs.ChoiceLaws.{inside_one, outside_none}
use Rattle.dns_hashed_reply.proofs.denials.add_inside.Goals as goal

pub returns-then-is_in_zone : goal.returns-then-is_in_zone
returns-then-is_in_zone c =
    on_ok c.add_name.result c.add_name.ensures (inside_one c.args.zone.now c.args.rtype c.args.name.now c.args.chosen.now c.add_name.new.chosen (sym c.is_in_zone.ensures ∙ c.if-is_in_zone.true))

pub returns : goal.returns
returns c = outside_none c.args.zone.now c.args.rtype c.args.name.now c.args.chosen.now (sym c.is_in_zone.ensures ∙ c.if-is_in_zone.false)

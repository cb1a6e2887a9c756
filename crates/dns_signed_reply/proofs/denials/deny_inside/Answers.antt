use Rattle.std.proofs.Common.{sym, ◌∙◌}
use Rattle.dns_zone_tree.proofs.KeptLaws.{on_ok}
use Rattle.dns_signed_reply.proofs.NearLaws.{inside_one, outside_none}
use Rattle.dns_signed_reply.proofs.denials.deny_inside.Goals as goal

pub returns-then-is_in_zone : goal.returns-then-is_in_zone
returns-then-is_in_zone c =
    on_ok c.deny_name.result c.deny_name.ensures (λ e. inside_one c.args.zone.now c.args.rtype c.args.name.now c.args.into.now.items c.deny_name.new.into.items (sym c.is_in_zone.ensures ∙ c.if-is_in_zone.true) e)

pub returns : goal.returns
returns c = outside_none c.args.zone.now c.args.rtype c.args.name.now c.args.into.now.items (sym c.is_in_zone.ensures ∙ c.if-is_in_zone.false)

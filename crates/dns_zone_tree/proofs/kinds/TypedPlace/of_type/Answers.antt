use Rattle.std.proofs.Common.{sym, ◌∙◌}
use Rattle.dns_zone_tree.proofs.KindLaws.{no_place, one_place}
use Rattle.dns_zone_tree.proofs.kinds.TypedPlace.of_type.Goals as goal

pub returns-then-is_of : goal.returns-then-is_of
returns-then-is_of c = one_place c.args.rtype c.args.self.now (sym c.is_of.ensures ∙ c.if-is_of.true)

pub returns : goal.returns
returns c = no_place c.args.rtype c.args.self.now (sym c.is_of.ensures ∙ c.if-is_of.false)

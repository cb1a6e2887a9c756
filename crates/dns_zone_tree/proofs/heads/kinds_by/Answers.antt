use Rattle.std.proofs.Common.{refl, ap, sym, ◌∙◌}
use Rattle.dns_zone_tree.specs.TypedPlaces.{head_record}
use Rattle.dns_zone_tree.proofs.heads.kinds_by.Goals as goal

pub returns-then-name_eq : goal.returns-then-name_eq
returns-then-name_eq c =
    (refl, (c.in-Some.first.now, c.in-Some.ensures ∙ ap (head_record c.args.records.now) c.as_slice.ensures, sym c.name_eq.ensures.same ∙ c.if-name_eq.true))

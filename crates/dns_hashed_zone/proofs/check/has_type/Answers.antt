use Rattle.std.proofs.Common.{◌≡◌, ℕ, ap, sym, ◌∙◌}
use Rattle.dns_denial.specs.Chains.{has_type}
use Rattle.dns_hashed_zone.proofs.TypeLaws3.{typed_any, typed_by}
use Rattle.dns_hashed_zone.proofs.check.has_type.Goals as goal

pub returns-then-rtype-eq-ANY : goal.returns-then-rtype-eq-ANY
returns-then-rtype-eq-ANY c =
    let z = c.args.zone.now in
    let name = c.args.name.now in
    typed_any z name c.args.kinds.now c.requires.held c.args.cut c.has_any.result c.requires.cut c.has_any.ensures ∙ ap (has_type z name) (sym c.if-rtype-eq-ANY.true)

pub returns : goal.returns
returns c = typed_by c.args.zone.now c.args.name.now c.args.kinds.now c.requires.held c.args.cut c.is_typed.result c.args.rtype c.if-rtype-eq-ANY.false c.requires.cut c.is_typed.ensures

use Rattle.std.proofs.Common.{sym, ◌∙◌}
use Rattle.std.proofs.lemmas.Result.{err_from_is_err_and}
use Rattle.dns_zone_tree.proofs.ErrorLaws.{accepted, refused_alias, refused_places, refused_size, refused_soa}
use Rattle.dns_zone_tree.proofs.check.checked.Goals as goal

pub returns-in_err-check_places : goal.returns-in_err-check_places
returns-in_err-check_places c =
    let p = err_from_is_err_and c.from_residual.result c.from_residual.ensures.1 in
    rw (p.1, p.2) (λ z. refused_places c.args.apex.now c.args.records.now z c.in_err-check_places.field-0.0 c.in_err-check_places.ensures)

pub returns-in_err-check_soa : goal.returns-in_err-check_soa
returns-in_err-check_soa c =
    let p = err_from_is_err_and c.from_residual-in_err-check_soa.result c.from_residual-in_err-check_soa.ensures.1 in
    rw (p.1, p.2) (λ z. refused_soa c.args.apex.now c.args.records.now c.in_ok-check_places.ensures z c.in_err-check_soa.field-0.0 c.in_err-check_soa.ensures)

pub returns-in_err-names : goal.returns-in_err-names
returns-in_err-names c =
    let p = err_from_is_err_and c.from_residual-in_err-names.result c.from_residual-in_err-names.ensures.1 in
    rw (p.1, p.2) (λ z. refused_size c.args.apex.now c.args.records.now c.in_ok-check_places.ensures c.in_ok-check_soa.ensures z c.in_err-names.field-0.0 (c.in_err-names.ensures z))

pub returns-in-Some : goal.returns-in-Some
returns-in-Some c = λ z. refused_alias c.args.apex.now c.args.records.now c.in_ok-check_places.ensures c.in_ok-check_soa.ensures c.in_ok-names.ensures.0 z c.in-Some.index (sym c.in-Some.is ∙ c.in_ok-index.ensures)

pub returns-in-None : goal.returns-in-None
returns-in-None c =
    (accepted c.args.apex.now c.args.records.now c.in_ok-check_places.ensures c.in_ok-check_soa.ensures c.in_ok-names.ensures.0 (sym c.in-None.is ∙ c.in_ok-index.ensures), c.in_ok-names.ensures.1)

pub first_crowded-requires : goal.first_crowded-requires
first_crowded-requires c = c.in_ok-names.ensures.1

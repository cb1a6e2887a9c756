use Rattle.std.proofs.Common.{ap, sym, subst, ◌∙◌}
use Rattle.std.specs.Prelude.{not}
use Rattle.std.specs.List.{list_any}
use Rattle.std.proofs.lemmas.Bool.{and_right}
use Rattle.dns_zone.specs.Owned.{is_owned}
use Rattle.dns_denial.specs.Chains.{is_below_cut}
use Rattle.dns_denial.specs.Checks.{StandsAt}
use Rattle.dns_denial.proofs.StandLaws.{held_must}
use Rattle.dns_denial.proofs.types.must_have.Goals as goal

pub returns-in-Held : goal.returns-in-Held
returns-in-Held c = c.is_placed.ensures ∙ held_must c.args.zone.now c.args.name.now _ (subst (StandsAt c.args.zone.now c.args.name.now) c.in-Held.is c.requires)

pub returns-in-BelowCut : goal.returns-in-BelowCut
returns-in-BelowCut c =
    let z = c.args.zone.now in
    let name = c.args.name.now in
    sym (and_right (list_any (is_owned name) z.records) (not (is_below_cut z name)) (ap not (subst (StandsAt z name) c.in-BelowCut.is c.requires)))

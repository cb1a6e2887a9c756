use Rattle.dns_zone.specs.Owned.{ZoneState}
use Rattle.dns_script.proofs.ZoneRefused.{zone_fails}
use Rattle.dns_script.proofs.draft.made_zone.Goals as goal

pub returns-in-Err : goal.returns-in-Err
returns-in-Err c =
    let made : ZoneState = record { apex = c.args.zone.apex; records = c.args.zone.records } in
    rw (← c.zone.view_is, c.refused.ensures) (zone_fails _ _ made _ c.in-Err.ensures)

use Rattle.std.proofs.Common.{◌≡◌, ◌<◌, List, ap, arith, get_or, length, subst}
use Rattle.dns_config.specs.declared.config.ZoneEntry.{ZoneEntry}
use Rattle.zoned.proofs.Judged.{one_judged}
use Rattle.zoned.proofs.keys.load_access.Goals as goal

pub zones-preserved : goal.zones-preserved
zones-preserved c =
    let es : List ZoneEntry = c.args.config.now.zone.items in
    let i = c.zones.entry-index in
    let e = c.entry-item.result in
    let same : c.as_slice-entry-items.result.now ≡ es = c.as_slice-entry-items.ensures.value in
    let many : length c.as_slice-entry-items.result.now ≡ length es = ap length same in
    let lt : i < length es = omega arith in
    let is : e ≡ get_or es i e = subst (λ (xs : List ZoneEntry). e ≡ get_or xs i e) same c.entry-item.is in
    one_judged c.args.keys.now c.as_slice-for_all.result.now es i e c.zones.access.transfers.items c.zones.access.notifies.items c.add_zone.new.access.transfers.items c.add_zone.new.access.notifies.items lt is c.zones.invariant c.in_default.ensures.kept c.in_default.ensures.kept_notifies c.in_default.ensures.transfers c.in_default.ensures.notifies

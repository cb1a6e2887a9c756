use Rattle.std.proofs.Common.{◌≡◌, ◌<◌, List, ap, arith, get_or, length, map, subst}
use Rattle.dns_config.specs.declared.config.ZoneEntry.{ZoneEntry}
use Rattle.zoned.proofs.Loaded.{leads_all, leads_more}
use Rattle.zoned.specs.Loading.{allowed_network, no_zones}
use Rattle.zoned.proofs.load.load_generation.Goals as goal

pub each-preserved : goal.each-preserved
each-preserved c =
    let es = c.args.config.now.zone.items in
    let start = no_zones (map allowed_network c.args.config.now.allow_transfer.items) in
    let i = c.each.entry-index in
    let e = c.entry-item.result in
    let same : c.deref-entry-items.result.now ≡ es = c.deref-entry-items.ensures.value in
    let many : length c.deref-entry-items.result.now ≡ length es = ap length same in
    let lt : i < length es = omega arith in
    let is : e ≡ get_or es i e = subst (λ (xs : List ZoneEntry). e ≡ get_or xs i e) same c.entry-item.is in
    leads_more c.args.secondaries.now es start i e c.near.result.now c.each.generation c.load_entry.new.generation lt is c.near.ensures
    c.in_ok-load_entry.ensures c.each.invariant

pub returns : goal.returns
returns c =
    let es = c.args.config.now.zone.items in
    let start = no_zones (map allowed_network c.args.config.now.allow_transfer.items) in
    let many : length c.deref-entry-items.result.now ≡ length es = ap length c.deref-entry-items.ensures.value in
    leads_all c.args.secondaries.now es start c.each.entry-index c.each.generation (omega arith) c.each.invariant

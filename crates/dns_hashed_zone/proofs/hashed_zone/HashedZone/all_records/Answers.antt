use Rattle.std.proofs.Common.{List, ◌++◌, ap, ◌∙◌}
use Rattle.dns_message.specs.declared.record.Record.{Record}
use Rattle.dns_hashed_zone.proofs.MadeLaws.{joined_next}
use Rattle.dns_hashed_zone.proofs.hashed_zone.HashedZone.all_records.Goals as goal

pub each-preserved : goal.each-preserved
each-preserved c =
    joined_next c.deref-group-items.result.now c.each.group-index c.group-item.result c.args.self.now.zone.records c.each.all.items c.add_records-in-each.new.into.items c.each-test.true c.group-item.is c.each.invariant
    (c.in_ok-add_records-2.ensures ∙ ap (λ (rs : List Record). c.each.all.items ++ rs) c.as_slice.ensures.value)

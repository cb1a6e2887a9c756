use Rattle.std.proofs.Common.{ap, sym, ◌∙◌, length}
use Rattle.dns_base.proofs.RecordsInWireForm.{are_none}
use Rattle.dns_base.proofs.wire_records.WireRecords.is_empty.Goals as goal

pub returns : goal.returns
returns c = are_none c.self.inside.count c.args.self.now (sym c.self.invariant.many ∙ ap length c.self.view_is)

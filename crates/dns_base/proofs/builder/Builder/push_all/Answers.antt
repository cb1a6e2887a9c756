use Rattle.std.proofs.Common.{◌<◌, length, arith}
use Rattle.std.proofs.lemmas.Result.{err_from_is_err_and}
use Rattle.dns_base.specs.Builds.{with_records}
use Rattle.dns_base.proofs.BuildLaws.{push_refused_at}
use Rattle.dns_base.proofs.builder.Builder.push_all.Goals as goal

pub returns-in_err-push_copied : goal.returns-in_err-push_copied
returns-in_err-push_copied g c =
    let p = err_from_is_err_and c.from_residual.result c.from_residual.ensures.1 in
    let l : c.each.item-index < length c.args.records.now = omega arith in
    rw (p.1, p.2) (push_refused_at g.S.RecordStage.section c.each.self c.push_copied.new.self c.each.item-index c.args.records.now c.item-item.result (with_records g.S.RecordStage.section c.args.self.now c.args.records.now) c.push_copied.new.self c.in_err-push_copied.field-0.0 l c.item-item.is c.in_err-push_copied.ensures c.each.invariant.same)

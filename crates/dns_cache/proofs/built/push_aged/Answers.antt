use Rattle.std.proofs.Common.{◌<◌, false, length, arith}
use Rattle.std.proofs.lemmas.Result.{err_from_is_err_and}
use Rattle.dns_base.specs.Builds.{with_records}
use Rattle.dns_cache.specs.AgedRecords.{aged_records}
use Rattle.dns_cache.proofs.BuiltLaws.{refused_aged}
use Rattle.dns_cache.proofs.built.push_aged.Goals as goal

pub returns-in_err-push_composed : goal.returns-in_err-push_composed
returns-in_err-push_composed g c =
    let p = err_from_is_err_and c.from_residual.result c.from_residual.ensures.1 in
    let ks = c.args.records.marks.now in
    let l : c.marks.mark-index < length ks = omega arith in
    let more = with_records g.S.RecordStage.section c.args.builder.now (aged_records c.args.age ks c.args.records.octets.now) in
    rw (p.1, p.2) (refused_aged g.S.RecordStage.section c.marks.builder c.push_composed.new.self c.args.age ks c.marks.mark-index (record { before = 0; size = 0; ttl = 0; is_opt = false })
    c.marks.left.now c.split_at.result.0.now more c.in_err-push_composed.field-0.0 l c.split_at.ensures.front c.in_err-push_composed.ensures c.marks.invariant.same)

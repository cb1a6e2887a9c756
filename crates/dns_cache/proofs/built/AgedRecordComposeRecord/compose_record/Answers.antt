use Rattle.std.proofs.Common.{◌++◌, ap, ◌∙◌}
use Rattle.dns_cache.proofs.BuiltLaws.{octets_lowered, ok_weaker}
use Rattle.dns_cache.proofs.built.AgedRecordComposeRecord.compose_record.Goals as goal

pub returns-clause-ok : goal.returns-clause-ok
returns-clause-ok c =
    let r = c.args.self.now in
    ok_weaker c.push_record.result (λ e. e ∙ ap (λ o. c.args.target.now.items ++ o) (octets_lowered r.age r.mark r.octets.now c.requires)) c.push_record.ensures.ok

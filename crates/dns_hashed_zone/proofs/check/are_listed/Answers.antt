use Rattle.std.proofs.Common.{◌∙◌, arith}
use Rattle.dns_base.specs.Records.{data_type}
use Rattle.dns_message.specs.declared.record.Record.{Record}
use Rattle.dns_hashed_zone.specs.Meetings.{is_type_listed}
use Rattle.dns_hashed_zone.proofs.TypeLaws3.{all_ended, all_passed, all_stopped}
use Rattle.dns_hashed_zone.proofs.check.are_listed.Goals as goal

pub returns-then-not-is_listed : goal.returns-then-not-is_listed
returns-then-not-is_listed c =
    all_stopped (λ (r : Record). is_type_listed c.args.cut c.args.nsec.now (data_type r.rdata)) c.args.records.now 255 c.args.kinds.now c.each.kind-index _ c.each-test.true c.if-not-is_listed.ensures ∙ c.each.invariant

pub each-preserved : goal.each-preserved
each-preserved c =
    all_passed (λ (r : Record). is_type_listed c.args.cut c.args.nsec.now (data_type r.rdata)) c.args.records.now 255 c.args.kinds.now c.each.kind-index _ c.each-test.true c.if-not-is_listed.ensures ∙ c.each.invariant

pub returns : goal.returns
returns c = all_ended (λ (r : Record). is_type_listed c.args.cut c.args.nsec.now (data_type r.rdata)) c.args.records.now 255 c.args.kinds.now c.each.kind-index (omega arith) ∙ c.each.invariant

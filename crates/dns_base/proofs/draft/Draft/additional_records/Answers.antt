use Rattle.dns_base.proofs.ReadItems.{additional_read}
use Rattle.dns_base.proofs.draft.Draft.additional_records.Goals as goal

pub returns-clause-value : goal.returns-clause-value
returns-clause-value c =
    (additional_read c.args.self.now.message c.as_slice.result.now c.of.result c.counts-count.result c.additional_start-start.result c.as_slice.ensures.lawful c.as_slice.ensures.value c.additional_start-start.ensures.value c.counts-count.ensures c.of.ensures).0

pub returns-clause-readable : goal.returns-clause-readable
returns-clause-readable c =
    (additional_read c.args.self.now.message c.as_slice.result.now c.of.result c.counts-count.result c.additional_start-start.result c.as_slice.ensures.lawful c.as_slice.ensures.value c.additional_start-start.ensures.value c.counts-count.ensures c.of.ensures).1

pub returns-clause-records : goal.returns-clause-records
returns-clause-records c =
    (additional_read c.args.self.now.message c.as_slice.result.now c.of.result c.counts-count.result c.additional_start-start.result c.as_slice.ensures.lawful c.as_slice.ensures.value c.additional_start-start.ensures.value c.counts-count.ensures c.of.ensures).2

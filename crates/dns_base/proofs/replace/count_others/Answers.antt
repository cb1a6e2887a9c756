use Rattle.std.proofs.Common.{◌+◌, ◌-◌, rules}
use Rattle.dns_base.specs.Replaced.{records_at, behind_records}
use Rattle.dns_base.proofs.Sieved.{counting_goes_on, counting_within}
use Rattle.dns_base.proofs.replace.count_others.Goals as goal

pub records-preserved : goal.records-preserved
records-preserved c =
    let o = c.args.message.now in
    let r = c.kept_at-record.result in
    counting_goes_on o c.args.rtype (records_at o c.args.count c.args.start) (behind_records o c.args.count c.args.start) c.records.at c.records.left c.records.kept c.records.size r.many r.size r.end c.records.invariant c.records-test.true c.kept_at-record.ensures

pub overflow_add-kept : goal.overflow_add-kept
overflow_add-kept c =
    let o = c.args.message.now in
    let r = c.kept_at-record.result in
    let k = counting_goes_on o c.args.rtype (records_at o c.args.count c.args.start) (behind_records o c.args.count c.args.start) c.records.at c.records.left c.records.kept c.records.size r.many r.size r.end c.records.invariant c.records-test.true c.kept_at-record.ensures in
    let w = counting_within o c.args.rtype c.args.count c.args.start r.end (c.records.left - 1) (c.records.kept + r.many) (c.records.size + r.size) c.requires k in
    search (rules, w.0, c.ranges.count.fits)

pub overflow_add-size : goal.overflow_add-size
overflow_add-size c =
    let o = c.args.message.now in
    let r = c.kept_at-record.result in
    let k = counting_goes_on o c.args.rtype (records_at o c.args.count c.args.start) (behind_records o c.args.count c.args.start) c.records.at c.records.left c.records.kept c.records.size r.many r.size r.end c.records.invariant c.records-test.true c.kept_at-record.ensures in
    let w = counting_within o c.args.rtype c.args.count c.args.start r.end (c.records.left - 1) (c.records.kept + r.many) (c.records.size + r.size) c.requires k in
    search (rules, w.1)

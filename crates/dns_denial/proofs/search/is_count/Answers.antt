use Rattle.std.proofs.Common.{sym, ◌∙◌}
use Rattle.dns_denial.proofs.SearchLaws.{point_at, point_at_first}
use Rattle.dns_denial.proofs.search.is_count.Goals as goal

pub returns-then-count-eq0-clause-point : goal.returns-then-count-eq0-clause-point
returns-then-count-eq0-clause-point c = λ h name k.
    point_at_first c.args.nsecs.now name c.requires c.args.count (sym (c.is_reached.ensures.value name k) ∙ c.if-is_reached.false) c.if-count-eq0.true

pub returns-clause-point : goal.returns-clause-point
returns-clause-point c = λ h name k.
    point_at c.args.nsecs.now name c.requires c.args.count (sym (c.is_reached.ensures.value name k) ∙ c.if-is_reached.false) (sym (c.is_reached-2.ensures.value name k) ∙ h)

use Rattle.std.proofs.Common.{sym, ◌∙◌, arith}
use Rattle.std.proofs.lemmas.Bool.{true≢false}
use Rattle.dns_denial.proofs.HashOrder.{same_hash}
use Rattle.dns_hashed_zone.proofs.RecordLaws.{seen_by}
use Rattle.dns_hashed_zone.proofs.check.is_seen.Goals as goal

pub returns-then-index-eq0 : goal.returns-then-index-eq0
returns-then-index-eq0 c = λ t. absurd (true≢false (sym t))

pub returns : goal.returns
returns c = λ t d.
    seen_by c.args.records.now c.args.index c.index-records-index.result c.index-records-index-2.result c.for_ref-one.result c.for_ref-other.result c.requires (omega arith) c.for_ref-one.ensures.value c.for_ref-other.ensures.value
    c.as_slice.ensures.named c.as_slice-2.ensures.named (sym c.as_slice.ensures.value ∙ (same_hash c.as_slice.result.now c.as_slice-2.result.now (sym c.eq.ensures ∙ t) ∙ c.as_slice-2.ensures.value)) d

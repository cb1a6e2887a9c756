use Rattle.std.proofs.Common.{rules}
use Rattle.std.proofs.lemmas.List.Sorted.{answers_always, ranks_by}
use Rattle.dns_name.specs.Canonical.{name_cmp_total}
use Rattle.dns_denial.specs.Nsecs.{NsecState}
use Rattle.dns_nsec_data.specs.NsecData.{is_ahead}
use Rattle.dns_nsec_data.proofs.chain_data.sorted.Goals as goal

pub returns-clause-sorted : goal.returns-clause-sorted
returns-clause-sorted c = c.in_ok-sort_by.ensures.sorted is_ahead (ranks_by name_cmp_total (λ (n : NsecState). n.owner)) (answers_always _ _ _ (λ f a r g h. search rules))

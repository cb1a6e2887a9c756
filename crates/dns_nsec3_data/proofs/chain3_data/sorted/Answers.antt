use Rattle.std.proofs.Common.{rules}
use Rattle.std.specs.Cmp.Lexicographic.{nat_list_cmp_total}
use Rattle.std.proofs.lemmas.List.Sorted.{answers_always, ranks_by}
use Rattle.dns_denial.specs.Nsec3.{Nsec3State}
use Rattle.dns_nsec3_data.specs.Nsec3Data.{is_ahead3}
use Rattle.dns_nsec3_data.proofs.chain3_data.sorted.Goals as goal

pub returns-clause-sorted : goal.returns-clause-sorted
returns-clause-sorted c = c.in_ok-sort_by.ensures.sorted is_ahead3 (ranks_by nat_list_cmp_total (λ (n : Nsec3State). n.hash)) (answers_always _ _ _ (λ f a r g h. search rules))

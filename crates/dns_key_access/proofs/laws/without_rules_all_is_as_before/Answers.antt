use Rattle.std.proofs.Common.{ap}
use Rattle.dns_base.specs.Header.{header_of}
use Rattle.dns_base.specs.Sections.{first_of, questions_of}
use Rattle.dns_key_access.specs.Access.{asker_of}
use Rattle.dns_key_access.specs.Layer.{answer_by}
use Rattle.dns_key_access.proofs.Judged.{unjudged}
use Rattle.dns_key_access.proofs.laws.without_rules_all_is_as_before.Goals as goal

pub returns : goal.returns
returns c = λ answer a r k t n. ap (answer_by answer r k) (unjudged a (header_of r.octets).opcode (first_of (questions_of r.octets).0) (asker_of r) t n)

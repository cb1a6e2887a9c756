use Rattle.dns_denial.proofs.ExampleLaws.{example_is_whole}
use Rattle.dns_denial.proofs.laws.example_chain_is_whole3.Goals as goal

pub returns : goal.returns
returns c = example_is_whole

use Rattle.dns_message.proofs.TypedSections.{answers_back, authority_back, additional_back}
use Rattle.dns_message.proofs.data_laws.typed_records_read_back.Goals as goal

pub returns-clause-answers : goal.returns-clause-answers
returns-clause-answers c = answers_back

pub returns-clause-authority : goal.returns-clause-authority
returns-clause-authority c = authority_back

pub returns-clause-additional : goal.returns-clause-additional
returns-clause-additional c = additional_back

use Rattle.dns_message.proofs.Coming.{same_answers, same_authority, same_additional}
use Rattle.dns_message.proofs.laws.records_stand.Goals as goal

pub returns-clause-answers : goal.returns-clause-answers
returns-clause-answers c = same_answers

pub returns-clause-authority : goal.returns-clause-authority
returns-clause-authority c = same_authority

pub returns-clause-additional : goal.returns-clause-additional
returns-clause-additional c = same_additional

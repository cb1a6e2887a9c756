use Rattle.dns_base.proofs.ReadItems.{questions_read}
use Rattle.dns_base.proofs.draft.Draft.questions.Goals as goal

pub returns-clause-readable : goal.returns-clause-readable
returns-clause-readable c = (questions_read c.args.self.now.message c.as_message.result c.question.result c.as_message.ensures.lawful c.as_message.ensures.value c.question.ensures).1

pub returns-clause-questions : goal.returns-clause-questions
returns-clause-questions c = (questions_read c.args.self.now.message c.as_message.result c.question.result c.as_message.ensures.lawful c.as_message.ensures.value c.question.ensures).2

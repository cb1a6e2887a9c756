use Rattle.dns_session.proofs.Quiet.{is_quiet}
use Rattle.dns_session.proofs.laws.spent_clients_are_sent_nothing.Goals as goal

pub returns-clause-quiet : goal.returns-clause-quiet
returns-clause-quiet c = λ answers e s spent. (is_quiet answers e s spent).0

pub returns-clause-stays : goal.returns-clause-stays
returns-clause-stays c = λ answers e s spent. (is_quiet answers e s spent).1

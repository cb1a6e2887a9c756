use Rattle.dns_transfer.proofs.TransactionLaws.{transactions_end, transfers_are_transactions}
use Rattle.dns_transfer.proofs.laws.transfers_are_transactions.Goals as goal

pub returns-clause-within : goal.returns-clause-within
returns-clause-within c = transfers_are_transactions

pub returns-clause-end : goal.returns-clause-end
returns-clause-end c = transactions_end

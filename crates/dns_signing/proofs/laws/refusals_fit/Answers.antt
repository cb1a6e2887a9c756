use Rattle.dns_signing.proofs.RefusalRooms.{refusal_signed, refusal_within, size_least}
use Rattle.dns_signing.proofs.laws.refusals_fit.Goals as goal

pub returns-clause-fits : goal.returns-clause-fits
returns-clause-fits c = refusal_within

pub returns-clause-signed : goal.returns-clause-signed
returns-clause-signed c = refusal_signed

pub returns-clause-least : goal.returns-clause-least
returns-clause-least c = size_least

use Rattle.dns_rate_limit.proofs.TableAccounts.{by_own}
use Rattle.dns_rate_limit.proofs.laws.clients_are_limited_by_their_own.Goals as goal

pub returns : goal.returns
returns g c = λ r cap requests client second. by_own g.K.PartialEq.eq g.met.K.Eq.laws r cap client requests second

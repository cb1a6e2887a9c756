use Rattle.dns_core.proofs.ByClient.{owns, turned, strangers}
use Rattle.dns_core.proofs.laws.clients_are_sent_their_own.Goals as goal

pub returns : goal.returns
returns c = record {
  own = λ answers settings c es is. owns answers settings es c is;
  away = λ answers settings q r e is. turned answers settings q r e is;
  stranger = λ answers settings c es absent kept. strangers answers settings c es absent kept;
}

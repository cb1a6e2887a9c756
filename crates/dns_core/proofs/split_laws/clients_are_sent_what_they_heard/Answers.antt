use Rattle.dns_core.proofs.StepsByClient.{owns}
use Rattle.dns_core.proofs.StepsTurned.{turned, turned_in}
use Rattle.dns_core.proofs.split_laws.clients_are_sent_what_they_heard.Goals as goal

pub returns : goal.returns
returns c = record {
  own = λ answers settings n steps h. (owns answers settings n steps).member h;
  away = λ answers settings q r e full. turned answers settings q r e full;
  refused = λ answers settings n steps h. turned_in answers settings n steps h;
  stranger = λ answers settings n steps h. ((owns answers settings n steps).unused h).0;
}

use Rattle.dns_core.proofs.LooksIdle.{others_look}
use Rattle.dns_core.proofs.StepsNothing.{idle_look, strange_look}
use Rattle.dns_core.proofs.split_laws.idle_looks_change_nothing.Goals as goal

pub returns : goal.returns
returns c = record {
  others = λ settings n d at secs q r apart. others_look settings d at secs n q r apart;
  stranger = λ answers settings n at secs q r off. strange_look answers settings q r at secs n off;
  again = λ answers settings n at secs q r h. idle_look answers settings q r at secs n h;
}

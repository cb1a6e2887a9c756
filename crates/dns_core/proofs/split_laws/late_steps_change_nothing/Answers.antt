use Rattle.std.proofs.Common.{ap}
use Rattle.dns_core.specs.Outs.{membership}
use Rattle.dns_core.specs.Own.{is_wide}
use Rattle.dns_core.specs.Placed.{is_beginning}
use Rattle.dns_core.proofs.StepsNothing.{closed_entry, late_beginning, nothing_entered}
use Rattle.dns_core.proofs.split_laws.late_steps_change_nothing.Goals as goal

pub returns : goal.returns
returns c = record {
  datagram = λ answers settings q r e addr o is over. late_beginning answers settings q r e (ap is_beginning is) over;
  offer = λ answers settings q r e addr is over. late_beginning answers settings q r e (ap is_beginning is) over;
  reconfigure = λ answers settings q r e dgram stream is over. nothing_entered answers settings q r e (ap is_wide is) (closed_entry e.kind (membership answers settings q).book over);
  shutdown = λ answers settings q r e is over. nothing_entered answers settings q r e (ap is_wide is) (closed_entry e.kind (membership answers settings q).book over);
}

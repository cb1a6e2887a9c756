use Rattle.std.proofs.Common.{ap, ◌∙◌}
use Rattle.dns_session.specs.Slate.{Conf}
use Rattle.dns_core.specs.Own.{is_wide}
use Rattle.dns_core.specs.Sent.{conf, slate}
use Rattle.dns_core.proofs.Plain.{plain}
use Rattle.dns_core.proofs.Gained.{idle_not_new}
use Rattle.dns_core.proofs.Late.{late_conf, late_datagram, late_offer, late_reconfigure, late_shutdown, not_over}
use Rattle.dns_core.proofs.Nothing.{nothing, nothing_wide}
use Rattle.dns_core.proofs.laws.late_events_change_nothing.Goals as goal

pub returns : goal.returns
returns c = record {
  datagram = λ answers settings q r e addr o is over.
      let known = ap (λ (k : Conf). k.over) (plain answers settings e.client q).conf ∙ over in
      let idle = late_datagram answers e addr o (slate answers settings e.client q) is known in
      nothing answers settings q r e (ap is_wide is) (idle_not_new answers settings q e idle) (λ there. idle);
  offer = λ answers settings q r e addr is over.
      let known = ap (λ (k : Conf). k.over) (plain answers settings e.client q).conf ∙ over in
      let idle = late_offer answers e addr (slate answers settings e.client q) is known in
      nothing answers settings q r e (ap is_wide is) (idle_not_new answers settings q e idle) (λ there. idle);
  reconfigure = λ answers settings q r e dgram stream is over.
      nothing_wide answers settings q r e (late_conf answers e (conf settings q) over)
      (λ c. late_reconfigure answers e dgram stream (slate answers settings c q) is (not_over answers settings c q) (ap (λ (k : Conf). k.over) (plain answers settings c q).conf ∙ over));
  shutdown = λ answers settings q r e is over.
      nothing_wide answers settings q r e (late_conf answers e (conf settings q) over)
      (λ c. late_shutdown answers e (slate answers settings c q) is (not_over answers settings c q) (ap (λ (k : Conf). k.over) (plain answers settings c q).conf ∙ over));
}

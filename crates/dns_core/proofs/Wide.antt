-- What an event that all clients hear does to one of them, by state.
use Rattle.dns_session.specs.Serving.{Serving}
use Rattle.std.proofs.Common.{◌≡◌, List, [], Bool, true, false, refl, ap, sym, ◌∙◌}
use Rattle.dns_events.specs.declared.event.Event.{Event}
use Rattle.dns_events.specs.declared.event.EventKind.{EventKind}
use Rattle.dns_events.specs.declared.event.EventKind.TheVariants.{Reconfigure, Shutdown}
use Rattle.dns_session.specs.Slate.{Slate, Effect, Phase, Open, conf_rule, with_conf}
use Rattle.dns_session.specs.Rule.{rule, in_phase}
use Rattle.dns_core.specs.Own.{is_wide}
use Rattle.dns_core.specs.Out.{is_unused, holds_slot, is_new}
use Rattle.dns_core.specs.Sent.{slate}
use Rattle.dns_core.specs.Trails.{is_open}
use Rattle.dns_events.specs.declared.settings.Settings.{Settings}
use Rattle.dns_core.proofs.Plain.{unused_is, is_going, rule_used, slot_kept}
use Rattle.dns_core.proofs.Gained.{slate_same, used_not_new, unused_not_new}
use Rattle.dns_core.proofs.Late.{reconfigure_phase, shutdown_phase}

pub open_is : (p : Phase) → is_open p ≡ true → p ≡ Open
open_is Open h = refl
open_is _ h = cc

module _ (answers : Serving) where
  wide_phase : (k : EventKind) (e : Event) (p : Phase) (s : Slate) → e.kind ≡ k → is_wide k ≡ true → is_open p ≡ false → in_phase answers e p s ≡ (s, [])
  wide_phase (Reconfigure dgram stream) e p s is w o = reconfigure_phase answers p e dgram stream s is o
  wide_phase Shutdown e p s is w o = shutdown_phase answers p e s is o
  wide_phase _ e p s is w o = cc

  -- of a connection that isn't open, and of no connection, it leaves all but the configurations
  pub wide_idle : (e : Event) (s : Slate) → is_wide e.kind ≡ true → is_open s.phase ≡ false → rule answers e s ≡ (with_conf (conf_rule e.kind s.conf) s, [])
  wide_idle e s w o = wide_phase e.kind e s.phase (with_conf (conf_rule e.kind s.conf) s) refl w o

  use_case : (e : Event) (s : Slate) (b : Bool) → is_wide e.kind ≡ true → is_unused s.phase ≡ b → is_unused (rule answers e s).0.phase ≡ is_unused s.phase
  use_case e s true w u = ap (λ (t : Effect). is_unused t.0.phase) (wide_idle e s w (ap is_open (unused_is s.phase u)))
  use_case e s false w u = rule_used answers e s u ∙ sym u

  -- no number is used by it
  pub wide_use : (e : Event) (s : Slate) → is_wide e.kind ≡ true → is_unused (rule answers e s).0.phase ≡ is_unused s.phase
  wide_use e s w = use_case e s (is_unused s.phase) w refl

  slot_case : (e : Event) (s : Slate) (b : Bool) → is_wide e.kind ≡ true → is_open s.phase ≡ b → holds_slot (rule answers e s).0 ≡ holds_slot s
  slot_case e s true w o = slot_kept answers e s (ap is_going (open_is s.phase o))
  slot_case e s false w o = ap (λ (t : Effect). holds_slot t.0) (wide_idle e s w o)

  -- and no slot given back
  pub wide_slot : (e : Event) (s : Slate) → is_wide e.kind ≡ true → holds_slot (rule answers e s).0 ≡ holds_slot s
  wide_slot e s w = slot_case e s (is_open s.phase) w refl

  module _ (settings : Settings) where
    new_case : (q : List Event) (e : Event) (b : Bool) → is_wide e.kind ≡ true → is_unused (slate answers settings e.client q).phase ≡ b → is_new answers settings q e ≡ false
    new_case q e true w u = unused_not_new answers settings q e (ap (λ (s : Slate). is_unused s.phase) (slate_same answers settings q e) ∙ (wide_use e (slate answers settings e.client q) w ∙ u))
    new_case q e false w u = used_not_new answers settings q e u

    pub wide_not_new : (q : List Event) (e : Event) → is_wide e.kind ≡ true → is_new answers settings q e ≡ false
    wide_not_new q e w = new_case q e (is_unused (slate answers settings e.client q).phase) w refl

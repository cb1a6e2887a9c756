-- Events that leave the slate of their client, and for which it is sent nothing.
use Rattle.dns_session.specs.Serving.{Serving}
use Rattle.std.proofs.Common.{◌≡◌, List, [], true, false, refl, ap, ◌∙◌}
use Rattle.dns_service.specs.Config.{Dgram, Stream}
use Rattle.dns_events.specs.declared.event.Event.{Event}
use Rattle.dns_events.specs.declared.event.EventKind.TheVariants.{Piece, Reconfigure, Shutdown}
use Rattle.dns_session.specs.Rule.{rule, in_phase}
use Rattle.dns_session.specs.Slate.{Slate, fresh}
use Rattle.dns_core.specs.Out.{is_unused}
use Rattle.dns_core.specs.Own.{is_wide}
use Rattle.dns_core.specs.Placed.{is_beginning}
use Rattle.dns_core.specs.Settings.{opening}
use Rattle.dns_core.specs.SlateBy.{slate_by}
use Rattle.dns_events.specs.declared.settings.Settings.{Settings}
use Rattle.dns_core.proofs.Late.{NotOver, late_reconfigure, late_shutdown, never_open, over_after}
use Rattle.dns_core.proofs.Plain.{narrow, unused_is}
use Rattle.dns_core.proofs.Settled.{empty_idle, nothing_received, settled_after}
use Rattle.dns_core.proofs.Tied.{no_begin}

module _ (answers : Serving) where
  -- before its client began, one by which it doesn't begin
  pub unused_leaves : (e : Event) (s : Slate) → is_unused s.phase ≡ true → is_wide e.kind ≡ false → is_beginning e.kind ≡ false → rule answers e s ≡ (s, [])
  unused_leaves e s u w n = narrow answers e s w ∙ ap (λ p. in_phase answers e p s) (unused_is s.phase u) ∙ no_begin answers e e.kind s n

  module _ (settings : Settings) (es : List Event) where
    pub piece_leaves : (e : Event) → e.kind ≡ Piece [] → rule answers e (slate_by answers settings es) ≡ (slate_by answers settings es, [])
    piece_leaves e is = empty_idle answers e (slate_by answers settings es) is (settled_after answers es (fresh (opening settings)) (nothing_received (fresh (opening settings)) refl))

    pub never_over : NotOver (slate_by answers settings es)
    never_over = over_after answers es (fresh (opening settings)) (never_open answers (opening settings))

    pub reconfigure_leaves : (e : Event) (dgram : Dgram) (stream : Stream) → e.kind ≡ Reconfigure dgram stream → (slate_by answers settings es).conf.over ≡ true → rule answers e (slate_by answers settings es) ≡ (slate_by answers settings es, [])
    reconfigure_leaves e dgram stream is over = late_reconfigure answers e dgram stream (slate_by answers settings es) is never_over over

    pub shutdown_leaves : (e : Event) → e.kind ≡ Shutdown → (slate_by answers settings es).conf.over ≡ true → rule answers e (slate_by answers settings es) ≡ (slate_by answers settings es, [])
    shutdown_leaves e is over = late_shutdown answers e (slate_by answers settings es) is never_over over

-- What an event does to the state of a connection that is served, and to the octets that it received.
use Rattle.std.proofs.Common.{◌≡◌, ℕ, ◌⊎◌, List, [], ◌∷◌, ◌++◌, length, drop, refl, sym, ◌∙◌, ap, append-nil, inl, inr}
use Rattle.std.specs.Prelude.{nat_lt, slice_get, not, ◌&&◌}
use Rattle.std.specs.List.{list_any}
use Rattle.dns_events.specs.declared.event.Event.{Event}
use Rattle.dns_events.specs.declared.event.EventKind.{EventKind}
use Rattle.dns_events.specs.declared.event.EventKind.TheVariants.{Turn, Piece, End, Fault, Write, Tick, Release, Reconfigure, Shutdown}
use Rattle.dns_events.specs.declared.event.Why.TheVariants.{Ended, Short, Idle, WriteTimeout, Fault as ByFault, Shutdown as ByShutdown}
use Rattle.dns_session.specs.Connections.{close, wind_up, take_frame, take_frames, written, write, flush, flushed, took_too_long, tick, reconfigured, released, in_transaction}
use Rattle.dns_session.specs.Frames.{frames}
use Rattle.dns_session.specs.Requests.{header_size}
use Rattle.dns_session.specs.Rule.{rule, in_phase, open_rule, flushing_rule, closed_rule}
use Rattle.dns_session.specs.Serving.{Serving}
use Rattle.dns_session.specs.Slate.{Slate, Effect, Phase, Unused, Exchange, Open, Flushing, Closed, conf_rule, with_conf}
use Rattle.dns_session.specs.Timers.{is_expired}
use Rattle.dns_session.specs.Turns.{turn}
use Rattle.dns_session.proofs.Taken.{takes}
use Rattle.dns_stream_driver.specs.Links.{piece_octets}
use Rattle.dns_stream_driver.proofs.ByKind.{in_either, turn_stays}
use Rattle.dns_stream_driver.proofs.Reasons.{IsServedBy, IsServedIn}

-- the states that may follow, and the octets received: those from before and those of the event's piece
pub record Serves (e : Event) (s t : Slate) : Type 0 where
  pub served : IsServedIn t.phase
  pub received : t.phase ≡ Open → (s.phase ≡ Open) × (t.received ≡ s.received ++ piece_octets e.kind)
  pub flushing : t.phase ≡ Flushing ByShutdown → (s.phase ≡ Flushing ByShutdown) ⊎ (e.kind ≡ Shutdown)

closes : (e : Event) (s t : Slate) → t.phase ≡ Closed → Serves e s t
closes e s t p = record { served = rw p tt; received = λ h. let no : Closed ≡ Open = sym p ∙ h in absurd cc; flushing = λ h. let no : Closed ≡ Flushing ByShutdown = sym p ∙ h in absurd cc }

goes_open : (e : Event) (s t : Slate) → s.phase ≡ Open → t.phase ≡ Open → t.received ≡ s.received ++ piece_octets e.kind → Serves e s t
goes_open e s t p q r = record { served = rw q tt; received = λ h. (p, r); flushing = λ h. let no : Open ≡ Flushing ByShutdown = sym q ∙ h in absurd cc }

stays_open : (e : Event) (s t : Slate) → s.phase ≡ Open → t.phase ≡ s.phase → piece_octets e.kind ≡ [] → t.received ≡ s.received → Serves e s t
stays_open e s t p q o r = goes_open e s t p (q ∙ p) (rw (o, r) (sym (append-nil s.received)))

flushes_on : (e : Event) (s t : Slate) → s.phase ≡ Flushing ByShutdown → t.phase ≡ s.phase → Serves e s t
flushes_on e s t p q = record { served = rw (q, p) refl; received = λ h. let no : Flushing ByShutdown ≡ Open = sym p ∙ sym q ∙ h in absurd cc; flushing = λ h. inl p }

frames_serve : (e : Event) (s : Slate) (at secs : ℕ) (fs : List (List ℕ)) (t : Slate) → s.phase ≡ Open → t.phase ≡ Open → t.received ≡ s.received ++ piece_octets e.kind → Serves e s (take_frames at secs fs t).0
frames_serve e s at secs [] t p q r = goes_open e s t p q r
frames_serve e s at secs (m ∷ fs) t p q r = in_either (λ (u : Effect). Serves e s u.0) (nat_lt (length m) header_size) (close Short t) (take_frames at secs fs (take_frame at secs m t))
    (λ h. closes e s (close Short t).0 refl)
    (λ h. let l = takes at secs m t in frames_serve e s at secs fs (take_frame at secs m t) p (l.phase ∙ q) (l.received ∙ r))

tick_serves : (e : Event) (s : Slate) → e.kind ≡ Tick → s.phase ≡ Open → Serves e s (tick e.at s).0
tick_serves e s k p = in_either (λ (u : Effect). Serves e s u.0) (is_expired s.reset_at s.connection.idle_timeout e.at && not (list_any in_transaction s.requests)) (close Idle s) (s, [])
    (λ h. closes e s (close Idle s).0 refl) (λ h. stays_open e s s p refl (rw k refl) refl)

written_serves : (e : Event) (s : Slate) (took : ℕ) (m : List ℕ) (ms : List (List ℕ)) → e.kind ≡ Write took → s.phase ≡ Open → Serves e s (written e.at m ms s).0
written_serves e s took m [] k p = stays_open e s (written e.at m [] s).0 p refl (rw k refl) refl
written_serves e s took m (n ∷ ms) k p = stays_open e s (written e.at m (n ∷ ms) s).0 p refl (rw k refl) refl

write_serves : (e : Event) (s : Slate) (took : ℕ) (q : List (List ℕ)) → e.kind ≡ Write took → s.phase ≡ Open → Serves e s (write e.at took q s).0
write_serves e s took [] k p = stays_open e s s p refl (rw k refl) refl
write_serves e s took (m ∷ ms) k p = in_either (λ (u : Effect). Serves e s u.0) (took_too_long took s) (close WriteTimeout s) (written e.at m ms s) (λ h. closes e s (close WriteTimeout s).0 refl) (λ h. written_serves e s took m ms k p)

flushed_serves : (e : Event) (s : Slate) (m : List ℕ) (ms : List (List ℕ)) → s.phase ≡ Flushing ByShutdown → Serves e s (flushed ByShutdown m ms s).0
flushed_serves e s m [] p = closes e s (flushed ByShutdown m [] s).0 refl
flushed_serves e s m (n ∷ ms) p = flushes_on e s (flushed ByShutdown m (n ∷ ms) s).0 p refl

flush_serves : (e : Event) (s : Slate) (took : ℕ) (q : List (List ℕ)) → s.phase ≡ Flushing ByShutdown → Serves e s (flush ByShutdown took q s).0
flush_serves e s took [] p = flushes_on e s s p refl
flush_serves e s took (m ∷ ms) p = in_either (λ (u : Effect). Serves e s u.0) (took_too_long took s) (close WriteTimeout s) (flushed ByShutdown m ms s) (λ h. closes e s (close WriteTimeout s).0 refl) (λ h. flushed_serves e s m ms p)

wound_serves : (e : Event) (s : Slate) (q : List (List ℕ)) → e.kind ≡ Shutdown → Serves e s (wind_up ByShutdown q s).0
wound_serves e s [] k = closes e s (close ByShutdown s).0 refl
wound_serves e s (m ∷ ms) k = record { served = refl; received = λ h. absurd cc; flushing = λ h. inr k }

module _ (answers : Serving) where
  open_serves : (e : Event) (k : EventKind) (s : Slate) → e.kind ≡ k → s.phase ≡ Open → IsServedBy k → Serves e s (open_rule answers e k s).0
  open_serves e (Turn i) s k p b = let l = turn_stays answers e i (slice_get s.requests i) s p in stays_open e s (turn answers e.at i (slice_get s.requests i) s) p l.phase (rw k refl) l.received
  open_serves e (Piece o) s k p b = frames_serve e s e.at e.secs (drop s.taken (frames (s.received ++ o))) (record s { received = s.received ++ o }) p p (rw k refl)
  open_serves e End s k p b = closes e s (close Ended s).0 refl
  open_serves e Fault s k p b = closes e s (close ByFault s).0 refl
  open_serves e (Write took) s k p b = write_serves e s took s.queue k p
  open_serves e Tick s k p b = tick_serves e s k p
  open_serves e (Reconfigure dgram stream) s k p b = stays_open e s (reconfigured stream.connection_config s) p refl (rw k refl) refl
  open_serves e Shutdown s k p b = wound_serves e s s.queue k
  open_serves e _ s k p b = absurd b

  flushing_serves : (e : Event) (k : EventKind) (s : Slate) → s.phase ≡ Flushing ByShutdown → Serves e s (flushing_rule ByShutdown k s).0
  flushing_serves e Fault s p = closes e s (close ByFault s).0 refl
  flushing_serves e (Write took) s p = flush_serves e s took s.queue p
  flushing_serves e _ s p = flushes_on e s s p refl

  closed_serves : (e : Event) (k : EventKind) (s : Slate) → s.phase ≡ Closed → Serves e s (closed_rule k s).0
  closed_serves e Release s p = closes e s (released s) p
  closed_serves e _ s p = closes e s s p

  phase_serves : (e : Event) (p : Phase) (s : Slate) → p ≡ s.phase → IsServedIn p → IsServedBy e.kind → Serves e s (in_phase answers e p s).0
  phase_serves e Unused s p v b = absurd v
  phase_serves e Exchange s p v b = absurd v
  phase_serves e Open s p v b = open_serves e e.kind s refl (sym p) b
  phase_serves e (Flushing why) s p v b = rw v (flushing_serves e e.kind s (sym p ∙ ap Flushing v))
  phase_serves e Closed s p v b = closed_serves e e.kind s (sym p)

  pub serves : (e : Event) (s : Slate) → IsServedIn s.phase → IsServedBy e.kind → Serves e s (rule answers e s).0
  serves e s v b =
      let r = phase_serves e s.phase (with_conf (conf_rule e.kind s.conf) s) refl v b in
      record { served = r.served; received = r.received; flushing = r.flushing }

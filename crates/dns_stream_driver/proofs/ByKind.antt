-- What one own event does to the slate of a connection that is served, by its kind.
use Rattle.std.proofs.Common.{◌≡◌, ℕ, ◌≤◌, List, [], ◌∷◌, ◌++◌, length, take, drop, refl, sym, ◌∙◌, ap, arith, append-nil, Bool, true, false, Option, Some, None}
use Rattle.std.specs.Prelude.{nat_lt, if◌then◌else◌, slice_get, not, ◌&&◌}
use Rattle.std.specs.List.{list_any}
use Rattle.std.proofs.lemmas.Grind.{common_steps}
use Rattle.std.proofs.lemmas.Bool.Decides.{nat_tests}
use Rattle.dns_events.specs.declared.event.Event.{Event}
use Rattle.dns_events.specs.declared.event.EventKind.{EventKind}
use Rattle.dns_events.specs.declared.event.EventKind.TheVariants.{Datagram, Turn, Piece, End, Fault, Write, Tick, Reconfigure, Shutdown}
use Rattle.dns_events.specs.declared.event.Why.{Why}
use Rattle.dns_events.specs.declared.event.Why.TheVariants.{Ended, Fault as ByFault, Short, Idle, WriteTimeout, Shutdown as ByShutdown}
use Rattle.dns_session.specs.Connections.{take_frames, take_frame, write, written, flush, flushed, close, tick, took_too_long, in_transaction}
use Rattle.dns_session.specs.Frames.{frames}
use Rattle.dns_session.specs.Requests.{header_size}
use Rattle.dns_session.specs.Rule.{rule, in_phase, open_rule, flushing_rule}
use Rattle.dns_session.specs.Serving.{Serving}
use Rattle.dns_session.specs.Slate.{Slate, SlateRequest, Effect, Phase, Open, Flushing, Conf, conf_rule, with_conf}
use Rattle.dns_session.specs.Timers.{is_expired}
use Rattle.dns_session.specs.Turns.{turn, turn_request}
use Rattle.dns_session.proofs.Taken.{takes}
use Rattle.dns_session.proofs.Walks.{Turns, turn_goes}
use Rattle.dns_recorder.specs.Own.{is_wide}
use Rattle.dns_recorder.specs.Clocks.{fault_count}
use Rattle.dns_stream_driver.specs.Closing.{closed_by}
use Rattle.dns_stream_driver.specs.Links.{frame_octets, WrittenPart}
use Rattle.dns_stream_driver.specs.Rounds.{May}
use Rattle.dns_stream_driver.specs.Runs.{MayGoOn, IsServed, ServesOn}
use Rattle.dns_stream_driver.specs.Story.{Extra}

pub in_either : {A : Type 0} (P : A → Type 0) (b : Bool) (x y : A) → (b ≡ true → P x) → (b ≡ false → P y) → P (if b then x else y)
in_either P true x y f g = f refl
in_either P false x y f g = g refl

conf_own : (k : EventKind) (c : Conf) → is_wide k ≡ false → conf_rule k c ≡ c
conf_own (Reconfigure dgram stream) c w = absurd cc
conf_own Shutdown c w = absurd cc
conf_own _ c w = refl

-- the state, the configurations and the octets received stay
pub record Stays (s t : Slate) : Type 0 where
  pub phase : t.phase ≡ s.phase
  pub conf : t.conf ≡ s.conf
  pub received : t.received ≡ s.received

stays : (s : Slate) → Stays s s
stays s = record { phase = refl; conf = refl; received = refl }

module _ (answers : Serving) where
  turns_stay : (e : Event) → Turns answers e (λ s t. Stays s t.0)
  turns_stay e = record {
    stays = λ s. record { phase = refl; conf = refl; received = refl };
    goes = λ s t u p g h. record { phase = h.phase ∙ g.phase; conf = h.conf ∙ g.conf; received = h.received ∙ g.received };
    retimes = λ a s p. record { phase = refl; conf = refl; received = refl };
    sets = λ k r s p. record { phase = refl; conf = refl; received = refl };
    queues = λ m s p free. record { phase = refl; conf = refl; received = refl };
  }

  pub turn_stays : (e : Event) (k : ℕ) (x : Option SlateRequest) (s : Slate) → s.phase ≡ Open → Stays s (turn answers e.at k x s)
  turn_stays e k None s p = stays s
  turn_stays e k (Some r) s p = in_either (λ (t : Slate). Stays s t) r.done s (turn_request answers e.at k r.held r s) (λ _. stays s) (λ _. turn_goes answers e (λ s t. Stays s t.0) (turns_stay e) k r.held r s p)

-- what an own event does, as far as its kind decides: the part that was written are the frames that it sends, and perhaps a part of
-- one more; the configurations stay; and if the connection isn't closed it is served on
pub record Does (queue : List (List ℕ)) (part : List ℕ) (conf : Conf) (faults : ℕ) (t : Effect) : Type 0 where
  pub extra : List ℕ
  pub is : part ≡ frame_octets t.1 ++ extra
  pub cut : Extra (closed_by t.1) queue extra
  pub conf_is : t.0.conf ≡ conf
  pub on : ServesOn (closed_by t.1) t.0
  pub breaks : closed_by t.1 ≡ None → faults ≡ 0

-- nothing is sent
silent : (queue : List (List ℕ)) (part : List ℕ) (s : Slate) → part ≡ [] → IsServed s → Does queue part s.conf 0 (s, [])
silent queue part s e live = record { extra = []; is = e; cut = refl; conf_is = refl; on = live; breaks = λ n. refl }

-- it is closed
closes : (queue : List (List ℕ)) (part : List ℕ) (faults : ℕ) (why : Why) (s : Slate) → Extra (Some why) queue part → Does queue part s.conf faults (close why s)
closes queue part faults why s e = record { extra = part; is = refl; cut = e; conf_is = refl; on = tt; breaks = λ n. absurd cc }

open_on : (s : Slate) → s.phase ≡ Open → IsServed s
open_on s e = rw e tt

take_none : (k : ℕ) → take {A = ℕ} k [] ≡ []
take_none k = grind (arith, common_steps)

take_all : (k : ℕ) (m : List ℕ) → length m ≤ k → take k m ≡ m
take_all k m l = grind (arith, common_steps)

frames_do : (at secs : ℕ) (fs : List (List ℕ)) (queue : List (List ℕ)) (part : List ℕ) (s : Slate) → part ≡ [] → s.phase ≡ Open → Does queue part s.conf 0 (take_frames at secs fs s)
frames_do at secs [] queue part s e o = silent queue part s e (open_on s o)
frames_do at secs (f ∷ fs) queue part s e o = in_either (Does queue part s.conf 0) (nat_lt (length f) header_size) (close Short s) (take_frames at secs fs (take_frame at secs f s))
    (λ h. closes queue part 0 Short s e)
    (λ h. let k = takes at secs f s in rw k.conf at (frames_do at secs fs queue part (take_frame at secs f s) e (k.phase ∙ o)))

written_does : (at : ℕ) (m : List ℕ) (ms : List (List ℕ)) (s : Slate) (part : List ℕ) → s.phase ≡ Open → part ≡ m → Does (m ∷ ms) part s.conf 0 (written at m ms s)
written_does at m [] s part o e = record { extra = []; is = rw (append-nil m, append-nil m) e; cut = refl; conf_is = refl; on = rw o tt; breaks = λ n. refl }
written_does at m (n ∷ ms) s part o e = record { extra = []; is = rw (append-nil m, append-nil m) e; cut = refl; conf_is = refl; on = rw o tt; breaks = λ n. refl }

flushed_does : (why : Why) (m : List ℕ) (ms : List (List ℕ)) (s : Slate) (part : List ℕ) → s.phase ≡ Flushing why → why ≡ ByShutdown → part ≡ m → Does (m ∷ ms) part s.conf 0 (flushed why m ms s)
flushed_does why m [] s part o w e = rw w (record { extra = []; is = rw (append-nil m, append-nil m) e; cut = refl; conf_is = refl; on = tt; breaks = λ n. refl })
flushed_does why m (n ∷ ms) s part o w e = record { extra = []; is = rw (append-nil m, append-nil m) e; cut = refl; conf_is = refl; on = rw o (w, omega arith); breaks = λ n. refl }

-- the whole of the first frame was written, if the write took no longer than it may
wrote_all : (took limit : ℕ) (m : List ℕ) (ms : List (List ℕ)) (part : List ℕ) → nat_lt limit took ≡ false → WrittenPart (Write took) (m ∷ ms) limit part → part ≡ m
wrote_all took limit m ms part e h = let l : took ≤ limit = grind (arith, nat_tests, e) in h.is ∙ take_all h.written m (h.whole l)

write_does : (at took : ℕ) (q : List (List ℕ)) (s : Slate) (part : List ℕ) → s.phase ≡ Open → WrittenPart (Write took) q s.connection.response_write_timeout part → Does q part s.conf 0 (write at took q s)
write_does at took [] s part o h = silent [] part s (h.is ∙ take_none h.written) (open_on s o)
write_does at took (m ∷ ms) s part o h = in_either (Does (m ∷ ms) part s.conf 0) (took_too_long took s) (close WriteTimeout s) (written at m ms s)
    (λ e. closes (m ∷ ms) part 0 WriteTimeout s (record { written = h.written; is = h.is }))
    (λ e. written_does at m ms s part o (wrote_all took s.connection.response_write_timeout m ms part e h))

flush_does : (why : Why) (took : ℕ) (q : List (List ℕ)) (s : Slate) (part : List ℕ) → s.phase ≡ Flushing why → why ≡ ByShutdown → 1 ≤ length q → WrittenPart (Write took) q s.connection.response_write_timeout part → Does q part s.conf 0 (flush why took q s)
flush_does why took [] s part o w l h = absurd (omega arith)
flush_does why took (m ∷ ms) s part o w l h = in_either (Does (m ∷ ms) part s.conf 0) (took_too_long took s) (close WriteTimeout s) (flushed why m ms s)
    (λ e. closes (m ∷ ms) part 0 WriteTimeout s (record { written = h.written; is = h.is }))
    (λ e. flushed_does why m ms s part o w (wrote_all took s.connection.response_write_timeout m ms part e h))

module _ (answers : Serving) where
  turn_does : (event : Event) (k : ℕ) (r : Option SlateRequest) (s : Slate) (part : List ℕ) → s.phase ≡ Open → part ≡ [] → Does s.queue part s.conf 0 (turn answers event.at k r s, [])
  turn_does event k r s part o e = let h = turn_stays answers event k r s o in rw h.conf at (silent s.queue part (turn answers event.at k r s) e (open_on (turn answers event.at k r s) (h.phase ∙ o)))

  tick_does : (at : ℕ) (s : Slate) (part : List ℕ) → s.phase ≡ Open → part ≡ [] → Does s.queue part s.conf 0 (tick at s)
  tick_does at s part o e = in_either (Does s.queue part s.conf 0) (is_expired s.reset_at s.connection.idle_timeout at && not (list_any in_transaction s.requests)) (close Idle s) (s, [])
      (λ h. closes s.queue part 0 Idle s e) (λ h. silent s.queue part s e (open_on s o))

  open_does : (event : Event) (below : ℕ) (k : EventKind) (s : Slate) (part : List ℕ) → s.phase ≡ Open → is_wide k ≡ false → May below k s → WrittenPart k s.queue s.connection.response_write_timeout part → Does s.queue part s.conf (fault_count k) (open_rule answers event k s)
  open_does event below (Turn k) s part o w m h = turn_does event k (slice_get s.requests k) s part o h
  open_does event below (Piece p) s part o w m h = frames_do event.at event.secs (drop s.taken (frames (s.received ++ p))) s.queue part (record s { received = s.received ++ p }) h o
  open_does event below End s part o w m h = closes s.queue part 0 Ended s h
  open_does event below Fault s part o w m h = closes s.queue part 1 ByFault s (record { written = h.written; is = h.is })
  open_does event below (Write took) s part o w m h = write_does event.at took s.queue s part o h
  open_does event below Tick s part o w m h = tick_does event.at s part o h
  open_does event below (Reconfigure dgram stream) s part o w m h = absurd cc
  open_does event below Shutdown s part o w m h = absurd cc
  open_does event below _ s part o w m h = absurd m

  flushing_does : (why : Why) (below : ℕ) (k : EventKind) (s : Slate) (part : List ℕ) → s.phase ≡ Flushing why → why ≡ ByShutdown → 1 ≤ length s.queue → is_wide k ≡ false → May below k s → WrittenPart k s.queue s.connection.response_write_timeout part → Does s.queue part s.conf (fault_count k) (flushing_rule why k s)
  flushing_does why below (Turn k) s part o y l w m h = silent s.queue part s h (rw o (y, l))
  flushing_does why below (Piece p) s part o y l w m h = silent s.queue part s h (rw o (y, l))
  flushing_does why below End s part o y l w m h = silent s.queue part s h (rw o (y, l))
  flushing_does why below Fault s part o y l w m h = closes s.queue part 1 ByFault s (record { written = h.written; is = h.is })
  flushing_does why below (Write took) s part o y l w m h = flush_does why took s.queue s part o y l h
  flushing_does why below Tick s part o y l w m h = silent s.queue part s h (rw o (y, l))
  flushing_does why below (Reconfigure dgram stream) s part o y l w m h = absurd cc
  flushing_does why below Shutdown s part o y l w m h = absurd cc
  flushing_does why below _ s part o y l w m h = absurd m

  phase_does : (event : Event) (below : ℕ) (p : Phase) (s : Slate) (part : List ℕ) → p ≡ s.phase → MayGoOn p s.queue → is_wide event.kind ≡ false → May below event.kind s → WrittenPart event.kind s.queue s.connection.response_write_timeout part → Does s.queue part s.conf (fault_count event.kind) (in_phase answers event p s)
  phase_does event below Open s part p live w m h = open_does event below event.kind s part (sym p) w m h
  phase_does event below (Flushing why) s part p live w m h = flushing_does why below event.kind s part (sym p) live.0 live.1 w m h
  phase_does event below _ s part p live w m h = absurd live

  own_rule : (event : Event) (s : Slate) → is_wide event.kind ≡ false → rule answers event s ≡ in_phase answers event s.phase s
  own_rule event s w = ap (λ (c : Conf). in_phase answers event s.phase (with_conf c s)) (conf_own event.kind s.conf w)

  -- an own event that may come
  pub event_does : (event : Event) (below : ℕ) (s : Slate) (part : List ℕ) → IsServed s → is_wide event.kind ≡ false → May below event.kind s → WrittenPart event.kind s.queue s.connection.response_write_timeout part → Does s.queue part s.conf (fault_count event.kind) (rule answers event s)
  event_does event below s part live w m h = rw (own_rule event s w) (phase_does event below s.phase s part refl live w m h)

pub fault_most : (k : EventKind) → fault_count k ≤ 1
fault_most (Datagram addr o) = omega arith
fault_most _ = omega arith

-- Which own event is chosen, and what it does.
use Rattle.std.proofs.Common.{◌≡◌, ℕ, ◌≤◌, List, [], ◌∷◌, length, slice_get, arith, refl, sym, ap, append-nil, Some, None, inl, inr, false}
use Rattle.dns_io.specs.Traffic.{Traffic}
use Rattle.dns_service.specs.Answer.{Answer}
use Rattle.dns_events.specs.declared.event.Event.{Event}
use Rattle.dns_events.specs.declared.event.EventKind.{EventKind}
use Rattle.dns_events.specs.declared.event.EventKind.TheVariants.{Turn, Piece, End, Fault, Write, Tick}
use Rattle.dns_service.specs.declared.polled.PolledRequest.{PolledRequest}
use Rattle.dns_session.specs.Serving.{Serving}
use Rattle.dns_session.specs.Slate.{Slate}
use Rattle.dns_session.specs.Stands.{Stands, waiting, write_limit}
use Rattle.dns_session.specs.declared.client.ClientCore.{ClientCore}
use Rattle.dns_recorder.specs.Own.{is_wide}
use Rattle.dns_stream_driver.specs.Links.{front, MovedBy, WrittenPart, IsWrittenEvent, IsReadEvent, Unread}
use Rattle.dns_stream_driver.specs.Rounds.{May, next_turn, IsWriting, IsRoundOver}
use Rattle.dns_stream_driver.specs.Steps.{Chosen, ActedPart}

pub empty_of : (q : List (List ℕ)) → None ≡ slice_get q 0 → q ≡ []
empty_of [] e = refl
empty_of (x ∷ q) e = absurd cc

pub front_of : (q : List (List ℕ)) (m : List ℕ) → Some m ≡ slice_get q 0 → front q ≡ m
front_of [] m e = absurd cc
front_of (x ∷ q) m e = cc

pub writing_of : (q : List (List ℕ)) (m : List ℕ) → Some m ≡ slice_get q 0 → 1 ≤ length q
writing_of [] m e = absurd cc
writing_of (x ∷ q) m e = omega arith

part_front : (kind : EventKind) (q q' : List (List ℕ)) (limit : ℕ) (part : List ℕ) → front q' ≡ front q → WrittenPart kind q limit part → WrittenPart kind q' limit part
part_front Fault q q' limit part e h = record { written = h.written; is = rw e h.is }
part_front (Write took) q q' limit part e h = record { written = h.written; is = rw e h.is; whole = rw e h.whole }
part_front _ q q' limit part e h = h

part_limit : (kind : EventKind) (q : List (List ℕ)) (l m : ℕ) (part : List ℕ) → IsReadEvent kind → WrittenPart kind q l part → WrittenPart kind q m part
part_limit Fault q l m part r h = record { written = h.written; is = h.is }
part_limit (Write took) q l m part r h = absurd r
part_limit _ q l m part r h = h

pub write_may : (kind : EventKind) (below : ℕ) (s : Slate) → IsWrittenEvent kind → IsWriting s → May below kind s
write_may Fault below s o w = inl w
write_may (Write took) below s o w = w
write_may _ below s o w = absurd o

pub write_own : (kind : EventKind) → IsWrittenEvent kind → is_wide kind ≡ false
write_own Fault o = refl
write_own (Write took) o = refl
write_own _ o = absurd o

pub read_may : (kind : EventKind) (below : ℕ) (s : Slate) → IsReadEvent kind → IsRoundOver below s → May below kind s
read_may (Piece p) below s o w = w
read_may End below s o w = w
read_may Fault below s o w = inr w
read_may Tick below s o w = w
read_may _ below s o w = absurd o

pub read_own : (kind : EventKind) → IsReadEvent kind → is_wide kind ≡ false
read_own (Piece p) o = refl
read_own End o = refl
read_own Fault o = refl
read_own Tick o = refl
read_own _ o = absurd o

module _ {W R F : Type 0} (answer : PolledRequest F R → ℕ → Answer) where
  pub chosen_write : (client below limit : ℕ) (core : ClientCore W R F) (event : Event) (t t' : Traffic) (frame : List ℕ) →
      Some frame ≡ slice_get (waiting core.state) 0 → ((answers : Serving) (s : Slate) → Stands answer answers core s → Some frame ≡ slice_get s.queue 0) →
      MovedBy event.kind (frame ∷ []) limit t t' → limit ≡ write_limit core.state → IsWrittenEvent event.kind → event.client ≡ client →
      Chosen answer client below core event t t'
  chosen_write client below limit core event t t' frame v f m l o c = record {
    of = c;
    is_own = write_own event.kind o;
    may = λ answers s h. write_may event.kind below s o (writing_of s.queue frame (f answers s h));
    moved = record { part = m.part; came = m.came; full = m.full; ticks = m.ticks; ends = m.ends; went = m.went; part_is = rw (← l) (part_front event.kind (frame ∷ []) (waiting core.state) limit m.part (front_of (waiting core.state) frame v) m.part_is) };
  }

  pub chosen_turn : (client below k : ℕ) (core : ClientCore W R F) (event : Event) (t : Traffic) →
      ((answers : Serving) (s : Slate) → Stands answer answers core s → None ≡ slice_get s.queue 0) →
      ((answers : Serving) (s : Slate) → Stands answer answers core s → Some k ≡ next_turn below s.requests) →
      event.kind ≡ Turn k → event.client ≡ client → Chosen answer client below core event t t
  chosen_turn client below k core event t f n e c = record {
    of = c;
    is_own = rw e refl;
    may = λ answers s h. rw e (empty_of s.queue (f answers s h), sym (n answers s h));
    moved = record { part = []; came = rw e (sym (append-nil t.came)); full = rw e tt; ticks = rw e (omega arith); ends = rw e (omega arith); went = sym (append-nil t.went); part_is = rw e refl };
  }

  pub chosen_read : (client below : ℕ) (core : ClientCore W R F) (event : Event) (t t' : Traffic) →
      None ≡ slice_get (waiting core.state) 0 → ((answers : Serving) (s : Slate) → Stands answer answers core s → None ≡ slice_get s.queue 0) →
      ((answers : Serving) (s : Slate) → Stands answer answers core s → None ≡ next_turn below s.requests) →
      MovedBy event.kind [] 0 t t' → IsReadEvent event.kind → event.client ≡ client → Chosen answer client below core event t t'
  chosen_read client below core event t t' v f n m o c = record {
    of = c;
    is_own = read_own event.kind o;
    may = λ answers s h. read_may event.kind below s o (empty_of s.queue (f answers s h), sym (n answers s h));
    moved = record { part = m.part; came = m.came; full = m.full; ticks = m.ticks; ends = m.ends; went = m.went; part_is = part_limit event.kind (waiting core.state) 0 (write_limit core.state) m.part o (part_front event.kind [] (waiting core.state) 0 m.part (ap front (empty_of (waiting core.state) v)) m.part_is) };
  }

  pub part_read : (client below : ℕ) (core : ClientCore W R F) (n : List Event) (t t' : Traffic) → Unread t t' → ActedPart answer client below core n n t t'
  part_read client below core n t t' u = record { part = inl (refl, u) }

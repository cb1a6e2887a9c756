-- What single steps say of why a connection is closed.
use Rattle.std.proofs.Common.{◌≡◌, ℕ, ◌+◌, ◌≤◌, List, [], ◌++◌, length, take, slice_get, arith, refl, sym, ◌∙◌, ap, inl, inr, Some, None}
use Rattle.std.proofs.lemmas.Grind.{common_steps}
use Rattle.dns_io.specs.Causes.{Rose}
use Rattle.dns_io.specs.Traffic.{Traffic}
use Rattle.dns_service.specs.Answer.{Answer}
use Rattle.dns_events.specs.declared.event.Event.{Event}
use Rattle.dns_events.specs.declared.event.EventKind.{EventKind}
use Rattle.dns_events.specs.declared.event.EventKind.TheVariants.{Turn, Piece, End, Fault, Write, Tick}
use Rattle.dns_service.specs.declared.polled.PolledRequest.{PolledRequest}
use Rattle.dns_session.specs.Serving.{Serving}
use Rattle.dns_session.specs.Slate.{Slate}
use Rattle.dns_session.specs.Stands.{Stands}
use Rattle.dns_session.specs.declared.client.ClientCore.{ClientCore}
use Rattle.dns_stream_driver.specs.Blames.{EndBlames, EndAgain, Blames, WroteWhole, WroteFirst, ChosenFor}
use Rattle.dns_stream_driver.specs.Links.{front, WroteUntil, IsWrittenEvent, IsReadEvent}
use Rattle.dns_stream_driver.specs.Rounds.{next_turn}
use Rattle.dns_stream_driver.specs.declared.writing.WriteEnd.TheVariants.{Whole, Failed, Late}
use Rattle.dns_stream_driver.proofs.Choices.{empty_of, front_of, writing_of, write_may, write_own, read_may, read_own}

-- while a frame is written
pub end_whole : (f : ℕ) → EndBlames Whole f f
end_whole f = record { later = omega arith; failed = λ e. absurd cc; same = λ no. refl }

pub end_late : (at secs f f' : ℕ) → f ≤ f' → f' ≤ f → EndBlames (Late at secs) f f'
end_late at secs f f' l m = record { later = l; failed = λ e. absurd cc; same = λ no. omega (arith, l, m) }

pub end_failed : (f f1 f2 : ℕ) → f ≤ f1 → f1 ≤ f2 → Rose f1 f2 → EndBlames Failed f f2
end_failed f f1 f2 l m r = record { later = omega arith; failed = λ e. omega (arith, r); same = λ no. absurd (no refl) }

pub again_whole : (a b : ℕ) → a ≤ b → EndAgain Whole a b
again_whole a b l = record { later = l; late = λ at secs e. absurd cc }

pub again_failed : (a : ℕ) (w w1 : Traffic) → a ≤ w.full_writes → w1 ≡ w → EndAgain Failed a w1.full_writes
again_failed a w w1 l e = record { later = rw e l; late = λ at secs h. absurd cc }

pub again_late : (at secs a : ℕ) (w w1 w2 : Traffic) → a ≤ w.full_writes → w1 ≡ record w { full_writes = w.full_writes + 1 } → w2 ≡ w1 → EndAgain (Late at secs) a w2.full_writes
again_late at secs a w w1 w2 l e f = record { later = rw (f, e) (omega arith); late = λ i j h. rw (f, e) (omega arith) }

-- the event of a frame
pub blames_whole : (took f f' : ℕ) → EndBlames Whole f f' → Blames (Write took) f f'
blames_whole took f f' b = record { later = b.later; fault = λ e. absurd cc; same = λ no. b.same (λ (e : Whole ≡ Failed). absurd cc) }

pub blames_late : (at secs took f f' : ℕ) → EndBlames (Late at secs) f f' → Blames (Write took) f f'
blames_late at secs took f f' b = record { later = b.later; fault = λ e. absurd cc; same = λ no. b.same (λ (e : Late at secs ≡ Failed). absurd cc) }

pub blames_failed : (kind : EventKind) (f f' : ℕ) → kind ≡ Fault → EndBlames Failed f f' → Blames kind f f'
blames_failed kind f f' k b = record { later = b.later; fault = λ e. b.failed refl; same = λ no. absurd (no k) }

take_all : (k : ℕ) (m : List ℕ) → length m ≤ k → take k m ≡ m
take_all k m l = grind (arith, common_steps)

pub whole_written : (frame : List ℕ) (start limit took : ℕ) (w w' : Traffic) → WroteUntil Whole frame start limit w w' → EndAgain Whole w.full_writes w'.full_writes → WroteWhole (Write took) frame w w'
whole_written frame start limit took w w' r a = record { later = a.later; write = λ i e. inl (r.front.went ∙ ap (λ (o : List ℕ). w.went ++ o) (take_all r.written frame r.bound)) }

pub whole_late : (frame : List ℕ) (took at secs : ℕ) (w w' : Traffic) → EndAgain (Late at secs) w.full_writes w'.full_writes → WroteWhole (Write took) frame w w'
whole_late frame took at secs w w' a = record { later = a.later; write = λ i e. inr (a.late at secs refl) }

pub whole_failed : (frame : List ℕ) (kind : EventKind) (w w' : Traffic) → kind ≡ Fault → EndAgain Failed w.full_writes w'.full_writes → WroteWhole kind frame w w'
whole_failed frame kind w w' k a = record { later = a.later; write = λ i e. let no : Fault ≡ Write i = sym k ∙ e in absurd cc }

-- the event of a read
pub blames_read : (o : List ℕ) (f f' : ℕ) → f' ≡ f → Blames (Piece o) f f'
blames_read o f f' a = record { later = omega (arith, a); fault = λ e. absurd cc; same = λ no. a }

pub blames_tick : (f f' : ℕ) → f ≤ f' → f' ≤ f → Blames Tick f f'
blames_tick f f' l m = record { later = l; fault = λ e. absurd cc; same = λ no. omega (arith, l, m) }

pub blames_end : (f f' : ℕ) → f' ≡ f → Blames End f f'
blames_end f f' a = record { later = omega (arith, a); fault = λ e. absurd cc; same = λ no. a }

pub blames_fault : (f f' : ℕ) → f ≤ f' → Rose f f' → Blames Fault f f'
blames_fault f f' l r = record { later = l; fault = λ e. r; same = λ no. absurd (no refl) }

pub whole_got : (o came : List ℕ) (w w' : Traffic) → w' ≡ record w { came = came } → WroteWhole (Piece o) [] w w'
whole_got o came w w' e = record { later = rw e (omega arith); write = λ i h. absurd cc }

pub whole_again : (r : ℕ) (w w1 w2 : Traffic) → w1 ≡ record w { empty_reads = r } → w2 ≡ w1 → WroteWhole Tick [] w w2
whole_again r w w1 w2 e f = record { later = rw (f, e) (omega arith); write = λ i h. absurd cc }

pub whole_end : (r : ℕ) (w w1 : Traffic) → w1 ≡ record w { ends = r } → WroteWhole End [] w w1
whole_end r w w1 e = record { later = rw e (omega arith); write = λ i h. absurd cc }

pub whole_fault : (w w1 : Traffic) → w1 ≡ w → WroteWhole Fault [] w w1
whole_fault w w1 e = record { later = rw e (omega arith); write = λ i h. absurd cc }

read_whole : (kind : EventKind) (m : List ℕ) (w w' : Traffic) → IsReadEvent kind → WroteWhole kind [] w w' → WroteWhole kind m w w'
read_whole kind m w w' o h = record { later = h.later; write = λ i e. let no : IsReadEvent (Write i) = rw e at o in absurd no }

module _ {W R F : Type 0} (answer : PolledRequest F R → ℕ → Answer) where
  pub for_write : (below : ℕ) (core : ClientCore W R F) (event : Event) (f f' : ℕ) (frame : List ℕ) →
      ((answers : Serving) (s : Slate) → Stands answer answers core s → Some frame ≡ slice_get s.queue 0) → IsWrittenEvent event.kind → Blames event.kind f f' →
      ChosenFor answer below core event f f'
  for_write below core event f f' frame q o b = record { is_own = write_own event.kind o; may = λ answers s h. write_may event.kind below s o (writing_of s.queue frame (q answers s h)); blames = b }

  pub for_turn : (below k : ℕ) (core : ClientCore W R F) (event : Event) (f : ℕ) →
      ((answers : Serving) (s : Slate) → Stands answer answers core s → None ≡ slice_get s.queue 0) →
      ((answers : Serving) (s : Slate) → Stands answer answers core s → Some k ≡ next_turn below s.requests) →
      event.kind ≡ Turn k → ChosenFor answer below core event f f
  for_turn below k core event f q n e = record {
    is_own = rw e refl;
    may = λ answers s h. rw e (empty_of s.queue (q answers s h), sym (n answers s h));
    blames = record { later = omega arith; fault = λ h. let no : Turn k ≡ Fault = sym e ∙ h in absurd cc; same = λ no. refl };
  }

  pub for_read : (below : ℕ) (core : ClientCore W R F) (event : Event) (f f' : ℕ) →
      ((answers : Serving) (s : Slate) → Stands answer answers core s → None ≡ slice_get s.queue 0) →
      ((answers : Serving) (s : Slate) → Stands answer answers core s → None ≡ next_turn below s.requests) →
      IsReadEvent event.kind → Blames event.kind f f' → ChosenFor answer below core event f f'
  for_read below core event f f' q n o b = record { is_own = read_own event.kind o; may = λ answers s h. read_may event.kind below s o (empty_of s.queue (q answers s h), sym (n answers s h)); blames = b }

  pub first_write : (core : ClientCore W R F) (kind : EventKind) (w w' : Traffic) (frame : List ℕ) →
      ((answers : Serving) (s : Slate) → Stands answer answers core s → Some frame ≡ slice_get s.queue 0) → WroteWhole kind frame w w' → WroteFirst answer core kind w w'
  first_write core kind w w' frame q h answers s stands = rw (front_of s.queue frame (q answers s stands)) h

  pub first_turn : (core : ClientCore W R F) (kind : EventKind) (k : ℕ) (w : Traffic) → kind ≡ Turn k → WroteFirst answer core kind w w
  first_turn core kind k w e answers s stands = record { later = omega arith; write = λ i h. let no : Turn k ≡ Write i = sym e ∙ h in absurd cc }

  pub first_read : (core : ClientCore W R F) (kind : EventKind) (w w' : Traffic) → IsReadEvent kind → WroteWhole kind [] w w' → WroteFirst answer core kind w w'
  first_read core kind w w' o h answers s stands = read_whole kind (front s.queue) w w' o h

-- Memory ran out in a story.
use Rattle.std.proofs.Common.{◌≡◌, ℕ, List, [], ◌∷◌, ◌++◌, refl, sym, ◌∙◌, append_assoc, append-nil, None, inl, inr}
use Rattle.dns_events.specs.declared.look.Look.{Look}
use Rattle.dns_book.specs.declared.history.Known.{Known}
use Rattle.dns_io.specs.Traffic.{Traffic}
use Rattle.dns_service.specs.Answer.{Answer}
use Rattle.dns_events.specs.declared.event.Event.{Event}
use Rattle.dns_events.specs.declared.event.EventKind.{EventKind}
use Rattle.dns_events.specs.declared.event.EventKind.TheVariants.{Fault, Write}
use Rattle.dns_service.specs.declared.polled.PolledRequest.{PolledRequest}
use Rattle.dns_session.specs.After.{slate_after, sent_after}
use Rattle.dns_session.specs.Rule.{rule}
use Rattle.dns_session.specs.Serving.{Serving}
use Rattle.dns_session.specs.Slate.{Slate}
use Rattle.dns_session.specs.declared.client.ClientCore.{ClientCore}
use Rattle.dns_recorder.specs.Clocks.{fault_count}
use Rattle.dns_recorder.specs.Notes.{NotedWide}
use Rattle.dns_stream_driver.specs.Closing.{closed_by}
use Rattle.dns_stream_driver.specs.Links.{pieces_in, piece_octets, frame_octets, IsFrontCut, WrittenPart, Unread}
use Rattle.dns_stream_driver.specs.Rounds.{turned_all}
use Rattle.dns_stream_driver.specs.Runs.{Run}
use Rattle.dns_stream_driver.specs.Steps.{Chosen, ActedPart}
use Rattle.dns_stream_driver.specs.Story.{Broken}
use Rattle.dns_stream_driver.proofs.Appends.{all_of_append, pieces_append, all_but_snoc, sent_append, rounds_append, closed_more}
use Rattle.dns_stream_driver.proofs.ByKind.{Does}
use Rattle.dns_stream_driver.proofs.Running.{waits, chosen_does, went_more}
use Rattle.dns_stream_driver.proofs.Wide.{quiet, nobodys_of, frames_append, rounds_wide, wide_frames}

no_cut : (q : List (List ℕ)) (extra : List ℕ) → extra ≡ [] → IsFrontCut q extra
no_cut q extra e = record { written = 0; is = e }

part_cut : (kind : EventKind) (q : List (List ℕ)) (limit : ℕ) (part : List ℕ) → WrittenPart kind q limit part → IsFrontCut q part
part_cut Fault q limit part e = record { written = e.written; is = e.is }
part_cut (Write took) q limit part e = record { written = e.written; is = e.is }
part_cut _ q limit part e = no_cut q part e

went_cut : (went went1 went2 f e part : List ℕ) → went2 ≡ went1 ++ part → went1 ≡ went ++ (f ++ e) → e ≡ [] → went2 ≡ went ++ (f ++ part)
went_cut went went1 went2 f e part a b c = rw (a, b, c) (simp (append_assoc, append-nil))

module _ (answers : Serving) where
  -- before the first event
  pub broken_none : (s : Slate) (client : ℕ) (n : List Event) (t : Traffic) → Broken answers s client n n t t
  broken_none s client n t = record { events = []; unread = []; extra = []; noted = sym (append-nil n); mine = tt; rounds = tt; came = sym (append-nil t.came); went = sym (append-nil t.went); cut = inl (no_cut s.queue [] refl) }

module _ {W R F : Type 0} (answer : PolledRequest F R → ℕ → Answer) (answers : Serving) where
  -- at a look
  pub broken_heard : (s : Slate) (client below : ℕ) (first last : Look) (core : ClientCore W R F) (n n1 n2 : List Event) (k k1 : Known) (t t1 : Traffic) →
      Run answer answers s client first last 0 below None core n n1 k k1 t t1 → NotedWide n1 n2 → Broken answers s client n n2 t t1
  broken_heard s client below first last core n n1 n2 k k1 t t1 r h =
      let y = r.story in
      let s1 : Slate = slate_after answers s y.events in
      let still = quiet h.events h.wide in
      let fs : frame_octets (sent_after answers s (y.events ++ h.events)) ≡ frame_octets (sent_after answers s y.events) = rw (sent_append answers s y.events h.events, frames_append (sent_after answers s y.events) (sent_after answers s1 h.events), wide_frames answers s1 h.events h.wide, append-nil (frame_octets (sent_after answers s y.events))) refl in
      record {
        events = y.events ++ h.events;
        unread = [];
        extra = [];
        noted = rw (h.noted, y.noted) (append_assoc n y.events h.events);
        mine = all_of_append client y.events h.events y.mine (nobodys_of client h.events h.wide h.nobodys);
        rounds = rounds_append answers 0 s y.events h.events y.rounds (rounds_wide answers (turned_all 0 y.events) s1 h.events h.wide);
        came = rw (y.came, pieces_append y.events h.events, still.pieces_are) (simp append-nil);
        went = rw (y.went, y.cut, fs) refl;
        cut = inl (no_cut (slate_after answers s (y.events ++ h.events)).queue [] refl);
      }

  -- at a read
  broken_read : (s : Slate) (client below : ℕ) (first last : Look) (core : ClientCore W R F) (n n1 : List Event) (k k1 : Known) (t t1 t2 : Traffic) →
      Run answer answers s client first last 1 below None core n n1 k k1 t t1 → Unread t1 t2 → Broken answers s client n n1 t t2
  broken_read s client below first last core n n1 k k1 t t1 t2 r u =
      let y = r.story in
      record {
        events = y.events;
        unread = u.unread;
        extra = [];
        noted = y.noted;
        mine = y.mine;
        rounds = y.rounds;
        came = rw (u.came, y.came) (append_assoc t.came (pieces_in y.events) u.unread);
        went = rw (u.went, y.went, y.cut) refl;
        cut = inl (no_cut (slate_after answers s y.events).queue [] refl);
      }

  -- once an event was done, which was noted, or was not
  broken_noted : (s : Slate) (client below : ℕ) (first last : Look) (core : ClientCore W R F) (event : Event) (n n1 n2 : List Event) (k k1 : Known) (t t1 t2 : Traffic) →
      Run answer answers s client first last 1 below None core n n1 k k1 t t1 → Chosen answer client below core event t1 t2 → n2 ≡ n1 ++ event ∷ [] → Broken answers s client n n2 t t2
  broken_noted s client below first last core event n n1 n2 k k1 t t1 t2 r c noted =
      let y = r.story in
      let m = c.moved in
      let s1 : Slate = slate_after answers s y.events in
      let g : Does s1.queue m.part s1.conf (fault_count event.kind) (rule answers event s1) = chosen_does answer answers client below core event s1 t1 t2 r.stands r.goes_on c in
      let events : List Event = y.events ++ event ∷ [] in
      let closes : closed_by (sent_after answers s events) ≡ closed_by (rule answers event s1).1 = rw (sent_append answers s y.events (event ∷ []), append-nil (rule answers event s1).1) (closed_more (sent_after answers s y.events) (rule answers event s1).1 (closed_by (rule answers event s1).1) y.closed refl) in
      let fs : frame_octets (sent_after answers s events) ≡ frame_octets (sent_after answers s y.events) ++ frame_octets (rule answers event s1).1 = rw (sent_append answers s y.events (event ∷ []), append-nil (rule answers event s1).1) (frames_append (sent_after answers s y.events) (rule answers event s1).1) in
      record {
        events = events;
        unread = [];
        extra = g.extra;
        noted = rw (noted, y.noted) (append_assoc n y.events (event ∷ []));
        mine = all_of_append client y.events (event ∷ []) y.mine (rw c.is_own c.of, tt);
        rounds = rounds_append answers 0 s y.events (event ∷ []) y.rounds (rw (← r.below_is) (c.may answers s1 r.stands), tt);
        came = rw (m.came, y.came, pieces_append y.events (event ∷ [])) (simp (append_assoc, append-nil));
        went = went_more t.went t1.went t2.went (frame_octets (sent_after answers s y.events)) y.extra m.part (frame_octets (rule answers event s1).1) g.extra (frame_octets (sent_after answers s events)) m.went y.went y.cut g.is fs;
        cut = inr (rw (all_but_snoc y.events event, closes) g.cut);
      }

  broken_lost : (s : Slate) (client below : ℕ) (first last : Look) (core : ClientCore W R F) (event : Event) (n n1 n2 : List Event) (k k1 : Known) (t t1 t2 : Traffic) →
      Run answer answers s client first last 1 below None core n n1 k k1 t t1 → Chosen answer client below core event t1 t2 → n2 ≡ n1 → Broken answers s client n n2 t t2
  broken_lost s client below first last core event n n1 n2 k k1 t t1 t2 r c same =
      let y = r.story in
      let m = c.moved in
      let s1 : Slate = slate_after answers s y.events in
      let w = waits answer answers core s1 r.stands r.goes_on in
      let part_is : WrittenPart event.kind s1.queue s1.connection.response_write_timeout m.part = rw (w.queue, w.limit) at m.part_is in
      record {
        events = y.events;
        unread = piece_octets event.kind;
        extra = m.part;
        noted = same ∙ y.noted;
        mine = y.mine;
        rounds = y.rounds;
        came = rw (m.came, y.came) (append_assoc t.came (pieces_in y.events) (piece_octets event.kind));
        went = went_cut t.went t1.went t2.went (frame_octets (sent_after answers s y.events)) y.extra m.part m.went y.went y.cut;
        cut = inl (part_cut event.kind s1.queue s1.connection.response_write_timeout m.part part_is);
      }

  -- at an own event
  pub broken_acted : (s : Slate) (client below : ℕ) (first last : Look) (core : ClientCore W R F) (n n1 n2 : List Event) (k k1 : Known) (t t1 t2 : Traffic) →
      Run answer answers s client first last 1 below None core n n1 k k1 t t1 → ActedPart answer client below core n1 n2 t1 t2 → Broken answers s client n n2 t t2
  broken_acted s client below first last core n n1 n2 k k1 t t1 t2 r a = elim a.part [
    | inl x ↦ rw x.0 (broken_read s client below first last core n n1 k k1 t t1 t2 r x.1)
    | inr x ↦ elim x.noted [
      | inl e ↦ broken_noted s client below first last core x.event n n1 n2 k k1 t t1 t2 r x.chosen e
      | inr e ↦ broken_lost s client below first last core x.event n n1 n2 k k1 t t1 t2 r x.chosen e
    ]
  ]

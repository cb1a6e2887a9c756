-- All frames of the octets received are taken, so an empty piece changes nothing; nor does a second release.
use Rattle.dns_session.specs.Serving.{Serving}
use Rattle.std.proofs.Common.{◌≡◌, ◌≤◌, ℕ, ◌+◌, List, [], ◌∷◌, ◌++◌, length, drop, Bool, true, false, refl, ap, sym, ◌∙◌, arith, length-drop}
use Rattle.std.proofs.lemmas.List.{append-nil, drop_all}
use Rattle.std.specs.Prelude.{Option, Some, None, nat_lt, if◌then◌else◌}
use Rattle.dns_events.specs.declared.event.Event.{Event}
use Rattle.dns_events.specs.declared.event.EventKind.TheVariants.{Piece, Release}
use Rattle.dns_events.specs.declared.event.Why.{Why}
use Rattle.dns_events.specs.declared.event.Why.TheVariants.{Short}
use Rattle.dns_session.specs.Frames.{frames}
use Rattle.dns_session.specs.Slate.{Slate, SlateRequest, Effect, Phase, Open, Closed, fresh, conf_rule, with_conf}
use Rattle.dns_session.specs.Requests.{header_size}
use Rattle.dns_session.specs.Datagrams.{datagram}
use Rattle.dns_session.specs.Connections.{opened, reconfigured, close, wind_up, take_frame, take_frames, piece, written, flushed, released}
use Rattle.dns_session.specs.Turns.{exchange_turn, turn_request, polled, with_request, sent_at_once, sent_for}
use Rattle.dns_session.specs.Rule.{rule, in_phase}
use Rattle.dns_core.specs.Settings.{opening}
use Rattle.dns_core.specs.Own.{is_wide, own}
use Rattle.dns_core.specs.Sent.{slate_after, slate}
use Rattle.dns_events.specs.declared.settings.Settings.{Settings}
use Rattle.dns_core.proofs.Plain.{narrow}
use Rattle.dns_session.proofs.Taken.{takes}
use Rattle.dns_session.proofs.Walks.{Rows, rows, Turns, turn_goes}

-- each frame of the octets received is taken
pub Settled : Slate → Type 0
Settled s = length (frames s.received) ≤ s.taken

no_frames : length (frames []) ≡ 0
unfolding frames
no_frames = refl

-- of no octets there are no frames
pub nothing_received : (s : Slate) → s.received ≡ [] → Settled s
unfolding Settled
nothing_received s r = rw (r, no_frames) (omega arith)

same_frames : (s t : Slate) → t.received ≡ s.received → t.taken ≡ s.taken → Settled s → Settled t
unfolding Settled
same_frames s t r n h = rw (r, n) h

closed_settled : (why : Why) (s : Slate) → Settled (close why s).0
closed_settled why s = nothing_received (close why s).0 refl

take_settled : (at secs : ℕ) (fs : List (List ℕ)) (s : Slate) → length (frames s.received) ≤ s.taken + length fs → Settled (take_frames at secs fs s).0
unfolding Settled
take_settled at secs [] s h = omega (arith, h)
take_settled at secs (f ∷ fs) s h =
    let less : length (frames s.received) ≤ (s.taken + 1) + length fs = omega (arith, h) in
    let t = takes at secs f s in
    let more = take_settled at secs fs (take_frame at secs f s) (rw (t.received, t.taken) less) in
    (elim (nat_lt (length f) header_size) as (λ b. let t : Effect = (if b then close Short s else take_frames at secs fs (take_frame at secs f s)) in length (frames t.0.received) ≤ t.0.taken) [ true ↦ closed_settled Short s | false ↦ more ])

piece_settled : (at secs : ℕ) (o : List ℕ) (s : Slate) → Settled (piece at secs o s).0
piece_settled at secs o s =
    let fs = frames (s.received ++ o) in
    take_settled at secs (drop s.taken fs) (record s { received = s.received ++ o }) (omega (arith, length-drop s.taken fs))

written_settled : (at : ℕ) (m : List ℕ) (ms : List (List ℕ)) (s : Slate) → Settled s → Settled (written at m ms s).0
written_settled at m [] s h = same_frames s (written at m [] s).0 refl refl h
written_settled at m (n ∷ ms) s h = same_frames s (written at m (n ∷ ms) s).0 refl refl h

flushed_settled : (why : Why) (m : List ℕ) (ms : List (List ℕ)) (s : Slate) → Settled s → Settled (flushed why m ms s).0
flushed_settled why m [] s h = closed_settled why s
flushed_settled why m (n ∷ ms) s h = same_frames s (flushed why m (n ∷ ms) s).0 refl refl h

-- a turn leaves the state, whether it was released, what was received and what was taken of it
pub record Turned (s t : Slate) : Type 0 where
  pub phase : t.phase ≡ s.phase
  pub freed : t.freed ≡ s.freed
  pub received : t.received ≡ s.received
  pub taken : t.taken ≡ s.taken

unturned : (s t : Slate) → t.phase ≡ s.phase → t.freed ≡ s.freed → t.received ≡ s.received → t.taken ≡ s.taken → Turned s t
unturned s t p f r n = record { phase = p; freed = f; received = r; taken = n }

pub released_again : (s : Slate) → s.freed ≡ true → released s ≡ s
released_again s h = ap (λ (b : Bool). record s { freed = b }) (sym h)

module _ (answers : Serving) where
  pub exchange_turned : (k : ℕ) (x : Option SlateRequest) (s : Slate) → Turned s (exchange_turn answers k x s).0
  exchange_turned k None s = unturned s s refl refl refl refl
  exchange_turned k (Some r) s =
      (elim r.done as (λ b. let u : Effect = (if b then (s, []) else (with_request k (polled (answers.answer r.request r.polls) r) s, sent_at_once s.client (sent_for answers r.request (answers.answer r.request r.polls)))) in Turned s u.0) [ true ↦ unturned s s refl refl refl refl | false ↦ record { phase = refl; freed = refl; received = refl; taken = refl } ])

  turned : (e : Event) → Turns answers e (λ s t. Turned s t.0)
  turned e = record {
    stays = λ s. unturned s s refl refl refl refl;
    goes = λ s t u p g h. record { phase = h.phase ∙ g.phase; freed = h.freed ∙ g.freed; received = h.received ∙ g.received; taken = h.taken ∙ g.taken };
    retimes = λ a s p. record { phase = refl; freed = refl; received = refl; taken = refl };
    sets = λ k r s p. record { phase = refl; freed = refl; received = refl; taken = refl };
    queues = λ m s p free. record { phase = refl; freed = refl; received = refl; taken = refl };
  }

  settles : (e : Event) → Rows answers e (λ s t. Settled s → Settled t.0)
  settles e = record {
    stays = λ s h. h;
    exchanges = λ addr o s is p over h. same_frames s (datagram e.client addr e.at e.secs o s).0 refl refl h;
    opens = λ addr s is p over h. same_frames s (opened e.client addr e.at s) refl refl h;
    polls = λ k r s is p at d h. same_frames s (with_request k (polled (answers.answer r.request r.polls) r) s) refl refl h;
    takes = λ o s is p h. piece_settled e.at e.secs o s;
    turns = λ k r s is p at d h. let t = turn_goes answers e (λ s t. Turned s t.0) (turned e) k r.held r s p in same_frames s (turn_request answers e.at k r.held r s) t.received t.taken h;
    writes = λ m ms s p is h. written_settled e.at m ms s h;
    flushes = λ why m ms s p is h. flushed_settled why m ms s h;
    closes = λ why s c r h. closed_settled why s;
    winds = λ why m ms s p is h. nothing_received (wind_up why (m ∷ ms) s).0 refl;
    reconfigures = λ dgram stream s is p h. same_frames s (reconfigured stream.connection_config s) refl refl h;
    releases = λ s is p h. same_frames s (released s) refl refl h;
  }

  rule_settled : (e : Event) (s : Slate) → Settled s → Settled (rule answers e s).0
  rule_settled e s h =
      let t = with_conf (conf_rule e.kind s.conf) s in
      rows answers e (λ s t. Settled s → Settled t.0) (settles e) s (same_frames s t refl refl h)

  pub settled_after : (es : List Event) (s : Slate) → Settled s → Settled (slate_after answers s es)
  settled_after [] s h = h
  settled_after (x ∷ es) s h = settled_after es (rule answers x s).0 (rule_settled x s h)

  pub settled : (settings : Settings) (c : ℕ) (q : List Event) → Settled (slate answers settings c q)
  unfolding slate
  settled settings c q = settled_after (own c q) (fresh (opening settings)) (nothing_received (fresh (opening settings)) refl)

  nothing_more : (at secs : ℕ) (s : Slate) → Settled s → piece at secs [] s ≡ (s, [])
  unfolding Settled
  nothing_more at secs s h = rw (append-nil s.received, drop_all s.taken (frames s.received) h) refl

  empty_phase : (p : Phase) (e : Event) (s : Slate) → e.kind ≡ Piece [] → Settled s → in_phase answers e p s ≡ (s, [])
  empty_phase Open e s is h = rw is (nothing_more e.at e.secs s h)
  empty_phase _ e s is h = rw is refl

  -- an empty piece changes nothing
  pub empty_idle : (e : Event) (s : Slate) → e.kind ≡ Piece [] → Settled s → rule answers e s ≡ (s, [])
  empty_idle e s is h = narrow answers e s (ap is_wide is) ∙ empty_phase s.phase e s is h

  again_phase : (p : Phase) (e : Event) (s : Slate) → e.kind ≡ Release → s.freed ≡ true → in_phase answers e p s ≡ (s, [])
  again_phase Closed e s is h = rw is (ap (λ (t : Slate). (t, [])) (released_again s h))
  again_phase _ e s is h = rw is refl

  -- nor does a release of a connection that was released
  pub again_idle : (e : Event) (s : Slate) → e.kind ≡ Release → s.freed ≡ true → rule answers e s ≡ (s, [])
  again_idle e s is h = narrow answers e s (ap is_wide is) ∙ again_phase s.phase e s is h

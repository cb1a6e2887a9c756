-- What events that all clients hear do to a connection: the news of a look.
use Rattle.std.proofs.Common.{◌≡◌, ℕ, ◌==◌, List, [], ◌∷◌, ◌++◌, refl, sym, ◌∙◌, ap, arith, append_assoc, append-nil, Bool, true, false, Some}
use Rattle.std.specs.Prelude.{if◌then◌else◌, ◌||◌, ◌&&◌, not}
use Rattle.dns_events.specs.declared.look.Look.{Look}
use Rattle.dns_service.specs.Config.{Dgram, Stream}
use Rattle.dns_events.specs.declared.event.Event.{Event}
use Rattle.dns_events.specs.declared.event.EventKind.{EventKind}
use Rattle.dns_events.specs.declared.event.EventKind.TheVariants.{Datagram, Turn, Offer, Piece, Write, Tick, Reconfigure, Shutdown}
use Rattle.dns_events.specs.declared.event.Output.{Output}
use Rattle.dns_events.specs.declared.event.Why.{Why}
use Rattle.dns_events.specs.declared.event.Why.TheVariants.{Shutdown as ByShutdown}
use Rattle.dns_session.specs.After.{slate_after, sent_after}
use Rattle.dns_session.specs.Connections.{wind_up}
use Rattle.dns_session.specs.News.{wide, new_end, news}
use Rattle.dns_session.specs.Rule.{rule, in_phase, unused_rule, open_rule}
use Rattle.dns_session.specs.Serving.{Serving}
use Rattle.dns_session.specs.Slate.{Slate, Effect, Phase, Unused, Open, Flushing, Conf, conf_rule, with_conf}
use Rattle.dns_recorder.specs.Own.{is_wide}
use Rattle.dns_recorder.specs.Clocks.{fault_count, faults_in}
use Rattle.dns_recorder.specs.Notes.{AllWide}
use Rattle.dns_recorder.specs.Woven.{kinds, own_kinds, AllOf, AreNobodys, news_kinds}
use Rattle.dns_stream_driver.specs.Closing.{closed_by}
use Rattle.dns_stream_driver.specs.Links.{pieces_in, piece_octets, AllFull, PieceHasOctet, ticks_in, tick_count, ends_in, end_count, frame_octets}
use Rattle.dns_stream_driver.specs.Rounds.{May, turned, turned_all, Rounds}
use Rattle.dns_stream_driver.specs.Runs.{MayGoOn, IsServed, ServesOn}
use Rattle.dns_stream_driver.specs.Story.{LastCloses}

-- one of them says nothing of the link or the rounds
record IsQuiet (k : EventKind) : Type 0 where
  piece : piece_octets k ≡ []
  full : PieceHasOctet k
  ticks : tick_count k ≡ 0
  ends : end_count k ≡ 0
  fault : fault_count k ≡ 0
  turn : (below : ℕ) → turned below k ≡ below

quiet_one : (k : EventKind) → is_wide k ≡ true → IsQuiet k
quiet_one (Reconfigure dgram stream) w = record { piece = refl; full = tt; ticks = refl; ends = refl; fault = refl; turn = λ below. refl }
quiet_one Shutdown w = record { piece = refl; full = tt; ticks = refl; ends = refl; fault = refl; turn = λ below. refl }
quiet_one _ w = absurd cc

may_one : (below : ℕ) (k : EventKind) (s : Slate) → is_wide k ≡ true → May below k s
may_one below (Reconfigure dgram stream) s w = tt
may_one below Shutdown s w = tt
may_one below _ s w = absurd cc

-- and several
pub record AllQuiet (es : List Event) : Type 0 where
  pub own_are : own_kinds es ≡ []
  pub pieces_are : pieces_in es ≡ []
  pub full : AllFull es
  pub ticks_are : ticks_in es ≡ 0
  pub ends_are : ends_in es ≡ 0
  pub faults_are : faults_in es ≡ 0
  pub turns : (below : ℕ) → turned_all below es ≡ below

pub quiet : (es : List Event) → AllWide (kinds es) → AllQuiet es
quiet [] w = record { own_are = refl; pieces_are = refl; full = tt; ticks_are = refl; ends_are = refl; faults_are = refl; turns = λ below. refl }
quiet (e ∷ es) w = let a = quiet es w.1 in let b = quiet_one e.kind w.0 in record {
  own_are = rw (w.0, a.own_are) refl;
  pieces_are = rw (b.piece, a.pieces_are) refl;
  full = (b.full, a.full);
  ticks_are = rw (b.ticks, a.ticks_are) refl;
  ends_are = rw (b.ends, a.ends_are) refl;
  faults_are = rw (b.fault, a.faults_are) refl;
  turns = λ below. rw (b.turn below) (a.turns below);
}

-- if they name nobody, they are among the events of any client
pub nobodys_of : (client : ℕ) (es : List Event) → AllWide (kinds es) → AreNobodys es → AllOf client es
nobodys_of client [] w n = tt
nobodys_of client (e ∷ es) w n = (rw w.0 n.0, nobodys_of client es w.1 n.1)

pub frames_append : (xs ys : List Output) → frame_octets (xs ++ ys) ≡ frame_octets xs ++ frame_octets ys
frames_append [] ys = refl
frames_append (x ∷ xs) ys = simp (append_assoc, frames_append xs ys)

unused_wide : (e f : Event) (k : EventKind) (s : Slate) → is_wide k ≡ true → unused_rule e k s ≡ unused_rule f k s
unused_wide e f (Datagram addr o) s w = absurd cc
unused_wide e f (Offer addr) s w = absurd cc
unused_wide e f _ s w = refl

module _ (answers : Serving) where
  open_wide : (e f : Event) (k : EventKind) (s : Slate) → is_wide k ≡ true → open_rule answers e k s ≡ open_rule answers f k s
  open_wide e f (Turn k) s w = absurd cc
  open_wide e f (Piece o) s w = absurd cc
  open_wide e f (Write took) s w = absurd cc
  open_wide e f Tick s w = absurd cc
  open_wide e f _ s w = refl

  -- their moment, seconds and number say nothing
  phase_wide : (e f : Event) (p : Phase) (s : Slate) → e.kind ≡ f.kind → is_wide e.kind ≡ true → in_phase answers e p s ≡ in_phase answers f p s
  phase_wide e f Unused s k w = rw (← k) (unused_wide e f e.kind s w)
  phase_wide e f Open s k w = rw (← k) (open_wide e f e.kind s w)
  phase_wide e f _ s k w = rw k refl

  same_rule : (e f : Event) (s : Slate) → e.kind ≡ f.kind → is_wide e.kind ≡ true → rule answers e s ≡ rule answers f s
  same_rule e f s k w = phase_wide e f s.phase (with_conf (conf_rule e.kind s.conf) s) k w ∙ ap (λ (j : EventKind). in_phase answers f s.phase (with_conf (conf_rule j s.conf) s)) k

  -- so events of the same kinds do the same
  pub record DoSame (s : Slate) (es fs : List Event) : Type 0 where
    pub slate : slate_after answers s es ≡ slate_after answers s fs
    pub sent : sent_after answers s es ≡ sent_after answers s fs

  pub do_same : (s : Slate) (es fs : List Event) → kinds es ≡ kinds fs → AllWide (kinds es) → DoSame s es fs
  do_same s [] [] k w = record { slate = refl; sent = refl }
  do_same s [] (f ∷ fs) k w = absurd cc
  do_same s (e ∷ es) [] k w = absurd cc
  do_same s (e ∷ es) (f ∷ fs) k w =
      let a : e.kind ≡ f.kind = cc in
      let b : kinds es ≡ kinds fs = cc in
      let r : rule answers e s ≡ rule answers f s = same_rule e f s a w.0 in
      let h = do_same (rule answers e s).0 es fs b w.1 in
      record { slate = rw (← r) h.slate; sent = rw (← r, h.sent) refl }

  pub rounds_wide : (below : ℕ) (s : Slate) (es : List Event) → AllWide (kinds es) → Rounds answers below s es
  rounds_wide below s [] w = tt
  rounds_wide below s (e ∷ es) w = (may_one below e.kind s w.0, rounds_wide (turned below e.kind) (rule answers e s).0 es w.1)

  -- what the news of a look do to a connection that knows the looks before
  pub record NewsDo (before now : Bool) (t : Effect) : Type 0 where
    pub frameless : frame_octets t.1 ≡ []
    pub over : t.0.conf.over ≡ (before || now)
    pub on : ServesOn (closed_by t.1) t.0
    pub shut_only : (why : Why) → closed_by t.1 ≡ Some why → why ≡ ByShutdown

  wound_up : (q : List (List ℕ)) (s : Slate) → q ≡ s.queue → s.conf.over ≡ true → NewsDo false true (wind_up ByShutdown q s)
  wound_up [] s e o = record { frameless = refl; over = o; on = tt; shut_only = λ why c. cc }
  wound_up (m ∷ ms) s e o = record { frameless = refl; over = o; on = (refl, rw (← e) (omega arith)); shut_only = λ why c. absurd cc }

  shut_does : (p : Phase) (s : Slate) → s.conf.over ≡ true → p ≡ s.phase → MayGoOn p s.queue → NewsDo false true (in_phase answers (wide Shutdown) p s)
  shut_does Open s o e live = wound_up s.queue s refl o
  shut_does (Flushing why) s o e live = record { frameless = refl; over = o; on = rw (← e) live; shut_only = λ y c. absurd cc }
  shut_does _ s o e live = absurd live

  same_does : (s : Slate) (over now : Bool) → (over || now) ≡ over → s.conf.over ≡ over → IsServed s → NewsDo over now (s, [])
  same_does s over now b e live = record { frameless = refl; over = e ∙ sym b; on = live; shut_only = λ why c. absurd cc }

  abbrev DoesAs : Slate → Bool → Bool → List Event → Type 0
  DoesAs s over now es = NewsDo over now (slate_after answers s es, sent_after answers s es)

  -- a shutdown that is new
  end_does : (s : Slate) (over now : Bool) → s.conf.over ≡ over → IsServed s → DoesAs s over now (if now && not over then wide Shutdown ∷ [] else [])
  end_does s true true e live = same_does s true true refl e live
  end_does s true false e live = same_does s true false refl e live
  end_does s false true e live = let d = shut_does s.phase (with_conf (record s.conf { over = true }) s) refl refl live in
      record { frameless = rw (append-nil (rule answers (wide Shutdown) s).1) d.frameless; over = d.over; on = rw (append-nil (rule answers (wide Shutdown) s).1) d.on; shut_only = rw (append-nil (rule answers (wide Shutdown) s).1) d.shut_only }
  end_does s false false e live = same_does s false false refl e live

  -- new configurations
  record Reconfigures (over : Bool) (t : Effect) : Type 0 where
    nothing : t.1 ≡ []
    over_is : t.0.conf.over ≡ over
    on : IsServed t.0

  over_stays : (dgram : Dgram) (stream : Stream) (c : Conf) (over : Bool) → c.over ≡ over → (conf_rule (Reconfigure dgram stream) c).over ≡ over
  over_stays dgram stream c true e = rw e refl
  over_stays dgram stream c false e = rw e refl

  phase_reconfigures : (dgram : Dgram) (stream : Stream) (p : Phase) (s : Slate) (over : Bool) → s.conf.over ≡ over → p ≡ s.phase → MayGoOn p s.queue → Reconfigures over (in_phase answers (wide (Reconfigure dgram stream)) p s)
  phase_reconfigures dgram stream Open s over o e live = record { nothing = refl; over_is = o; on = rw (← e) tt }
  phase_reconfigures dgram stream (Flushing why) s over o e live = record { nothing = refl; over_is = o; on = rw (← e) live }
  phase_reconfigures dgram stream _ s over o e live = absurd live

  reconfigures : (dgram : Dgram) (stream : Stream) (s : Slate) (over : Bool) → s.conf.over ≡ over → IsServed s → Reconfigures over (rule answers (wide (Reconfigure dgram stream)) s)
  reconfigures dgram stream s over e live = phase_reconfigures dgram stream s.phase (with_conf (conf_rule (Reconfigure dgram stream) s.conf) s) over (over_stays dgram stream s.conf over e) refl live

  both_do : (b : Bool) (dgram : Dgram) (stream : Stream) (s : Slate) (over now : Bool) (es : List Event) → s.conf.over ≡ over → IsServed s →
      ((t : Slate) → t.conf.over ≡ over → IsServed t → DoesAs t over now es) → DoesAs s over now ((if b then [] else wide (Reconfigure dgram stream) ∷ []) ++ es)
  both_do true dgram stream s over now es e live f = f s e live
  both_do false dgram stream s over now es e live f = let r = reconfigures dgram stream s over e live in rw r.nothing (f (rule answers (wide (Reconfigure dgram stream)) s).0 r.over_is r.on)

  pub news_do : (version : ℕ) (over : Bool) (look : Look) (s : Slate) → s.conf.over ≡ over → IsServed s → DoesAs s over look.closed (news version over look)
  news_do version over look s e live = both_do (look.version == version) look.dgram look.stream s over look.closed (new_end over look) e live (λ t h l. end_does t over look.closed h l)

  -- no frame is sent for an event that all clients hear, in whatever state
  abbrev IsFrameless : Effect → Type 0
  IsFrameless t = frame_octets t.1 ≡ []

  wind_frameless : (why : Why) (q : List (List ℕ)) (s : Slate) → IsFrameless (wind_up why q s)
  wind_frameless why [] s = refl
  wind_frameless why (m ∷ ms) s = refl

  phase_frameless : (e : Event) (k : EventKind) (p : Phase) (s : Slate) → e.kind ≡ k → is_wide k ≡ true → IsFrameless (in_phase answers e p s)
  phase_frameless e (Reconfigure dgram stream) Unused s h w = rw h refl
  phase_frameless e (Reconfigure dgram stream) _ s h w = rw h refl
  phase_frameless e Shutdown Open s h w = rw h (wind_frameless ByShutdown s.queue s)
  phase_frameless e Shutdown _ s h w = rw h refl
  phase_frameless e _ p s h w = absurd cc

  frames_both : (xs ys : List Output) → frame_octets xs ≡ [] → frame_octets ys ≡ [] → frame_octets (xs ++ ys) ≡ []
  frames_both xs ys a b = rw (frames_append xs ys, a, b) refl

  pub wide_frames : (s : Slate) (es : List Event) → AllWide (kinds es) → frame_octets (sent_after answers s es) ≡ []
  wide_frames s [] w = refl
  wide_frames s (e ∷ es) w = frames_both (rule answers e s).1 (sent_after answers (rule answers e s).0 es) (phase_frameless e e.kind s.phase (with_conf (conf_rule e.kind s.conf) s) refl w.0) (wide_frames (rule answers e s).0 es w.1)

  -- the last event of the news closes, if they close
  phase_silent : (e : Event) (dgram : Dgram) (stream : Stream) (p : Phase) (s : Slate) → e.kind ≡ Reconfigure dgram stream → (in_phase answers e p s).1 ≡ []
  phase_silent e dgram stream Unused s h = rw h refl
  phase_silent e dgram stream _ s h = rw h refl

  first_kind : (b c : Bool) (dgram : Dgram) (stream : Stream) (k j : EventKind) → k ∷ j ∷ [] ≡ kinds ((if b then [] else wide (Reconfigure dgram stream) ∷ []) ++ (if c then wide Shutdown ∷ [] else [])) → k ≡ Reconfigure dgram stream
  first_kind true true dgram stream k j e = cc
  first_kind true false dgram stream k j e = cc
  first_kind false true dgram stream k j e = cc
  first_kind false false dgram stream k j e = cc

  two_at_most : (b c : Bool) (dgram : Dgram) (stream : Stream) (k j i : EventKind) (ks : List EventKind) → k ∷ j ∷ i ∷ ks ≡ kinds ((if b then [] else wide (Reconfigure dgram stream) ∷ []) ++ (if c then wide Shutdown ∷ [] else [])) → ⊥
  two_at_most true true dgram stream k j i ks e = cc
  two_at_most true false dgram stream k j i ks e = cc
  two_at_most false true dgram stream k j i ks e = cc
  two_at_most false false dgram stream k j i ks e = cc

  list_last : (b c : Bool) (dgram : Dgram) (stream : Stream) (s : Slate) (hs : List Event) (why : Why) →
      kinds hs ≡ kinds ((if b then [] else wide (Reconfigure dgram stream) ∷ []) ++ (if c then wide Shutdown ∷ [] else [])) → closed_by (sent_after answers s hs) ≡ Some why → LastCloses answers s hs why
  list_last b c dgram stream s [] why k e = absurd cc
  list_last b c dgram stream s (h ∷ []) why k e = record { before = []; event = h; is = refl; closes = rw (append-nil (rule answers h s).1) at e }
  list_last b c dgram stream s (h ∷ i ∷ []) why k e =
      let hk : h.kind ≡ Reconfigure dgram stream = first_kind b c dgram stream h.kind i.kind k in
      let q : (rule answers h s).1 ≡ [] = phase_silent h dgram stream s.phase (with_conf (conf_rule h.kind s.conf) s) hk in
      record { before = h ∷ []; event = i; is = refl; closes = rw (q, append-nil (rule answers i (rule answers h s).0).1) at e }
  list_last b c dgram stream s (h ∷ i ∷ j ∷ hs) why k e = absurd (two_at_most b c dgram stream h.kind i.kind j.kind (kinds hs) k)

  pub news_last : (last look : Look) (s : Slate) (hs : List Event) (why : Why) → kinds hs ≡ news_kinds last look → closed_by (sent_after answers s hs) ≡ Some why → LastCloses answers s hs why
  news_last last look s hs why k e = list_last (look.version == last.version) (look.closed && not last.closed) look.dgram look.stream s hs why k e

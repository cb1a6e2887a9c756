-- A story goes on by a look, and by an own event.
use Rattle.std.proofs.Common.{◌≡◌, ℕ, ◌+◌, List, [], ◌∷◌, ◌++◌, length, refl, sym, ◌∙◌, ap, arith, append_assoc, append-nil, length-append, Bool, Option, Some, None}
use Rattle.dns_events.specs.declared.look.Look.{Look}
use Rattle.dns_book.specs.declared.history.Known.{Known}
use Rattle.dns_io.specs.Traffic.{Traffic}
use Rattle.dns_service.specs.Answer.{Answer}
use Rattle.dns_events.specs.declared.event.Event.{Event}
use Rattle.dns_events.specs.declared.event.Output.{Output}
use Rattle.dns_events.specs.declared.event.Why.{Why}
use Rattle.dns_events.specs.declared.event.Why.TheVariants.{Fault as ByFault, WriteTimeout, Shutdown as ByShutdown}
use Rattle.dns_service.specs.declared.polled.PolledRequest.{PolledRequest}
use Rattle.dns_session.specs.After.{slate_after, sent_after}
use Rattle.dns_session.specs.News.{news, look_effect}
use Rattle.dns_session.specs.Rule.{rule}
use Rattle.dns_session.specs.Serving.{Serving}
use Rattle.dns_session.specs.Slate.{Slate, Conf}
use Rattle.dns_session.specs.Stands.{Stands, StandsIn, GoesAs, waiting, write_limit}
use Rattle.dns_session.specs.declared.client.ClientCore.{ClientCore}
use Rattle.dns_session.specs.declared.client.State.{State}
use Rattle.dns_session.specs.declared.client.State.TheVariants.{Exchange as Is_exchange, Open as Is_open, Flushing as Is_flushing, Closed as Is_closed, Lost as Is_lost}
use Rattle.dns_recorder.specs.Clocks.{fault_count}
use Rattle.dns_recorder.specs.Notes.{AllWide}
use Rattle.dns_recorder.specs.Woven.{kinds, own_kinds, news_kinds}
use Rattle.dns_recorder.proofs.NotedEvents.{kinds_append}
use Rattle.dns_stream_driver.specs.Closing.{closed_by}
use Rattle.dns_stream_driver.specs.Links.{pieces_in, frame_octets}
use Rattle.dns_stream_driver.specs.Rounds.{turned, turned_all}
use Rattle.dns_stream_driver.specs.Runs.{Run, IsServed}
use Rattle.dns_stream_driver.specs.Turning.{BeginsOpen}
use Rattle.dns_stream_driver.specs.Steps.{HeardNews, Chosen, TakesEvent, Acted}
use Rattle.dns_stream_driver.specs.Story.{Extra, LastOf, all_but_last}
use Rattle.dns_stream_driver.proofs.Appends.{own_append, all_of_append, seen_snoc, pieces_append, full_append, ticks_append, ends_append, faults_append, turned_append, all_but_snoc, woven_look, woven_own, after_append, sent_append, rounds_append, last_own, last_later, closed_more, gained_look, gained_none}
use Rattle.dns_stream_driver.proofs.ByKind.{Does, event_does, fault_most}
use Rattle.dns_stream_driver.proofs.LookNewsLaws.{news_wide}
use Rattle.dns_stream_driver.proofs.Wide.{quiet, nobodys_of, frames_append, rounds_wide, do_same, NewsDo, news_do, news_last}

-- what the core does for a slate that it stands for, is what the noted events do
pub record HeardAt {W R F : Type 0} (answer : PolledRequest F R → ℕ → Answer) (answers : Serving) (s : Slate) (why : Option Why) (over : Bool) (look : Look) (events : List Event) (core : ClientCore W R F) : Type 0 where
  pub stands : Stands answer answers core (slate_after answers s events)
  pub does : NewsDo answers over look.closed (slate_after answers s events, sent_after answers s events)
  pub closed : closed_by (sent_after answers s events) ≡ why
  pub last : LastOf answers s events why

last_news : (answers : Serving) (last look : Look) (s : Slate) (hs : List Event) (why : Option Why) → kinds hs ≡ news_kinds last look → closed_by (sent_after answers s hs) ≡ why → LastOf answers s hs why
last_news answers last look s hs None k e = tt
last_news answers last look s hs (Some why) k e = news_last answers last look s hs why k e

pub heard_at : {W R F : Type 0} (answer : PolledRequest F R → ℕ → Answer) (answers : Serving) (s : Slate) (why : Option Why) (last look : Look) (events : List Event) (core core' : ClientCore W R F) (outs : List Output) →
    Stands answer answers core s → IsServed s → core.version ≡ last.version → s.conf.over ≡ last.closed → kinds events ≡ news_kinds last look →
    GoesAs answer answers core core' outs (look_effect answers core.version look) → closed_by outs ≡ why → HeardAt answer answers s why last.closed look events core'
heard_at answer answers s why last look events core core' outs stands live v o k follows c =
    let wide : AllWide (kinds events) = rw k (news_wide last look) in
    let same : news core.version s.conf.over look ≡ news last.version last.closed look = rw (v, o) refl in
    let d = do_same answers s events (news last.version last.closed look) k wide in
    let took = follows s stands in
    let sent : outs ≡ sent_after answers s events = took.0 ∙ ap (λ (es : List Event). sent_after answers s es) same ∙ sym d.sent in
    let slate : slate_after answers s (news core.version s.conf.over look) ≡ slate_after answers s events = ap (λ (es : List Event). slate_after answers s es) same ∙ sym d.slate in
    let closed : closed_by (sent_after answers s events) ≡ why = sym (ap closed_by sent) ∙ c in
    record {
      stands = rw slate at took.1;
      does = rw (d.slate, d.sent) (news_do answers last.version last.closed look s o live);
      closed = closed;
      last = last_news answers last look s events why k closed;
    }

-- only a shutdown closes there, so no part of a frame more was written
quiet_extra : (why : Option Why) (q : List (List ℕ)) → ((y : Why) → why ≡ Some y → y ≡ ByShutdown) → Extra why q []
quiet_extra (Some ByFault) q h = let e : ByFault ≡ ByShutdown = h ByFault refl in absurd cc
quiet_extra (Some WriteTimeout) q h = let e : WriteTimeout ≡ ByShutdown = h WriteTimeout refl in absurd cc
quiet_extra _ q h = refl

pub went_more : (went went1 went2 f e part g extra fs : List ℕ) → went2 ≡ went1 ++ part → went1 ≡ went ++ (f ++ e) → e ≡ [] → part ≡ g ++ extra → fs ≡ f ++ g → went2 ≡ went ++ (fs ++ extra)
went_more went went1 went2 f e part g extra fs a b c d h = rw (a, b, c, d, h) (simp (append_assoc, append-nil))

module _ {W R F : Type 0} (answer : PolledRequest F R → ℕ → Answer) (answers : Serving) where
  -- a look is heard
  pub run_heard : (s : Slate) (client below : ℕ) (first last last' : Look) (why : Option Why) (core core' : ClientCore W R F) (n n1 n2 : List Event) (k k1 k2 : Known) (t t1 : Traffic) →
      Run answer answers s client first last 0 below None core n n1 k k1 t t1 →
      HeardNews answer why core core' last last' n1 n2 k1 k2 →
      Run answer answers s client first last' 1 below why core' n n2 k k2 t t1
  run_heard s client below first last last' why core core' n n1 n2 k k1 k2 t t1 r h =
      let y = r.story in
      let s1 : Slate = slate_after answers s y.events in
      let wide : AllWide (kinds h.news.events) = rw h.news.kinds_are (news_wide last h.look) in
      let still = quiet h.news.events wide in
      let a = heard_at answer answers s1 why last h.look h.news.events core core' h.sees.outs r.stands r.goes_on r.version r.over h.news.kinds_are (h.sees.follows answers) h.sees.closed in
      let events : List Event = y.events ++ h.news.events in
      let at_end : slate_after answers s events ≡ slate_after answers s1 h.news.events = after_append answers s y.events h.news.events in
      let count : length y.looks ≡ length (own_kinds y.events) = omega (arith, r.looked) in
      let own_is : own_kinds events ≡ own_kinds y.events = own_append y.events h.news.events ∙ (rw still.own_are (append-nil (own_kinds y.events))) in
      let more : length (y.looks ++ h.look ∷ []) ≡ length y.looks + 1 = length-append y.looks (h.look ∷ []) in
      let size : length (own_kinds events) ≡ length (own_kinds y.events) = ap length own_is in
      record {
        story = record {
          events = events;
          looks = y.looks ++ h.look ∷ [];
          extra = [];
          noted = rw (h.news.noted, y.noted) (append_assoc n y.events h.news.events);
          mine = all_of_append client y.events h.news.events y.mine (nobodys_of client h.news.events wide h.news.nobodys);
          calls = gained_look k k1 k2 y.looks h.look y.calls r.name h.called;
          woven = record {
            same = rw (own_is, kinds_append y.events h.news.events, woven_look first h.look y.looks (own_kinds y.events) count, ← r.last_look, h.news.kinds_are, y.woven.same) refl;
            least = omega (arith, count, size, more);
            most = omega (arith, count, size, more);
          };
          rounds = rounds_append answers 0 s y.events h.news.events y.rounds (rounds_wide answers (turned_all 0 y.events) s1 h.news.events wide);
          closed = rw (sent_append answers s y.events h.news.events) (closed_more (sent_after answers s y.events) (sent_after answers s1 h.news.events) why y.closed a.closed);
          last = last_later answers s y.events h.news.events why a.last;
          came = rw (y.came, pieces_append y.events h.news.events, still.pieces_are, append-nil (pieces_in y.events)) refl;
          full = full_append y.events h.news.events y.full still.full;
          ticks = omega (arith, y.ticks, ticks_append y.events h.news.events, still.ticks_are);
          ends = omega (arith, y.ends, ends_append y.events h.news.events, still.ends_are);
          one_fault = let u = r.unbroken refl in omega (arith, u, faults_append y.events h.news.events, still.faults_are);
          went = rw (y.went, y.cut, sent_append answers s y.events h.news.events, frames_append (sent_after answers s y.events) (sent_after answers s1 h.news.events), a.does.frameless) (simp append-nil);
          cut = quiet_extra why (slate_after answers s (all_but_last events)).queue (λ z e. a.does.shut_only z (a.closed ∙ e));
        };
        name = h.called.same_name ∙ r.name;
        looked = omega (arith, count, size, more);
        last_look = h.last_is ∙ rw (seen_snoc first y.looks h.look, ← r.last_look) refl;
        below_is = rw (turned_append 0 y.events h.news.events, still.turns (turned_all 0 y.events)) r.below_is;
        stands = rw at_end a.stands;
        version = rw h.last_is h.sees.version;
        over = rw (at_end, h.last_is) a.does.over;
        unbroken = λ none. let u = r.unbroken refl in omega (arith, u, faults_append y.events h.news.events, still.faults_are);
        goes_on = rw at_end (rw a.closed at a.does.on);
      }

  -- the frames that wait, and how long one may take, are those of the slate
  pub record Waits (core : ClientCore W R F) (s : Slate) : Type 0 where
    pub queue : waiting core.state ≡ s.queue
    pub limit : write_limit core.state ≡ s.connection.response_write_timeout

  waits_in : (number : ℕ) (state : State W R F) (s : Slate) → StandsIn answer answers number state s → IsServed s → (waiting state ≡ s.queue) × (write_limit state ≡ s.connection.response_write_timeout)
  waits_in number (Is_exchange kept) s h live = absurd (rw h.phase at live)
  waits_in number (Is_open c) s h live = (h.queue, h.write_timeout)
  waits_in number (Is_flushing c) s h live = (h.queue, h.write_timeout)
  waits_in number (Is_closed freed) s h live = absurd (rw h.phase at live)
  waits_in number Is_lost s h live = absurd h

  pub waits : (core : ClientCore W R F) (s : Slate) → Stands answer answers core s → IsServed s → Waits core s
  waits core s h live = let w = waits_in core.client core.state s h live in record { queue = w.0; limit = w.1 }

  -- what was written for an event that was chosen
  pub chosen_does : (client below : ℕ) (core : ClientCore W R F) (event : Event) (s : Slate) (t t' : Traffic) → Stands answer answers core s → IsServed s → (c : Chosen answer client below core event t t') → Does s.queue c.moved.part s.conf (fault_count event.kind) (rule answers event s)
  chosen_does client below core event s t t' stands live c =
      let w = waits core s stands live in
      event_does answers event below s c.moved.part live c.is_own (c.may answers s stands) (rw (w.queue, w.limit) at c.moved.part_is)

  -- an own event is chosen, noted and taken
  run_own : (s : Slate) (client below : ℕ) (first last : Look) (why : Option Why) (core core' : ClientCore W R F) (event : Event) (n n1 n2 : List Event) (k k1 : Known) (t t1 t2 : Traffic) →
      Run answer answers s client first last 1 below None core n n1 k k1 t t1 →
      Chosen answer client below core event t1 t2 →
      n2 ≡ n1 ++ event ∷ [] →
      TakesEvent answer answers core core' event why →
      Run answer answers s client first last 0 (turned below event.kind) why core' n n2 k k1 t t2
  run_own s client below first last why core core' event n n1 n2 k k1 t t1 t2 r c noted taken =
      let y = r.story in
      let m = c.moved in
      let s1 : Slate = slate_after answers s y.events in
      let took = taken.follows s1 r.stands in
      let g : Does s1.queue m.part s1.conf (fault_count event.kind) (rule answers event s1) = chosen_does client below core event s1 t1 t2 r.stands r.goes_on c in
      let why_is : closed_by (rule answers event s1).1 ≡ why = sym (ap closed_by took.0) ∙ taken.closed in
      let events : List Event = y.events ++ event ∷ [] in
      let at_end : slate_after answers s events ≡ (rule answers event s1).0 = after_append answers s y.events (event ∷ []) in
      let sent : sent_after answers s events ≡ sent_after answers s y.events ++ (rule answers event s1).1 = rw (sent_append answers s y.events (event ∷ []), append-nil (rule answers event s1).1) refl in
      let fs : frame_octets (sent_after answers s events) ≡ frame_octets (sent_after answers s y.events) ++ frame_octets (rule answers event s1).1 = ap frame_octets sent ∙ frames_append (sent_after answers s y.events) (rule answers event s1).1 in
      let count : length y.looks ≡ length (own_kinds y.events) + 1 = r.looked in
      let own_is : own_kinds events ≡ own_kinds y.events ++ event.kind ∷ [] = own_append y.events (event ∷ []) ∙ rw c.is_own refl in
      let size : length (own_kinds events) ≡ length (own_kinds y.events) + 1 = ap length own_is ∙ length-append (own_kinds y.events) (event.kind ∷ []) in
      record {
        story = record {
          events = events;
          looks = y.looks;
          extra = g.extra;
          noted = rw (noted, y.noted) (append_assoc n y.events (event ∷ []));
          mine = all_of_append client y.events (event ∷ []) y.mine (rw c.is_own c.of, tt);
          calls = y.calls;
          woven = record {
            same = rw (own_is, kinds_append y.events (event ∷ []), woven_own first event.kind y.looks (own_kinds y.events) count, y.woven.same) refl;
            least = omega (arith, count, size);
            most = omega (arith, count, size);
          };
          rounds = rounds_append answers 0 s y.events (event ∷ []) y.rounds (rw (← r.below_is) (c.may answers s1 r.stands), tt);
          closed = rw sent (closed_more (sent_after answers s y.events) (rule answers event s1).1 why y.closed why_is);
          last = last_own answers s y.events event why why_is;
          came = rw (m.came, y.came, pieces_append y.events (event ∷ [])) (simp (append_assoc, append-nil));
          full = full_append y.events (event ∷ []) y.full (m.full, tt);
          ticks = omega (arith, y.ticks, m.ticks, ticks_append y.events (event ∷ []));
          ends = omega (arith, y.ends, m.ends, ends_append y.events (event ∷ []));
          one_fault = let u = r.unbroken refl in let most = fault_most event.kind in omega (arith, u, most, faults_append y.events (event ∷ []));
          went = went_more t.went t1.went t2.went (frame_octets (sent_after answers s y.events)) y.extra m.part (frame_octets (rule answers event s1).1) g.extra (frame_octets (sent_after answers s events)) m.went y.went y.cut g.is fs;
          cut = rw (all_but_snoc y.events event) (rw why_is at g.cut);
        };
        name = r.name;
        looked = omega (arith, count, size);
        last_look = r.last_look;
        below_is = rw (turned_append 0 y.events (event ∷ []), ← r.below_is) refl;
        stands = rw at_end took.1;
        version = taken.version ∙ r.version;
        over = ap (λ (u : Slate). u.conf.over) at_end ∙ ap (λ (x : Conf). x.over) g.conf_is ∙ r.over;
        unbroken = λ none. let u = r.unbroken refl in let v = g.breaks (why_is ∙ none) in omega (arith, u, v, faults_append y.events (event ∷ []));
        goes_on = rw at_end (rw why_is at g.on);
      }

  pub run_acted : (s : Slate) (client below below' : ℕ) (first last : Look) (why : Option Why) (core core' : ClientCore W R F) (n n1 n2 : List Event) (k k1 : Known) (t t1 t2 : Traffic) →
      Run answer answers s client first last 1 below None core n n1 k k1 t t1 → Acted answer answers client below below' why core core' n1 n2 t1 t2 →
      Run answer answers s client first last 0 below' why core' n n2 k k1 t t2
  run_acted s client below below' first last why core core' n n1 n2 k k1 t t1 t2 r a = rw a.next (run_own s client below first last why core core' a.event n n1 n2 k k1 t t1 t2 r a.chosen a.noted a.taken)

  -- nothing came after the Offer
  pub run_none : (s : Slate) (client : ℕ) (first : Look) (core : ClientCore W R F) (n : List Event) (k : Known) (t : Traffic) →
      BeginsOpen answer answers core first s →
      Run answer answers s client first first 0 0 None core n n k k t t
  run_none s client first core n k t b = record {
    story = record {
      events = [];
      looks = [];
      extra = [];
      noted = sym (append-nil n);
      mine = tt;
      calls = gained_none k;
      woven = record { same = refl; least = omega arith; most = omega arith };
      rounds = tt;
      closed = refl;
      last = tt;
      came = sym (append-nil t.came);
      full = tt;
      ticks = omega arith;
      ends = omega arith;
      one_fault = omega arith;
      went = sym (append-nil t.went);
      cut = refl;
    };
    name = refl;
    looked = refl;
    last_look = refl;
    below_is = refl;
    stands = b.stands;
    version = b.version;
    over = b.over;
    unbroken = λ none. refl;
    goes_on = rw b.opened tt;
  }

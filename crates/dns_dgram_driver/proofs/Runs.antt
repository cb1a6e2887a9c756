-- What was done from the start of the loop of datagrams to now, a step further.
use Rattle.std.proofs.Common.{◌≡◌, ℕ, ◌+◌, List, [], ◌∷◌, ◌++◌, length, Bool, true, false, refl, ap, sym, ◌∙◌, append_assoc, arith}
use Rattle.std.specs.Prelude.{Option}
use Rattle.dns_events.specs.declared.look.Look.{Look}
use Rattle.dns_book.specs.declared.history.Known.{Known}
use Rattle.dns_io.specs.SockTraffic.{SockTraffic}
use Rattle.dns_io.specs.declared.sock.Packet.{Packet}
use Rattle.dns_service.specs.Answer.{Answer}
use Rattle.dns_events.specs.declared.event.Event.{Event}
use Rattle.dns_service.specs.declared.polled.PolledRequest.{PolledRequest}
use Rattle.dns_session.specs.Serving.{Serving}
use Rattle.dns_session.specs.Slate.{Conf}
use Rattle.dns_events.specs.declared.settings.Settings.{Settings}
use Rattle.dns_recorder.specs.Clocks.{ClockReading}
use Rattle.dns_dgram_driver.specs.Events.{IsOwnKind, AllDatagramKinds, WideAreNobodys, packets_in, cut_packets, numbers_in, numbers_below}
use Rattle.dns_dgram_driver.specs.Order.{fault_events, IsFaultOf}
use Rattle.dns_dgram_driver.specs.Polled.{waits}
use Rattle.dns_dgram_driver.specs.Sent.{settings_shown, posted, packets_delivered}
use Rattle.dns_dgram_driver.specs.DatagramsServed.{World, world, LooksOnly, Input, CutOff, MayCome}
use Rattle.dns_dgram_driver.specs.Steps.{head_of, hears, NewsNoted, EventDated, SendsOrFaults}
use Rattle.dns_dgram_driver.specs.Rounds.{Among, ServesExchanges, Ran}
use Rattle.dns_dgram_driver.specs.declared.running.Running.{Running}
use Rattle.dns_dgram_driver.proofs.Clocks.{clocked_then, clocked_one, clocked_any}
use Rattle.dns_dgram_driver.proofs.Members.{kinds_more}
use Rattle.dns_dgram_driver.proofs.WideEvents.{nobodys_append, all_nobodys, own_nobodys}
use Rattle.dns_dgram_driver.proofs.EventOrder.{ordered_look, ordered_own}
use Rattle.dns_dgram_driver.proofs.Parts.{own_kind, input_quiet, input_look, input_same, delivered_wide, delivered_same, delivered_act}
use Rattle.dns_dgram_driver.proofs.Quiet.{all_wide_quiet, faults_quiet, append_two, kinds_append, waits_quiet, slate_lost, conf_lost}
use Rattle.dns_dgram_driver.proofs.Seats.{looks_then}
use Rattle.dns_dgram_driver.proofs.SentDatagrams.{packets_part, packets_part_list}
use Rattle.dns_dgram_driver.proofs.KeptExchanges.{TypeOf, news_wide, serves_news}

pub noted_more : (n0 n n' es fs : List Event) → n ≡ n0 ++ es → n' ≡ n ++ fs → n' ≡ n0 ++ (es ++ fs)
noted_more n0 n n' es fs h g = rw (g, h) (append_assoc n0 es fs)

module _ {W R F : Type 0} (answer : PolledRequest F R → ℕ → Answer) (answers : Serving) where
  -- a look, and its news
  pub ran_look : (first : Look) (start : World) (n n' : List Event) (m : SockTraffic) (f : ℕ) (c c' : List ClockReading) (k k' : Known) (s : Running W R F) (seat : TypeOf s.seat) (owed : List ℕ) (spare : ℕ) (look : Look)
      → NewsNoted s.heard look n n' c c' → LooksOnly k (look ∷ []) k'
      → Ran answer answers first start (world n m f c k) s false owed spare → Ran answer answers first start (world n' m f c' k') (record s { heard = hears s.heard look; seat = seat }) true owed spare
  ran_look first start n n' m f c c' k k' s seat owed spare look x l r =
      let settings = settings_shown first in
      let wide = news_wide s.heard look x.events x.news in
      let quiet = all_wide_quiet x.events wide in
      let serves = serves_news answer answers settings r.events s look x.events r.plain x.news r.serves in record {
        looks = r.looks ++ look ∷ [];
        events = r.events ++ x.events;
        noted = noted_more start.noted n n' r.events x.events r.noted x.noted;
        seat = looks_then start.known k k' (first ∷ r.looks) (look ∷ []) r.seat l;
        plain = kinds_append r.events x.events r.plain quiet;
        nobodys = nobodys_append r.events x.events r.nobodys (all_nobodys x.events x.nobodys);
        order = ordered_look first r.looks r.events s.heard false look x.events x.news r.order;
        input = input_look answers settings (r.events ++ x.events) (first ∷ r.looks) look (spare + 0) (spare + 1) s.next start.sock_traffic m (omega arith)
            (input_quiet answers settings r.events x.events (first ∷ r.looks) (spare + 0) s.next start.sock_traffic m r.plain quiet r.input);
        waiting = λ d h. r.waiting d (sym (waits_quiet answers settings d r.events x.events r.plain quiet) ∙ h);
        clock = clocked_then r.events x.events start.readings c c' start.sock_traffic.full_sends m.full_sends m.full_sends r.clock (clocked_any x.events c c' m.full_sends x.clock);
        output = delivered_wide answers settings r.events x.events start.sock_traffic m start.failed_sends f r.plain wide r.output;
        serves = record { each = serves.each; unused = serves.unused; heard = serves.heard };
      }

  -- the exchanges after an own event and the Fault of its exchange, if there is one
  serves_lost : (settings : Settings) (q : List Event) (e : Event) (f : Option Event) (s : Running W R F) → AllDatagramKinds q → IsFaultOf e f → ServesExchanges answer answers settings q s → ServesExchanges answer answers settings (q ++ fault_events f) s
  serves_lost settings q e f s d h x = record {
    each = λ c. rw (slate_lost answers settings c q e f d h) (x.each c);
    unused = λ c l. rw (slate_lost answers settings c q e f d h) (x.unused c l);
    heard = conf_lost settings q e f h ∙ x.heard;
  }

  -- an own event, and what was sent for it
  pub ran_act : (first : Look) (start : World) (n n1 n' : List Event) (m m1 m' : SockTraffic) (f f' : ℕ) (c c1 c' : List ClockReading) (k : Known) (s : Running W R F) (owed owed' : List ℕ) (spare : ℕ)
      (e : Event) (packets : List Packet) (exchanges : TypeOf s.exchanges) (next : ℕ) (send_failed : Bool)
      → IsOwnKind e.kind → EventDated e n n1 c c1 → SendsOrFaults (head_of e) packets s.heard.dgram.write_timeout n1 n' m1 m' f f' c1 c'
      → m1.sent ≡ m.sent → m1.full_sends ≡ m.full_sends
      → (r : Ran answer answers first start (world n m f c k) s true owed spare)
      → posted answers (settings_shown first) r.events e ≡ packets
      → Input answers (settings_shown first) (r.events ++ e ∷ []) (first ∷ r.looks) (spare + 0) next start.sock_traffic m1
      → ((d : ℕ) → waits answers (settings_shown first) d (r.events ++ e ∷ []) ≡ true → Among d owed')
      → ServesExchanges answer answers (settings_shown first) (r.events ++ e ∷ []) (record s { exchanges = exchanges; next = next })
      → Ran answer answers first start (world n' m' f' c' k) (record s { exchanges = exchanges; next = next; send_failed = send_failed }) false owed' spare
  ran_act first start n n1 n' m m1 m' f f' c c1 c' k s owed owed' spare e packets exchanges next send_failed own t x sent full r p i wait serves =
      let settings = settings_shown first in
      let kind = own_kind e.kind own in
      let lost = x.is_fault_of e refl in
      let q1 = r.events ++ e ∷ [] in
      let plain : AllDatagramKinds q1 = kinds_more r.events e r.plain kind.plain in
      let fs = fault_events x.fault in
      let quiet = faults_quiet e x.fault lost in
      let two : r.events ++ e ∷ fs ≡ q1 ++ fs = append_two r.events e fs in record {
        looks = r.looks;
        events = r.events ++ e ∷ fs;
        noted = noted_more start.noted n n' r.events (e ∷ fs) r.noted (rw (x.noted, t.noted) (append_assoc n (e ∷ []) fs));
        seat = r.seat;
        plain = rw two (kinds_append q1 fs plain quiet);
        nobodys = nobodys_append r.events (e ∷ fs) r.nobodys (own_nobodys e x.fault own lost);
        order = ordered_own first r.looks r.events s.heard e x.fault own lost r.order;
        input = rw two (input_same answers settings (q1 ++ fs) (first ∷ r.looks) (spare + 0) (spare + 0) next start.sock_traffic m1 m' x.posts.received (let e = x.posts.empty in omega arith)
            (input_quiet answers settings q1 fs (first ∷ r.looks) (spare + 0) next start.sock_traffic m1 plain quiet i));
        waiting = λ d h. wait d (sym (waits_quiet answers settings d q1 fs plain quiet) ∙ (ap (waits answers settings d) (sym two) ∙ h));
        clock = clocked_then r.events (e ∷ fs) start.readings c c' start.sock_traffic.full_sends m.full_sends m'.full_sends r.clock
            (rw (← full) (clocked_then (e ∷ []) fs c c1 c' m1.full_sends m1.full_sends m'.full_sends (clocked_one e c c1 m1.full_sends t.clock kind.plain) x.clock));
        output = delivered_act answers settings r.events e x.fault packets s.heard.dgram.write_timeout x.late x.failed start.sock_traffic m1 m' start.failed_sends f f' r.plain kind lost p
            (ap (λ (y : Conf). y.dgram.write_timeout) r.serves.heard) x.one x.early x.posts x.again x.rose
            (delivered_same answers settings r.events start.sock_traffic m m1 start.failed_sends f sent full r.output);
        serves = rw two (serves_lost settings q1 e x.fault (record s { exchanges = exchanges; next = next; send_failed = send_failed }) plain lost (record { each = serves.each; unused = serves.unused; heard = serves.heard }));
      }

  -- memory ran out, after these events and looks more
  pub cut_off : (first : Look) (start : World) (n n' : List Event) (m m' : SockTraffic) (f f' : ℕ) (c c' : List ClockReading) (k k' : Known) (s : Running W R F) (ready : Bool) (owed : List ℕ) (spare : ℕ)
      (es : List Event) (ls : List Look) (came unrecorded : List Packet) (number count : ℕ)
      → MayCome count (length came) → n' ≡ n ++ es → AllDatagramKinds es → WideAreNobodys es → LooksOnly k ls k' → m'.sent ≡ m.sent → m'.received ≡ start.sock_traffic.received ++ came
      → (r : Ran answer answers first start (world n m f c k) s ready owed spare)
      → cut_packets came ≡ packets_in (r.events ++ es) ++ unrecorded → numbers_in (r.events ++ es) ≡ numbers_below number
      → CutOff answers count start (world n' m' f' c' k')
  cut_off first start n n' m m' f f' c c' k k' s ready owed spare es ls came unrecorded number count within h plain nobodys l sent received r recorded numbered = record {
    first = first;
    looks = r.looks ++ ls;
    events = r.events ++ es;
    came = came;
    unrecorded = unrecorded;
    number = number;
    packets = packets_delivered answers (settings_shown first) r.events;
    noted = noted_more start.noted n n' r.events es r.noted h;
    seat = looks_then start.known k k' (first ∷ r.looks) ls r.seat l;
    received = received;
    within = within;
    recorded = recorded;
    numbered = numbered;
    nobodys = nobodys_append r.events es r.nobodys nobodys;
    sent = sent ∙ r.output.sent;
    part = packets_part_list answers (settings_shown first) (packets_delivered answers (settings_shown first) r.events) r.events es r.plain plain (packets_part answers (settings_shown first) r.events);
  }

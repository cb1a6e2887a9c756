-- What was received and what was sent, a step further.
use Rattle.std.proofs.Common.{◌≡◌, ◌≤◌, ℕ, ◌+◌, ◌-◌, ◌^◌, min, List, [], ◌∷◌, ◌++◌, length, true, false, refl, ap, sym, ◌∙◌, append_assoc, append-nil, arith, add-zero, length-append}
use Rattle.std.specs.Prelude.{Option, Some, None, is_some}
use Rattle.dns_name.specs.declared.address.SocketAddr.{SocketAddr}
use Rattle.dns_events.specs.declared.look.Look.{Look}
use Rattle.dns_io.specs.SockTraffic.{SockTraffic}
use Rattle.dns_io.specs.declared.sock.Packet.{Packet}
use Rattle.dns_events.specs.declared.event.Event.{Event}
use Rattle.dns_events.specs.declared.event.EventKind.{EventKind}
use Rattle.dns_events.specs.declared.event.EventKind.TheVariants.{Datagram, Turn, Fault}
use Rattle.dns_session.specs.Serving.{Serving}
use Rattle.dns_session.specs.Datagrams.{cut_datagram}
use Rattle.dns_events.specs.declared.settings.Settings.{Settings}
use Rattle.dns_recorder.specs.Own.{is_wide}
use Rattle.dns_recorder.specs.Sent.{conf}
use Rattle.dns_recorder.specs.Clocks.{faults_in}
use Rattle.dns_recorder.specs.Woven.{kinds}
use Rattle.dns_recorder.specs.Notes.{AllWide}
use Rattle.dns_dgram_driver.specs.Events.{IsOwnKind, IsDatagramKind, AllDatagramKinds, packets_in, numbers_in}
use Rattle.dns_dgram_driver.specs.Order.{fault_events, IsFaultOf}
use Rattle.dns_dgram_driver.specs.Polled.{waits}
use Rattle.dns_dgram_driver.specs.Sent.{is_fault, nothing_if, count_if, fails_before, posted, all_addressed, packets_delivered, early_faults}
use Rattle.dns_dgram_driver.specs.DatagramsServed.{Input, Delivered}
use Rattle.dns_dgram_driver.specs.Steps.{Posts}
use Rattle.dns_dgram_driver.proofs.Members.{kinds_more, gained_wide}
use Rattle.dns_dgram_driver.proofs.SentDatagrams.{faults_more, packets_more, packets_lost, early_more, early_lost}
use Rattle.dns_dgram_driver.proofs.ReceivedAndPolled.{packets_in_more, numbers_in_more, turns_in_more, cut_packets_more, numbers_below_more, turns_more}
use Rattle.dns_dgram_driver.proofs.Quiet.{AllQuiet, quiet_kind, wide_quiet, append_two, packets_quiet, numbers_quiet, turns_quiet, between_quiet}

-- own events are no Faults
pub record OwnKind (k : EventKind) : Type 0 where
  pub plain : IsDatagramKind k
  pub no_fault : is_fault k ≡ false
  pub no_wide : is_wide k ≡ false

pub own_kind : (k : EventKind) → IsOwnKind k → OwnKind k
own_kind (Datagram addr o) h = record { plain = tt; no_fault = refl; no_wide = refl }
own_kind (Turn n) h = record { plain = h; no_fault = refl; no_wide = refl }
own_kind _ h = absurd h

wide_no_fault : (k : EventKind) → is_wide k ≡ true → is_fault k ≡ false
wide_no_fault Fault w = cc
wide_no_fault _ w = refl

wide_plain : (e : Event) → is_wide e.kind ≡ true → IsDatagramKind e.kind
wide_plain e w = (quiet_kind e.kind (wide_quiet e.kind w)).plain

wide_same : {A : Type 0} (X : List Event → A) → ((p : List Event) (v : Event) → AllDatagramKinds p → is_wide v.kind ≡ true → X (p ++ v ∷ []) ≡ X p)
    → (q es : List Event) → AllDatagramKinds q → AllWide (kinds es) → X (q ++ es) ≡ X q
wide_same X one q [] d a = ap X (append-nil q)
wide_same X one q (e ∷ es) d a = ap X (append_two q e es) ∙ (wide_same X one (q ++ e ∷ []) es (kinds_more q e d (wide_plain e a.0)) a.1 ∙ one q e d a.0)

faults_wide : (q es : List Event) → AllDatagramKinds q → AllWide (kinds es) → faults_in (q ++ es) ≡ faults_in q
faults_wide = wide_same faults_in (λ p v d w. faults_more p v ∙ (ap (λ b. faults_in p + count_if b) (wide_no_fault v.kind w) ∙ add-zero (faults_in p)))

faults_act : (q : List Event) (e : Event) (f : Option Event) → is_fault e.kind ≡ false → IsFaultOf e f → faults_in (q ++ e ∷ fault_events f) ≡ faults_in q + length (fault_events f)
faults_act q e None n h = faults_more q e ∙ ap (λ b. faults_in q + count_if b) n
faults_act q e (Some v) n h =
    let a = faults_more q e in
    let b = faults_more (q ++ e ∷ []) v in
    let c : count_if (is_fault v.kind) ≡ 1 = rw h.0 refl in
    let d : count_if (is_fault e.kind) ≡ 0 = rw n refl in
    rw (append_two q e (v ∷ [])) (omega arith)

module _ (answers : Serving) (settings : Settings) where
  -- ---- what was received

  pub input_quiet : (q es : List Event) (looks : List Look) (more number : ℕ) (m m' : SockTraffic) → AllDatagramKinds q → AllQuiet es
      → Input answers settings q looks more number m m' → Input answers settings (q ++ es) looks more number m m'
  input_quiet q es looks more number m m' d a i = record {
    came = i.came;
    received = i.received;
    recorded = packets_quiet q es d a ∙ i.recorded;
    numbered = numbers_quiet q es d a ∙ i.numbered;
    polled = λ c. between_quiet answers settings c q es d a (i.polled c);
    looked = rw (turns_quiet q es d a) i.looked;
  }

  pub input_look : (q : List Event) (looks : List Look) (l : Look) (more more' number : ℕ) (m m' : SockTraffic) → more' ≡ more + 1
      → Input answers settings q looks more number m m' → Input answers settings q (looks ++ l ∷ []) more' number m m'
  input_look q looks l more more' number m m' e i = record {
    came = i.came;
    received = i.received;
    recorded = i.recorded;
    numbered = i.numbered;
    polled = i.polled;
    looked = let b = i.looked in omega (arith, length-append looks (l ∷ []), e);
  }

  -- no datagram came; each look that is spare no more is one whose receive gave none
  pub input_same : (q : List Event) (looks : List Look) (more more' number : ℕ) (m m1 m2 : SockTraffic) → m2.received ≡ m1.received → more + m1.empty_receives ≤ more' + m2.empty_receives
      → Input answers settings q looks more number m m1 → Input answers settings q looks more' number m m2
  input_same q looks more more' number m m1 m2 r l i = record {
    came = i.came;
    received = r ∙ i.received;
    recorded = i.recorded;
    numbered = i.numbered;
    polled = i.polled;
    looked = let b = i.looked in omega arith;
  }

  -- a Turn
  pub input_turn : (q : List Event) (e : Event) (looks : List Look) (more more' number : ℕ) (m m' : SockTraffic) → e.kind ≡ Turn 0 → more ≡ more' + 1
      → Input answers settings q looks more number m m' → Input answers settings (q ++ e ∷ []) looks more' number m m'
  input_turn q e looks more more' number m m' k l i = record {
    came = i.came;
    received = i.received;
    recorded = rw (packets_in_more q e, k, append-nil (packets_in q)) i.recorded;
    numbered = rw (numbers_in_more q e, k, append-nil (numbers_in q)) i.numbered;
    polled = λ c. turns_more answers settings c q e (i.polled c) (rw k tt);
    looked = rw (turns_in_more q e, k) (let b = i.looked in omega arith);
  }

  -- a datagram was received and noted, while nobody waited
  pub input_datagram : (q : List Event) (e : Event) (looks : List Look) (more more' number : ℕ) (m m1 m2 : SockTraffic) (from : SocketAddr) (octets whole : List ℕ)
      → e.kind ≡ Datagram from octets → e.client ≡ number → octets ≡ cut_datagram whole → m2.received ≡ m1.received ++ (record { octets = whole; addr = from }) ∷ [] → m2.empty_receives ≡ m1.empty_receives → more ≡ more' + 1
      → ((c : ℕ) → waits answers settings c q ≡ false)
      → Input answers settings q looks more number m m1 → Input answers settings (q ++ e ∷ []) looks more' (number + 1) m m2
  input_datagram q e looks more more' number m m1 m2 from octets whole k n o r t l nobody i =
      let v : Packet = record { octets = whole; addr = from } in record {
        came = i.came ++ v ∷ [];
        received = r ∙ rw i.received (append_assoc m.received i.came (v ∷ []));
        recorded = rw (packets_in_more q e, k, o, cut_packets_more i.came v, i.recorded) refl;
        numbered = rw (numbers_in_more q e, k, n, numbers_below_more number, i.numbered) refl;
        polled = λ c. turns_more answers settings c q e (i.polled c) (rw k (nobody c));
        looked = rw (turns_in_more q e, k, t) (let b = i.looked in omega (arith, length-append i.came (v ∷ [])));
      }

  -- ---- what was sent

  packets_wide : (q es : List Event) → AllDatagramKinds q → AllWide (kinds es) → packets_delivered answers settings (q ++ es) ≡ packets_delivered answers settings q
  packets_wide = wide_same (packets_delivered answers settings) (λ p v d w. packets_more answers settings p v d (wide_plain v w) (wide_no_fault v.kind w)
      ∙ (ap (λ outs. packets_delivered answers settings p ++ all_addressed answers settings (p ++ v ∷ []) outs) (gained_wide answers settings p v d (wide_plain v w) w) ∙ append-nil (packets_delivered answers settings p)))

  early_wide : (q es : List Event) → AllDatagramKinds q → AllWide (kinds es) → early_faults answers settings (q ++ es) ≡ early_faults answers settings q
  early_wide = wide_same (early_faults answers settings) (λ p v d w. early_more answers settings p v (wide_no_fault v.kind w))

  -- what all clients hear sends nothing
  pub delivered_wide : (q es : List Event) (m m' : SockTraffic) (a b : ℕ) → AllDatagramKinds q → AllWide (kinds es) → Delivered answers settings q m m' a b → Delivered answers settings (q ++ es) m m' a b
  delivered_wide q es m m' a b d w o = record {
    sent = rw (packets_wide q es d w) o.sent;
    late = o.late;
    failed = o.failed;
    faults = faults_wide q es d w ∙ o.faults;
    again = o.again;
    rose = o.rose;
    early = rw (early_wide q es d w) o.early;
  }

  -- the socket's sends are as they were
  pub delivered_same : (q : List Event) (m m1 m2 : SockTraffic) (a b : ℕ) → m2.sent ≡ m1.sent → m2.full_sends ≡ m1.full_sends → Delivered answers settings q m m1 a b → Delivered answers settings q m m2 a b
  delivered_same q m m1 m2 a b s f o = record { sent = s ∙ o.sent; late = o.late; failed = o.failed; faults = o.faults; again = rw f o.again; rose = o.rose; early = o.early }

  packets_act : (q : List Event) (e : Event) (f : Option Event) → AllDatagramKinds q → OwnKind e.kind → IsFaultOf e f
      → packets_delivered answers settings (q ++ e ∷ fault_events f) ≡ packets_delivered answers settings q ++ nothing_if (is_some f) (posted answers settings q e)
  packets_act q e None d k h = packets_more answers settings q e d k.plain k.no_fault
  packets_act q e (Some v) d k h = ap (packets_delivered answers settings) (append_two q e (v ∷ [])) ∙ (packets_lost answers settings q e v d k.plain k.no_fault h.0 h.1 ∙ sym (append-nil (packets_delivered answers settings q)))

  early_act : (q : List Event) (e : Event) (f : Option Event) → OwnKind e.kind
      → early_faults answers settings (q ++ e ∷ fault_events f) ≡ early_faults answers settings q + count_if (fails_before (e.at + (conf settings q).dgram.write_timeout) (fault_events f))
  early_act q e None k = early_more answers settings q e k.no_fault ∙ sym (add-zero (early_faults answers settings q))
  early_act q e (Some v) k = ap (early_faults answers settings) (append_two q e (v ∷ [])) ∙ early_lost answers settings q e v k.no_fault

  -- an own event, with what was sent for it or the Fault of its exchange
  pub delivered_act : (q : List Event) (e : Event) (f : Option Event) (packets : List Packet) (write late failed : ℕ) (m m1 m2 : SockTraffic) (a b d : ℕ)
      → AllDatagramKinds q → OwnKind e.kind → IsFaultOf e f → posted answers settings q e ≡ packets → (conf settings q).dgram.write_timeout ≡ write
      → length (fault_events f) ≡ late + failed → count_if (fails_before (e.at + write) (fault_events f)) ≤ failed
      → Posts (nothing_if (is_some f) packets) m1 m2 → m1.full_sends + late ≤ m2.full_sends → min (b + failed) (2 ^ 64 - 1) ≤ d
      → Delivered answers settings q m m1 a b → Delivered answers settings (q ++ e ∷ fault_events f) m m2 a d
  delivered_act q e f packets write late failed m m1 m2 a b d plain k h p w one early posts again rose o = record {
    sent = posts.sent ∙ rw (o.sent, packets_act q e f plain k h, p) (append_assoc m.sent (packets_delivered answers settings q) (nothing_if (is_some f) packets));
    late = o.late + late;
    failed = o.failed + failed;
    faults = faults_act q e f k.no_fault h ∙ (let x = o.faults in omega arith);
    again = let x = o.again in omega arith;
    rose = let x = o.rose in omega arith;
    early = rw (early_act q e f k, w) (let x = o.early in omega arith);
  }

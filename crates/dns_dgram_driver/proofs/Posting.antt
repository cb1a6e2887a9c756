-- A datagram is sent, or a Fault is noted in its place.
use Rattle.std.proofs.Common.{◌≡◌, ℕ, ◌+◌, ◌≤◌, List, [], ◌∷◌, ◌++◌, Bool, true, false, refl, sym, ◌∙◌, append_assoc, append-nil, length-append, arith, Some, None}
use Rattle.std.proofs.lemmas.Bool.{le-ltb}
use Rattle.dns_io.specs.Causes.{Rose}
use Rattle.dns_io.specs.SockTraffic.{SockTraffic}
use Rattle.dns_io.specs.declared.sock.Packet.{Packet}
use Rattle.dns_events.specs.declared.event.Event.{Event}
use Rattle.dns_events.specs.declared.event.EventKind.TheVariants.{Fault}
use Rattle.dns_recorder.specs.Clocks.{ClockReading}
use Rattle.dns_dgram_driver.specs.Sent.{count_if, fails_before}
use Rattle.dns_dgram_driver.specs.declared.notes.EventHead.{EventHead}
use Rattle.dns_dgram_driver.specs.Steps.{EventDated, Posts, SentSo, LateSo, SendsOrFaults, Unsent}
use Rattle.dns_dgram_driver.proofs.Clocks.{clocked_then, clocked_one, clocked_waited, clocked_late}

pub sent_none : (m : SockTraffic) (c : List ClockReading) → SentSo [] m m c c
sent_none m c = record {
  posts = record { received = refl; sent = sym (append-nil m.sent); empty = refl };
  waited = record { readings = []; clock = sym (append-nil c); count = omega arith };
}

-- a send answered Again, and then the clock was read
pub sent_again : (m m1 m2 m3 : SockTraffic) (c c1 c2 : List ClockReading) (r : ClockReading) → SentSo [] m m1 c c1 → m2 ≡ record m1 { full_sends = m1.full_sends + 1 } → c2 ≡ c1 ++ r ∷ [] → m3 ≡ m2 → SentSo [] m m3 c c2
sent_again m m1 m2 m3 c c1 c2 r s e h n =
    let d = n ∙ e in
    record {
      posts = record { received = rw d s.posts.received; sent = rw d s.posts.sent; empty = rw d s.posts.empty };
      waited = record {
        readings = s.waited.readings ++ r ∷ [];
        clock = rw (h, s.waited.clock) (append_assoc c s.waited.readings (r ∷ []));
        count = rw d (let q = s.waited.count in omega (arith, length-append s.waited.readings (r ∷ [])));
      };
    }

pub sent_late : (m m1 m2 : SockTraffic) (c c1 c2 : List ClockReading) (r : ClockReading) (since limit : ℕ) → SentSo [] m m1 c c1 → m2 ≡ record m1 { full_sends = m1.full_sends + 1 } → c2 ≡ c1 ++ r ∷ [] → since + limit ≤ r.0 → LateSo r.0 r.1 since limit m m2 c c2
sent_late m m1 m2 c c1 c2 r since limit s e h late = record {
  posts = record { received = rw e s.posts.received; sent = rw e s.posts.sent; empty = rw e s.posts.empty };
  waited = record {
    before = s.waited.readings;
    clock = rw (h, s.waited.clock) (append_assoc c s.waited.readings (r ∷ []));
    count = rw e (let q = s.waited.count in omega arith);
  };
  late = late;
}

pub sent_whole : (l : Packet) (m m1 m2 : SockTraffic) (c c1 : List ClockReading) → SentSo [] m m1 c c1 → m2 ≡ record m1 { sent = m1.sent ++ l ∷ [] } → SentSo (l ∷ []) m m2 c c1
sent_whole l m m1 m2 c c1 s e = record {
  posts = record { received = rw e s.posts.received; sent = rw (e, s.posts.sent, append-nil m.sent) refl; empty = rw e s.posts.empty };
  waited = record { readings = s.waited.readings; clock = s.waited.clock; count = rw e s.waited.count };
}

pub sent_failed : (m m1 m2 : SockTraffic) (c c1 : List ClockReading) → SentSo [] m m1 c c1 → m2 ≡ m1 → SentSo [] m m2 c c1
sent_failed m m1 m2 c c1 s e = rw e s

-- ---- what an event led to

pub sends_whole : (e : EventHead) (ls : List Packet) (write : ℕ) (n : List Event) (m m' : SockTraffic) (f f' : ℕ) (c c' : List ClockReading) → SentSo ls m m' c c' → f' ≡ f → SendsOrFaults e ls write n n m m' f f' c c'
sends_whole e ls write n m m' f f' c c' s g = record {
  fault = None;
  late = 0;
  failed = 0;
  noted = sym (append-nil n);
  is_fault_of = λ _ _. tt;
  one = refl;
  early = omega arith;
  posts = s.posts;
  again = let q = s.waited.count in omega arith;
  rose = omega arith;
  clock = clocked_waited c c' m.full_sends m'.full_sends s.waited;
}

not_early : (moment : ℕ) (v : Event) → v.kind ≡ Fault → moment ≤ v.at → count_if (fails_before moment (v ∷ [])) ≤ 0
not_early moment v k h = rw (k, le-ltb v.at moment h) (omega arith)

at_most_one : (b : Bool) → count_if b ≤ 1
at_most_one true = omega arith
at_most_one false = omega arith

pub sends_late : (e : EventHead) (v : Event) (ls : List Packet) (write : ℕ) (n n' : List Event) (m m' : SockTraffic) (f f' : ℕ) (c c' : List ClockReading) → v.kind ≡ Fault → v.client ≡ e.client → LateSo v.at v.secs e.at write m m' c c' → n' ≡ n ++ v ∷ [] → f' ≡ f
    → SendsOrFaults e ls write n n' m m' f f' c c'
sends_late e v ls write n n' m m' f f' c c' k i s h g = record {
  fault = Some v;
  late = 1;
  failed = 0;
  noted = h;
  is_fault_of = λ _ h. (k, i ∙ sym h);
  one = refl;
  early = not_early (e.at + write) v k s.late;
  posts = s.posts;
  again = let q = s.waited.count in omega arith;
  rose = omega arith;
  clock = clocked_late v c c' m.full_sends m'.full_sends (rw k tt) s.waited;
}

pub sends_failed : (e : EventHead) (v : Event) (ls : List Packet) (write : ℕ) (n n' : List Event) (m m' : SockTraffic) (f f' : ℕ) (c c1 c' : List ClockReading) → v.kind ≡ Fault → v.client ≡ e.client → SentSo [] m m' c c1 → EventDated v n n' c1 c' → Rose f f'
    → SendsOrFaults e ls write n n' m m' f f' c c'
sends_failed e v ls write n n' m m' f f' c c1 c' k i s h g = record {
  fault = Some v;
  late = 0;
  failed = 1;
  noted = h.noted;
  is_fault_of = λ _ h. (k, i ∙ sym h);
  one = refl;
  early = at_most_one (fails_before (e.at + write) (v ∷ []));
  posts = s.posts;
  again = let q = s.waited.count in omega arith;
  rose = g;
  clock = clocked_then [] (v ∷ []) c c1 c' m.full_sends m'.full_sends m'.full_sends (clocked_waited c c1 m.full_sends m'.full_sends s.waited) (clocked_one v c1 c' m'.full_sends h.clock (rw k tt));
}

pub unsent_posts : (n n' : List Event) (m m' : SockTraffic) → Posts [] m m' → n' ≡ n → Unsent n n' m m'
unsent_posts n n' m m' p h = record { noted = h; received = p.received; sent = p.sent ∙ append-nil m.sent }

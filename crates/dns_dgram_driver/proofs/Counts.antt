-- How many datagrams were received, and how many may be.
use Rattle.std.proofs.Common.{◌≡◌, ◌≤◌, ◌<◌, ℕ, ◌+◌, ◌-◌, ◌^◌, zero, suc, List, [], ◌∷◌, length, refl, ap, sym, ◌∙◌, arith, length-append, inl, inr}
use Rattle.std.specs.Prelude.{Option, Some, None}
use Rattle.dns_io.specs.SockTraffic.{SockTraffic}
use Rattle.dns_io.specs.declared.sock.Packet.{Packet}
use Rattle.dns_events.specs.declared.look.Look.{Look}
use Rattle.dns_events.specs.declared.event.Event.{Event}
use Rattle.dns_events.specs.declared.event.EventKind.{EventKind}
use Rattle.dns_events.specs.declared.event.EventKind.TheVariants.{Datagram}
use Rattle.dns_session.specs.Serving.{Serving}
use Rattle.dns_events.specs.declared.settings.Settings.{Settings}
use Rattle.dns_dgram_driver.specs.Events.{packet_in, packets_in, cut_packets, number_in, numbers_in, numbers_below}
use Rattle.dns_dgram_driver.specs.DatagramsServed.{Input, IsFull, MayCome}
use Rattle.dns_dgram_driver.specs.Rounds.{RoundedUpTo, TakenBy, TakenSo}
use Rattle.dns_dgram_driver.specs.declared.serving.DgramEnd.{DgramEnd}
use Rattle.dns_dgram_driver.specs.declared.serving.DgramEnd.TheVariants.{Shutdown as ByShutdown, Counted, Fault as ByFault, OutOfMemory}

-- ---- each datagram has a number

packet_numbers : (client : ℕ) (k : EventKind) → length (packet_in k) ≡ length (number_in client k)
packet_numbers client (Datagram addr o) = refl
packet_numbers client _ = refl

packets_numbers : (es : List Event) → length (packets_in es) ≡ length (numbers_in es)
packets_numbers [] = refl
packets_numbers (e ∷ es) =
    let a = length-append (packet_in e.kind) (packets_in es) in
    let b = length-append (number_in e.client e.kind) (numbers_in es) in
    let c = packet_numbers e.client e.kind in
    let d = packets_numbers es in
    omega arith

cut_length : (ls : List Packet) → length (cut_packets ls) ≡ length ls
cut_length [] = refl
cut_length (l ∷ ls) = let h = cut_length ls in omega arith

below_length : (n : ℕ) → length (numbers_below n) ≡ n
below_length zero = refl
below_length (suc n) = let a = length-append (numbers_below n) (n ∷ []) in let h = below_length n in omega arith

-- the datagrams received are as many as were numbered
pub came_number : (answers : Serving) (settings : Settings) (events : List Event) (looks : List Look) (more number : ℕ) (m m' : SockTraffic) (i : Input answers settings events looks more number m m') → length i.came ≡ number
came_number answers settings events looks more number m m' i =
    sym (cut_length i.came) ∙ (ap (λ (ls : List Packet). length ls) (sym i.recorded) ∙ (packets_numbers events ∙ (ap (λ (ns : List ℕ). length ns) i.numbered ∙ below_length number)))

-- ---- how many may come

pub may_come_less : {count n m : ℕ} → n ≤ m → MayCome count m → MayCome count n
may_come_less {count} {n} {m} l h = (λ some. let a : m ≤ count = h.0 some in omega arith, let b = h.1 in omega arith)

pub may_come_is : {count n m : ℕ} → n ≡ m → MayCome count m → MayCome count n
may_come_is e h = rw e h

-- if they aren't counted
pub may_come_any : {n : ℕ} → n < 2 ^ 64 - 1 → MayCome 0 (n + 1)
may_come_any l = (λ some. absurd (some refl), omega arith)

-- none did
pub may_come_none : {count n : ℕ} → n ≡ 0 → MayCome count n
may_come_none e = (λ some. omega arith, omega arith)

-- if one more may come, not all have
pub not_full : {count n : ℕ} → MayCome count (n + 1) → IsFull count n → ⊥
not_full h (inl f) = let a = h.0 f.0 in let b = f.1 in omega arith
not_full h (inr e) = let a = h.1 in omega arith

pub taken_less : (end : DgramEnd) {count n : ℕ} → TakenBy end count n → MayCome count n
taken_less ByShutdown {n = n} h = may_come_less (let l : n ≤ n + 1 = omega arith in l) h
taken_less Counted h = h
taken_less ByFault {n = n} h = may_come_less (let l : n ≤ n + 1 = omega arith in l) h
taken_less OutOfMemory h = h

-- a round after its look
pub taken_round : (r : Option DgramEnd) (count n n1 n2 : ℕ) → n1 ≡ n → MayCome count n → MayCome count (n + 1) → RoundedUpTo r n1 n2 → TakenSo r count n2
taken_round None count n n1 n2 e h room l = may_come_less (let x : n2 ≤ n + 1 = omega arith in x) room
taken_round (Some ByShutdown) count n n1 n2 e h room l = may_come_less (let x : n2 + 1 ≤ n + 1 = omega arith in x) room
taken_round (Some Counted) count n n1 n2 e h room l = may_come_is (l ∙ e) h
taken_round (Some ByFault) count n n1 n2 e h room l = may_come_less (let x : n2 + 1 ≤ n + 1 = omega arith in x) room
taken_round (Some OutOfMemory) count n n1 n2 e h room l = may_come_less (let x : n2 ≤ n + 1 = omega arith in x) room

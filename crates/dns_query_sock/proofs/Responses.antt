-- A socket without responses tells what the other one tells without them.
use Rattle.std.proofs.Common.{◌≡◌, ℕ, zero, suc, ◌+◌, ◌-◌, ◌<◌, ◌≤◌, Bool, true, false, ◌&&◌, nat_le, List, [], ◌∷◌, ◌++◌, length, take, filter, count_by, cond, min, if◌then◌else◌, subst, inl, inr, refl, sym, ap, ◌∙◌, arith, rules, append-nil, take_all}
use Rattle.std.proofs.lemmas.Bool.{false≢true}
use Rattle.std.proofs.lemmas.Bool.Decides.{leb_tells}
use Rattle.std.proofs.lemmas.List.Elements.{filter-append}
use Rattle.std.proofs.lemmas.List.Sums.{sum_by-append}
use Rattle.dns_name.specs.declared.address.SocketAddr.{SocketAddr}
use Rattle.dns_message.specs.Header.{header_of}
use Rattle.dns_io.specs.Causes.{Observed, Rose}
use Rattle.dns_io.specs.SockTraffic.{SockTraffic, Received, RecvMoves, RecvBound, RecvCause, SendMoves}
use Rattle.dns_io.specs.declared.sock.Packet.{Packet}
use Rattle.dns_io.specs.declared.sock.DgramRecv.{DgramRecv}
use Rattle.dns_io.specs.declared.sock.DgramRecv.TheVariants.{Got, Again, Failed}
use Rattle.dns_io.specs.declared.sock.DgramSend.{DgramSend}
use Rattle.dns_io.specs.declared.sock.DgramSend.TheVariants.{Took, Again as SendAgain, Failed as SendFailed}
use Rattle.dns_query_sock.specs.Queries.{carries_query, carries_response, is_response, passed_on, without_responses}

-- ---- the front of a datagram has its flags

header_front : (m : ℕ) (o : List ℕ) → header_of (take (suc (suc (suc (suc m)))) o) ≡ header_of o
header_front m [] = refl
header_front m (a ∷ []) = refl
header_front m (a ∷ b ∷ []) = refl
header_front m (a ∷ b ∷ c ∷ []) = refl
header_front m (a ∷ b ∷ c ∷ d ∷ o) = refl

long_front : (n : ℕ) (o : List ℕ) → 4 ≤ n → is_response (take n o) ≡ is_response o
long_front zero o room = absurd (omega arith)
long_front (suc zero) o room = absurd (omega arith)
long_front (suc (suc zero)) o room = absurd (omega arith)
long_front (suc (suc (suc zero))) o room = absurd (omega arith)
long_front (suc (suc (suc (suc m)))) o room = ap (λ h. h.qr) (header_front m o)

front_flags : (n : ℕ) (o buf : List ℕ) → 4 ≤ length buf → n ≡ min (length o) (length buf) → take n buf ≡ take n o → is_response (take n buf) ≡ is_response o
front_flags n o buf room count front =
    elim (leb_tells (length o) (length buf)) [
      | inl w ↦ (let whole : length o ≤ n = omega (arith, count, w.1) in ap is_response (front ∙ take_all n o whole))
      | inr w ↦ (let long : 4 ≤ n = omega (arith, count, w.1, room) in ap is_response front ∙ long_front n o long)
    ]

-- ---- one datagram more

module _ (a : SockTraffic) (p : Packet) where
  response_more : is_response p.octets ≡ true → without_responses (record a { received = a.received ++ p ∷ [] }) ≡ record (without_responses a) { empty_receives = (without_responses a).empty_receives + 1 }
  response_more h =
      let none : filter carries_query (p ∷ []) ≡ [] = rw h refl in
      let kept : filter carries_query (a.received ++ p ∷ []) ≡ filter carries_query a.received = filter-append carries_query a.received (p ∷ []) ∙ (ap (λ (l : List Packet). filter carries_query a.received ++ l) none ∙ append-nil (filter carries_query a.received)) in
      let one : count_by carries_response (p ∷ []) ≡ 1 = rw h refl in
      let counted : count_by carries_response (a.received ++ p ∷ []) ≡ count_by carries_response a.received + 1 = sum_by-append (λ (x : Packet). cond (carries_response x) 1 0) a.received (p ∷ []) ∙ ap (λ (k : ℕ). count_by carries_response a.received + k) one in
      let empty : a.empty_receives + count_by carries_response (a.received ++ p ∷ []) ≡ a.empty_receives + count_by carries_response a.received + 1 = omega (arith, counted) in
      let made : List Packet → ℕ → SockTraffic = λ l k. record a { received = l; empty_receives = k } in
      ap (λ (l : List Packet). made l (a.empty_receives + count_by carries_response (a.received ++ p ∷ []))) kept ∙ ap (made (filter carries_query a.received)) empty

  query_more : is_response p.octets ≡ false → without_responses (record a { received = a.received ++ p ∷ [] }) ≡ record (without_responses a) { received = (without_responses a).received ++ p ∷ [] }
  query_more h =
      let one : filter carries_query (p ∷ []) ≡ p ∷ [] = rw h refl in
      let kept : filter carries_query (a.received ++ p ∷ []) ≡ filter carries_query a.received ++ p ∷ [] = filter-append carries_query a.received (p ∷ []) ∙ ap (λ (l : List Packet). filter carries_query a.received ++ l) one in
      let none : count_by carries_response (p ∷ []) ≡ 0 = rw h refl in
      let counted : count_by carries_response (a.received ++ p ∷ []) ≡ count_by carries_response a.received + 0 = sum_by-append (λ (x : Packet). cond (carries_response x) 1 0) a.received (p ∷ []) ∙ ap (λ (k : ℕ). count_by carries_response a.received + k) none in
      let empty : a.empty_receives + count_by carries_response (a.received ++ p ∷ []) ≡ a.empty_receives + count_by carries_response a.received = omega (arith, counted) in
      let made : List Packet → ℕ → SockTraffic = λ l k. record a { received = l; empty_receives = k } in
      ap (λ (l : List Packet). made l (a.empty_receives + count_by carries_response (a.received ++ p ∷ []))) kept ∙ ap (made (filter carries_query a.received ++ p ∷ [])) empty

empty_more : (a : SockTraffic) → without_responses (record a { empty_receives = a.empty_receives + 1 }) ≡ record (without_responses a) { empty_receives = (without_responses a).empty_receives + 1 }
empty_more a =
    let empty : a.empty_receives + 1 + count_by carries_response a.received ≡ a.empty_receives + count_by carries_response a.received + 1 = omega arith in
    let made : ℕ → SockTraffic = λ k. record a { received = filter carries_query a.received; empty_receives = k } in
    ap made empty

-- ---- a receive

got_on : (answer : Bool) (n : ℕ) (from : SocketAddr) (buf : List ℕ) (a b : SockTraffic) → is_response (take n buf) ≡ answer → 4 ≤ length buf → Received n from buf a b → RecvMoves (if answer then Again else Got n from) buf (without_responses a) (without_responses b)
got_on true n from buf a b test room m =
    let same : is_response m.octets ≡ true = sym (front_flags n m.octets buf room m.count m.front) ∙ test in
    ap without_responses m.more ∙ response_more a (record { octets = m.octets; addr = from }) same
got_on false n from buf a b test room m =
    let same : is_response m.octets ≡ false = sym (front_flags n m.octets buf room m.count m.front) ∙ test in
    record { octets = m.octets; more = ap without_responses m.more ∙ query_more a (record { octets = m.octets; addr = from }) same; count = m.count; front = m.front }

moves_on : (r : DgramRecv) (buf : List ℕ) (a b : SockTraffic) → 4 ≤ length buf → RecvMoves r buf a b → RecvMoves (passed_on r buf) buf (without_responses a) (without_responses b)
moves_on (Got n from) buf a b room m = got_on (is_response (take n buf)) n from buf a b refl room m
moves_on Again buf a b room m = ap without_responses m ∙ empty_more a
moves_on Failed buf a b room m = ap without_responses m

both : (f g : Bool) → (f && g) ≡ true → (f ≡ true) × (g ≡ true)
both true true e = (refl, refl)
both true false e = absurd (false≢true e)
both false g e = absurd (false≢true e)

has_room : (n : ℕ) → nat_le 4 n ≡ true → 4 ≤ n
has_room n e = elim (leb_tells 4 n) [ inl w ↦ w.1 | inr w ↦ absurd (false≢true (sym w.0 ∙ e)) ]

pub received_on : (now was : Type 0) (f g : Bool) (r s : DgramRecv) (buf : List ℕ) (a b : SockTraffic) → Observed now was (RecvMoves r buf a b) → g ≡ (f && nat_le 4 (length buf)) → s ≡ passed_on r buf → Observed (now × (g ≡ true)) (was × (f ≡ true)) (RecvMoves s buf (without_responses a) (without_responses b))
received_on now was f g r s buf a b moves flag same = record {
  observed = λ n.
      let flags = both f (nat_le 4 (length buf)) (sym flag ∙ n.1) in
      let m = moves.observed n.0 in
      ((m.0, flags.0), subst (λ (x : DgramRecv). RecvMoves x buf (without_responses a) (without_responses b)) (sym same) (moves_on r buf a b (has_room (length buf) flags.1) m.1));
}

got_bound : (answer : Bool) (n : ℕ) (from : SocketAddr) (buf : List ℕ) → n ≤ length buf → RecvBound (if answer then Again else Got n from) buf
got_bound true n from buf fits = tt
got_bound false n from buf fits = fits

bounds_on : (r : DgramRecv) (buf : List ℕ) → RecvBound r buf → RecvBound (passed_on r buf) buf
bounds_on (Got n from) buf fits = got_bound (is_response (take n buf)) n from buf fits
bounds_on Again buf fits = tt
bounds_on Failed buf fits = tt

pub bound_on : (r s : DgramRecv) (buf : List ℕ) → RecvBound r buf → s ≡ passed_on r buf → RecvBound s buf
bound_on r s buf fits same = subst (λ (x : DgramRecv). RecvBound x buf) (sym same) (bounds_on r buf fits)

got_cause : (answer : Bool) (n : ℕ) (from : SocketAddr) (x y : ℕ) → y ≡ x → RecvCause (if answer then Again else Got n from) x y
got_cause true n from x y e = e
got_cause false n from x y e = e

causes_on : (r : DgramRecv) (buf : List ℕ) (x y : ℕ) → RecvCause r x y → RecvCause (passed_on r buf) x y
causes_on (Got n from) buf x y e = got_cause (is_response (take n buf)) n from x y e
causes_on Again buf x y e = e
causes_on Failed buf x y e = e

pub cause_on : (r s : DgramRecv) (buf : List ℕ) (x y : ℕ) → RecvCause r x y → s ≡ passed_on r buf → RecvCause s x y
cause_on r s buf x y e same = subst (λ (z : DgramRecv). RecvCause z x y) (sym same) (causes_on r buf x y e)

-- ---- a send and a wait

sends_on : (r : DgramSend) (octets : List ℕ) (to : SocketAddr) (a b : SockTraffic) → SendMoves r octets to a b → SendMoves r octets to (without_responses a) (without_responses b)
sends_on (Took n) octets to a b m = ap without_responses m
sends_on SendAgain octets to a b m = ap without_responses m
sends_on SendFailed octets to a b m = ap without_responses m

pub sent_on : (now was : Type 0) (f : Bool) (r : DgramSend) (octets : List ℕ) (to : SocketAddr) (a b : SockTraffic) → Observed now was (SendMoves r octets to a b) → Observed (now × (f ≡ true)) (was × (f ≡ true)) (SendMoves r octets to (without_responses a) (without_responses b))
sent_on now was f r octets to a b moves = record { observed = λ n. let m = moves.observed n.0 in ((m.0, n.1), sends_on r octets to a b m.1) }

pub still_on : (now was : Type 0) (f : Bool) (a b : SockTraffic) → Observed now was (b ≡ a) → Observed (now × (f ≡ true)) (was × (f ≡ true)) (without_responses b ≡ without_responses a)
still_on now was f a b moves = record { observed = λ n. let m = moves.observed n.0 in ((m.0, n.1), ap without_responses m.1) }

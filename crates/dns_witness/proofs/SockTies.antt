-- A witness of a socket stays tied to it.
use Rattle.std.proofs.Common.{◌≡◌, ℕ, ◌≤◌, List, [], ◌∷◌, ◌++◌, refl, sym, ◌∙◌, ap, append-nil, append_assoc, arith, add-zero, length, take, min, le_of_eq, length-take-le, take_all}
use Rattle.std.proofs.Math.Logic.{∥∥₁_map}
use Rattle.std.proofs.Math.Nat.{min-eq_left}
use Rattle.dns_name.specs.declared.address.SocketAddr.{SocketAddr}
use Rattle.dns_io.specs.Causes.{Observed}
use Rattle.dns_io.specs.SockTraffic.{SockTraffic, Received, RecvMoves, SendMoves}
use Rattle.dns_io.specs.declared.sock.Packet.{Packet}
use Rattle.dns_io.specs.declared.sock.DgramRecv.{DgramRecv}
use Rattle.dns_io.specs.declared.sock.DgramRecv.TheVariants.{Got, Again, Failed}
use Rattle.dns_io.specs.declared.sock.DgramSend.{DgramSend}
use Rattle.dns_io.specs.declared.sock.DgramSend.TheVariants.{Took, Again as SendAgain, Failed as SendFailed}
use Rattle.dns_witness.specs.Seen.{no_packets, received_as}
use Rattle.dns_witness.specs.Since.{SockSince, AreFronts, IsFrontOf}

-- what a receive gave is a datagram received
pub received : (n : ℕ) (from : SocketAddr) (buf : List ℕ) (a : SockTraffic) → n ≤ length buf
    → Received n from buf a (record a { received = a.received ++ (record { octets = take n buf; addr = from }) ∷ [] })
received n from buf a fits =
    let long = length-take-le n buf fits in
    record { octets = take n buf; more = refl; count = sym (ap (λ k. min k (length buf)) long ∙ min-eq_left fits); front = sym (take_all n (take n buf) (le_of_eq long)) }

fronts_more : (ss ws : List Packet) (s w : Packet) → AreFronts ss ws → IsFrontOf s w → AreFronts (ss ++ s ∷ []) (ws ++ w ∷ [])
fronts_more [] [] s w fronts one = (one, tt)
fronts_more (x ∷ ss) (y ∷ ws) s w fronts one = (fronts.0, fronts_more ss ws s w fronts.1 one)
fronts_more [] (y ∷ ws) s w fronts one = absurd fronts
fronts_more (x ∷ ss) [] s w fronts one = absurd fronts

since_none : (a : SockTraffic) → SockSince a a no_packets
since_none a = record {
  whole = [];
  received = sym (append-nil a.received);
  fronts = tt;
  sent = sym (append-nil a.sent);
  empty_receives = sym (add-zero a.empty_receives);
  full_sends = sym (add-zero a.full_sends);
}

since_send : (r : DgramSend) (octets : List ℕ) (to : SocketAddr) (a b b' t t' : SockTraffic) → SockSince a b t → SendMoves r octets to b b' → SendMoves r octets to t t' → SockSince a b' t'
since_send (Took n) octets to a b b' t t' s m k =
    let one : Packet = record { octets = octets; addr = to } in
    rw (m, k) (record { whole = s.whole; received = s.received; fronts = s.fronts; sent = ap (λ (l : List Packet). l ++ one ∷ []) s.sent ∙ append_assoc a.sent t.sent (one ∷ []); empty_receives = s.empty_receives; full_sends = s.full_sends })
since_send SendAgain octets to a b b' t t' s m k = rw (m, k) (record { whole = s.whole; received = s.received; fronts = s.fronts; sent = s.sent; empty_receives = s.empty_receives; full_sends = omega (arith, s.full_sends) })
since_send SendFailed octets to a b b' t t' s m k = rw (m, k) s

since_receive : (r : DgramRecv) (buf : List ℕ) (a b b' t t' : SockTraffic) → SockSince a b t → RecvMoves r buf b b' → t' ≡ received_as r buf t → SockSince a b' t'
since_receive (Got n from) buf a b b' t t' s m k =
    let whole : Packet = record { octets = m.octets; addr = from } in
    let front : IsFrontOf (record { octets = take n buf; addr = from }) whole = record { addr = refl; count = n; octets = m.front } in
    rw (m.more, k) (record {
      whole = s.whole ++ whole ∷ [];
      received = ap (λ (l : List Packet). l ++ whole ∷ []) s.received ∙ append_assoc a.received s.whole (whole ∷ []);
      fronts = fronts_more t.received s.whole (record { octets = take n buf; addr = from }) whole s.fronts front;
      sent = s.sent;
      empty_receives = s.empty_receives;
      full_sends = s.full_sends;
    })
since_receive Again buf a b b' t t' s m k = rw (m, k) (record { whole = s.whole; received = s.received; fronts = s.fronts; sent = s.sent; empty_receives = omega (arith, s.empty_receives); full_sends = s.full_sends })
since_receive Failed buf a b b' t t' s m k = rw (m, k) s

pub tied_first : (T : Type 0) (a b t : SockTraffic) → b ≡ a → t ≡ no_packets → ∥ Observed T T (SockSince a b t) ∥₁
tied_first T a b t same none = ∣ record { observed = λ now. (now, rw (same, none) (since_none a)) } ∣₁

module _ (before was now : Type 0) (a b b' t t' : SockTraffic) where
  pub tied_send : (r : DgramSend) (octets : List ℕ) (to : SocketAddr) → ∥ Observed was before (SockSince a b t) ∥₁ → Observed now was (SendMoves r octets to b b') → SendMoves r octets to t t' → ∥ Observed now before (SockSince a b' t') ∥₁
  tied_send r octets to tied moves seen = ∥∥₁_map tied (λ x. record { observed = λ n. let m = moves.observed n in let y = x.observed m.0 in (y.0, since_send r octets to a b b' t t' y.1 m.1 seen) })

  pub tied_receive : (r : DgramRecv) (buf : List ℕ) → ∥ Observed was before (SockSince a b t) ∥₁ → Observed now was (RecvMoves r buf b b') → t' ≡ received_as r buf t → ∥ Observed now before (SockSince a b' t') ∥₁
  tied_receive r buf tied moves seen = ∥∥₁_map tied (λ x. record { observed = λ n. let m = moves.observed n in let y = x.observed m.0 in (y.0, since_receive r buf a b b' t t' y.1 m.1 seen) })

pub tied_still : (before was now : Type 0) (a b b' t : SockTraffic) → ∥ Observed was before (SockSince a b t) ∥₁ → Observed now was (b' ≡ b) → ∥ Observed now before (SockSince a b' t) ∥₁
tied_still before was now a b b' t tied moves = ∥∥₁_map tied (λ x. record { observed = λ n. let m = moves.observed n in let y = x.observed m.0 in (y.0, rw (m.1) y.1) })

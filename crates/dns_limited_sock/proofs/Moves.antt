-- What goes out below, as it is seen from above.
use Rattle.std.proofs.Common.{◌≡◌, ℕ, ◌≤◌, List, Option, Some, None, length, refl, inl, inr, subst, sym}
use Rattle.dns_name.specs.declared.address.SocketAddr.{SocketAddr}
use Rattle.dns_io.specs.Causes.{Observed}
use Rattle.dns_io.specs.SockTraffic.{SockTraffic, SendBound, SendCause, SendMoves}
use Rattle.dns_io.specs.declared.sock.DgramSend.{DgramSend}
use Rattle.dns_io.specs.declared.sock.DgramSend.TheVariants.{Took, Again, Failed}
use Rattle.dns_rate_limit.specs.declared.rate.Verdict.{Verdict}
use Rattle.dns_limited_sock.specs.Emptied.{IsEmptied}
use Rattle.dns_limited_sock.specs.Sends.{EmptiedMoves, MayTakePlace, MovesAsJudged, MovesBy, ShortMoves, in_place_of}

-- ---- the answer of a send in place of another one

same_moves : (n : ℕ) (r : DgramSend) (octets : List ℕ) (to : SocketAddr) (a b : SockTraffic) → SendMoves r octets to a b → SendMoves (in_place_of n r) octets to a b
same_moves n (Took m) octets to a b moves = moves
same_moves n Again octets to a b moves = moves
same_moves n Failed octets to a b moves = moves

same_bound : (r : DgramSend) (octets : List ℕ) → SendBound (in_place_of (length octets) r) octets
same_bound (Took m) octets = refl
same_bound Again octets = tt
same_bound Failed octets = tt

same_cause : (n : ℕ) (r : DgramSend) (x y : ℕ) → SendCause r x y → SendCause (in_place_of n r) x y
same_cause n (Took m) x y cause = cause
same_cause n Again x y cause = cause
same_cause n Failed x y cause = cause

pub short_moves : (now was : Type 0) (n : ℕ) (r s : DgramSend) (octets : List ℕ) (to : SocketAddr) (a b : SockTraffic) → Observed now was (SendMoves r octets to a b) → s ≡ in_place_of n r → Observed now was (ShortMoves (Some octets) s to a b)
short_moves now was n r s octets to a b moves same = record {
  observed = λ t.
      let m = moves.observed t in
      (m.0, subst (λ (x : DgramSend). SendMoves x octets to a b) (sym same) (same_moves n r octets to a b m.1));
}

pub short_bound : (r s : DgramSend) (octets : List ℕ) → s ≡ in_place_of (length octets) r → SendBound s octets
short_bound r s octets same = subst (λ (x : DgramSend). SendBound x octets) (sym same) (same_bound r octets)

pub short_cause : (n : ℕ) (r s : DgramSend) (x y : ℕ) → SendCause r x y → s ≡ in_place_of n r → SendCause s x y
short_cause n r s x y cause same = subst (λ (z : DgramSend). SendCause z x y) (sym same) (same_cause n r x y cause)

-- ---- what goes out by a verdict

pub nothing_moves : (now : Type 0) (a : SockTraffic) → Observed now now (a ≡ a)
nothing_moves now a = record { observed = λ t. (t, refl) }

emptied_by : (short : Option (List ℕ)) (r : DgramSend) (reply : List ℕ) (to : SocketAddr) (a b : SockTraffic) → MayTakePlace reply short → ShortMoves short r to a b → EmptiedMoves r reply to a b
emptied_by None r reply to a b may moves = inl moves
emptied_by (Some short) r reply to a b may moves = inr (short, may, moves)

pub emptied_moves : (now was : Type 0) (short : Option (List ℕ)) (r : DgramSend) (reply : List ℕ) (to : SocketAddr) (a b : SockTraffic) → MayTakePlace reply short → Observed now was (ShortMoves short r to a b) → Observed now was (EmptiedMoves r reply to a b)
emptied_moves now was short r reply to a b may moves = record { observed = λ t. let m = moves.observed t in (m.0, emptied_by short r reply to a b may m.1) }

pub judged_moves : (now was : Type 0) (v : Verdict) (r : DgramSend) (reply : List ℕ) (to : SocketAddr) (a b : SockTraffic) → Observed now was (MovesBy v r reply to a b) → Observed now was (MovesAsJudged r reply to a b)
judged_moves now was v r reply to a b moves = record { observed = λ t. let m = moves.observed t in (m.0, (v, m.1)) }

-- What a frame that is taken leaves of a slate.
use Rattle.std.proofs.Common.{◌≡◌, ℕ, ◌+◌, List, [], ◌∷◌, ◌++◌, length, true, false, refl}
use Rattle.std.specs.Prelude.{nat_lt, if◌then◌else◌}
use Rattle.dns_base.specs.Header.{header_of}
use Rattle.dns_base.specs.Wire.{wire}
use Rattle.dns_framing.specs.ErrorReply.{error_reply}
use Rattle.dns_session.specs.Frames.{framed}
use Rattle.dns_session.specs.Slate.{Slate}
use Rattle.dns_session.specs.Requests.{most_requests, request_of_frame, unpolled}
use Rattle.dns_session.specs.Connections.{append_frame, enqueue_or_drop, room, take_request, take_frame}

-- all but the requests, the queue, what is spent and the timer stays
pub record Takes (s t : Slate) : Type 0 where
  pub client : t.client ≡ s.client
  pub phase : t.phase ≡ s.phase
  pub freed : t.freed ≡ s.freed
  pub conf : t.conf ≡ s.conf
  pub received : t.received ≡ s.received
  pub taken : t.taken ≡ s.taken + 1

-- a frame that is taken, before anything else is done with it
abbrev counted : ℕ → Slate → Slate
counted at s = record s { taken = s.taken + 1; reset_at = at }

asked_takes : (at secs : ℕ) (f : List ℕ) (s : Slate) → Takes s (take_request at secs f (counted at s))
asked_takes at secs f s = (elim (nat_lt (length s.requests) most_requests) as (λ b. Takes s (if b then record (counted at s) { requests = s.requests ++ unpolled (request_of_frame s.connection.idle_timeout s.addr at secs f) ∷ [] } else counted at s)) [
  | true ↦ record { client = refl; phase = refl; freed = refl; conf = refl; received = refl; taken = refl }
  | false ↦ record { client = refl; phase = refl; freed = refl; conf = refl; received = refl; taken = refl }
])

refused_takes : (at : ℕ) (m : List ℕ) (s : Slate) → Takes s (enqueue_or_drop at m (counted at s))
refused_takes at m s = (elim (room at s) as (λ b. Takes s (if b then append_frame at m (counted at s) else counted at s)) [
  | true ↦ record { client = refl; phase = refl; freed = refl; conf = refl; received = refl; taken = refl }
  | false ↦ record { client = refl; phase = refl; freed = refl; conf = refl; received = refl; taken = refl }
])

pub takes : (at secs : ℕ) (f : List ℕ) (s : Slate) → Takes s (take_frame at secs f s)
takes at secs f s =
    let m = framed (wire (error_reply f 1)) in
    (elim (header_of f).qr as (λ b. Takes s (if b then enqueue_or_drop at m (counted at s) else take_request at secs f (counted at s))) [ true ↦ refused_takes at m s | false ↦ asked_takes at secs f s ])

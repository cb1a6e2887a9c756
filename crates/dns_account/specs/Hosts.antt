-- What a host over witnesses says of its connections and its datagrams.
use Rattle.std.specs.Prelude.{◌⊎◌, ℕ}
use Rattle.dns_book.specs.Seats.{first_half, second_half}
use Rattle.dns_book.specs.declared.history.Known.{Known}
use Rattle.dns_session.specs.Serving.{Serving}
use Rattle.dns_accepts.specs.Accepting.{AcceptsTo}
use Rattle.dns_accepts.specs.declared.accepts.AcceptEnd.{AcceptEnd}
use Rattle.dns_dgram_driver.specs.DatagramsServed.{ServedTo}
use Rattle.dns_dgram_driver.specs.declared.serving.DgramEnd.{DgramEnd}
use Rattle.dns_host.specs.Hosting.{HostWorld, HostServed, NeitherBegan, dgram_world}
use Rattle.dns_host.specs.declared.host.HostEnd.{HostEnd}
use Rattle.dns_account.specs.DatagramLaw.{DatagramsByTheRules}

-- that accept object and spawner tell, and that socket, clock and recorder do: it holds of witnesses
abbrev pub AcceptTells : Type 0
AcceptTells = Unit {0} × Unit {0}

abbrev pub SockTells : Type 0
SockTells = Unit {0} × Unit {0} × Unit {0}

-- Connections were accepted by the first half of a seat that knows this, each that was admitted given to the spawner as work, in order.
-- Datagrams were served by the second half, and kept to the rules.
pub record BothKept (answers : Serving) (count : ℕ) (k : Known) (h h' : HostWorld) : Type 0 where
  pub accepts_end : AcceptEnd
  pub dgrams_end : DgramEnd
  pub first : Known
  pub second : Known
  pub accepted : AcceptsTo accepts_end count AcceptTells AcceptTells (first_half k) first
      h.accept_traffic h'.accept_traffic h.given h'.given h.failed_accepts h'.failed_accepts
  pub served : ServedTo answers dgrams_end count (dgram_world h (second_half k)) (dgram_world h' second)
  pub kept : DatagramsByTheRules answers (dgram_world h (second_half k)) (dgram_world h' second)

-- How a host over witnesses was served, of which this is seen; or memory ran out before either began.
pub record HostKept {H : Type 0} (seen : H → HostWorld) (answers : Serving) (end : HostEnd) (count : ℕ)
    (k k' : Known) (h h' : H) : Type 0 where
  pub served : HostServed seen (λ _. AcceptTells) (λ _. SockTells) answers end count k k' h h'
  pub kept : BothKept answers count k (seen h) (seen h') ⊎ NeitherBegan end k k'

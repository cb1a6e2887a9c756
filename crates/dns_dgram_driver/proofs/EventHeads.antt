-- Stamps of events that were noted, and the octets of datagrams among them.
use Rattle.std.proofs.Common.{◌≡◌, ℕ, List, Some, refl, subst}
use Rattle.std.specs.Prelude.{IsSome}
use Rattle.dns_name.specs.declared.address.SocketAddr.{SocketAddr}
use Rattle.dns_events.specs.declared.event.Event.{Event}
use Rattle.dns_events.specs.declared.event.EventKind.{EventKind}
use Rattle.dns_events.specs.declared.event.EventKind.TheVariants.{Datagram}
use Rattle.dns_recorder.specs.Clocks.{ClockReading}
use Rattle.dns_dgram_driver.specs.Steps.{EventDated, event_with, noted_octets, head_of}
use Rattle.dns_dgram_driver.specs.declared.notes.EventHead.{EventHead}

pub event_dated_as : {n n' : List Event} {c c' : List ClockReading} {e : Event} (head : EventHead) (kind : EventKind) → head ≡ head_of e → e.kind ≡ kind → EventDated e n n' c c' → EventDated (event_with head kind) n n' c c'
event_dated_as {n} {n'} {c} {c'} {e} head kind s k t = let same : e ≡ event_with head kind = rw (s, ← k) refl in subst (λ (x : Event). EventDated x n n' c c') same t

pub no_octets : (kind : EventKind) → IsSome (noted_octets kind) → ((addr : SocketAddr) (o : List ℕ) → kind ≡ Datagram addr o → ⊥) → ⊥
no_octets (Datagram addr o) some other = other addr o refl
no_octets _ some other = absurd cc

pub has_octets : (kind : EventKind) (addr : SocketAddr) (o : List ℕ) → kind ≡ Datagram addr o → IsSome (noted_octets kind)
has_octets kind addr o k = rw k refl

pub octets_are : (kind : EventKind) (addr : SocketAddr) (o p : List ℕ) → kind ≡ Datagram addr o → noted_octets kind ≡ Some p → p ≡ o
octets_are kind addr o p k h = let g : Some o ≡ Some p = rw k at h in cc

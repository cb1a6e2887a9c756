-- A host over witnesses was served as its objects tell, since all of them tell.
use Rattle.std.proofs.Common.{◌≡◌, ◌⊎◌, inl, inr, ℕ}
use Rattle.dns_book.specs.Seats.{second_half}
use Rattle.dns_book.specs.declared.history.Known.{Known}
use Rattle.dns_session.specs.Serving.{Serving}
use Rattle.dns_host.specs.Hosting.{HostServed, HostWorld, BothServed, NeitherBegan, dgram_world}
use Rattle.dns_host.specs.declared.host.HostEnd.{HostEnd}
use Rattle.dns_account.specs.Hosts.{AcceptTells, SockTells, BothKept, HostKept}
use Rattle.dns_account.proofs.Lawful.{datagrams_lawful}

both_kept : (answers : Serving) (end : HostEnd) (count : ℕ) (k k' : Known) (h h' : HostWorld) → BothServed answers end count AcceptTells AcceptTells SockTells SockTells k k' h h' → BothKept answers count k h h'
both_kept answers end count k k' h h' b =
    let to = (b.dgrams.served.observed (tt, tt, tt)).1 in
    record {
      accepts_end = b.accepts_end;
      dgrams_end = b.dgrams_end;
      first = b.accepts.between;
      second = b.dgrams.between;
      accepted = b.accepts.accepts;
      served = to;
      kept = datagrams_lawful answers b.dgrams_end count (dgram_world h (second_half k)) (dgram_world h' b.dgrams.between) to;
    }

pub host_kept : {H : Type 0} (seen : H → HostWorld) (answers : Serving) (end : HostEnd) (count : ℕ) (k k' : Known) (h h' : H)
    → HostServed seen (λ _. AcceptTells) (λ _. SockTells) answers end count k k' h h' → HostKept seen answers end count k k' h h'
host_kept seen answers end count k k' h h' s = record { served = s; kept = of s.observed } where
  of : BothServed answers end count AcceptTells AcceptTells SockTells SockTells k k' (seen h) (seen h') ⊎ (NeitherBegan end k k' × (h' ≡ h)) → BothKept answers count k (seen h) (seen h') ⊎ NeitherBegan end k k'
  of (inl b) = inl (both_kept answers end count k k' (seen h) (seen h') b)
  of (inr n) = inr n.0

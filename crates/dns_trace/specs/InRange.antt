-- Settings and events that are in range: their configurations, and their numbers and octets by their types. The client is 0 if all
-- clients hear them.
use Rattle.std.specs.Prelude.{◌≡◌, ℕ, ◌<◌, ◌^◌, List, length, IfSome}
use Rattle.std.specs.List.{All}
use Rattle.hex.specs.Hex.{IsBytes}
use Rattle.dns_name.specs.declared.address.IpAddr.{IpAddr}
use Rattle.dns_name.specs.declared.address.IpAddr.TheVariants.{V4, V6}
use Rattle.dns_name.specs.declared.address.SocketAddr.{SocketAddr}
use Rattle.dns_events.specs.Config.{IsDgram, IsStream}
use Rattle.dns_events.specs.declared.event.Event.{Event}
use Rattle.dns_events.specs.declared.event.EventKind.{EventKind}
use Rattle.dns_events.specs.declared.event.EventKind.TheVariants.{Datagram, Turn, Offer, Piece, End, Fault, Close, Write, Tick, Release, Reconfigure, Shutdown}
use Rattle.dns_events.specs.declared.settings.Settings.{Settings}

-- that many octets
abbrev pub IsOctets : ℕ → List ℕ → Type 0
IsOctets n o = (length o ≡ n) × IsBytes o

abbrev pub IsAddress : IpAddr → Type 0
IsAddress (V4 o) = IsOctets 4 o
IsAddress (V6 o) = IsOctets 16 o

pub record IsSocketAddr (a : SocketAddr) : Type 0 where
  pub ip : IsAddress a.ip
  pub port : a.port < 2 ^ 16

pub record IsSettings (s : Settings) : Type 0 where
  pub cookies : IfSome s.cookies (IsOctets 16)
  pub denied : All IsAddress s.denied
  pub dgram : IsDgram s.dgram
  pub stream : IsStream s.stream

-- what a kind of event holds, and the client of an event of this kind
abbrev pub IsKind : EventKind → ℕ → Type 0
IsKind (Datagram addr octets) client = IsSocketAddr addr × IsBytes octets
IsKind (Turn request) client = request < 2 ^ 64
IsKind (Offer addr) client = IsSocketAddr addr
IsKind (Piece octets) client = IsBytes octets
IsKind End client = Unit {0}
IsKind Fault client = Unit {0}
IsKind Close client = Unit {0}
IsKind (Write took) client = took < 2 ^ 64
IsKind Tick client = Unit {0}
IsKind Release client = Unit {0}
IsKind (Reconfigure dgram stream) client = IsDgram dgram × IsStream stream × (client ≡ 0)
IsKind Shutdown client = client ≡ 0

pub record IsEvent (e : Event) : Type 0 where
  pub at : e.at < 2 ^ 64
  pub secs : e.secs < 2 ^ 64
  pub client : e.client < 2 ^ 64
  pub kind : IsKind e.kind e.client

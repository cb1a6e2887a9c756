-- A zone that the server is secondary of, and its copy (RFC 1034, section 4.3.5).
use Rattle.std.specs.Prelude.{ℕ, Bool, true, false, ◌≡◌, ◌&&◌, not, List, nat_eq, Option, Some, None, is_none, is_some, option_map, Result, Ok, Err, MatchBool, if◌then◌else◌}
use Rattle.std.specs.Str.{bytes_eq}
use Rattle.dns_name.specs.Canonical.{same_name}
use Rattle.dns_name.specs.declared.address.IpAddr.{IpAddr}
use Rattle.dns_name.specs.declared.address.SocketAddr.{SocketAddr}
use Rattle.dns_config.specs.declared.key.KeyName.{KeyName}
use Rattle.dns_config.specs.declared.peer.Peer.{Peer}
use Rattle.dns_peer_keys.specs.PeerKeys.{key_named}
use Rattle.dns_secondary.specs.Copies.{CopyState, checking, is_newer, offered}
use Rattle.dns_secondary.specs.declared.copy.Pause.TheVariants.{AtOnce}
use Rattle.dns_secondary.specs.declared.timers.SoaTimers.{SoaTimers}
use Rattle.dns_tsig.specs.Keys.{KeyParts}
use Rattle.dns_socket_addr.specs.SocketAddresses.{same_socket_addr}
use Rattle.dns_zone_copies.specs.declared.check.Checked.{Checked}
use Rattle.dns_zone_copies.specs.declared.check.Checked.TheVariants.{Current, Came}

-- the apex of the zone, its primary, the key that is shared with it, if one is, the file of the copy, and the copy
pub record SecondaryState : Type 0 where
  pub apex : List (List ℕ)
  pub primary : SocketAddr
  pub key : Option KeyParts
  pub file : List ℕ
  pub copy : CopyState

-- a copy that was current at a moment, or none yet; a check is due at once
abbrev pub new_copy : IpAddr → Option SoaTimers → ℕ → CopyState
new_copy primary held moment = record { primary = primary; held = held; current = moment; since = moment; pause = AtOnce }

abbrev pub begun : List (List ℕ) → SocketAddr → Option KeyParts → List ℕ → Option SoaTimers → ℕ → SecondaryState
begun apex primary key file held current =
    record { apex = apex; primary = primary; key = key; file = file; copy = new_copy primary.ip held current }

-- the key that an entry names for its primary, or that none is; nothing if no key has the name
abbrev pub key_shared : List KeyParts → Option KeyName → Option (Option KeyParts)
key_shared keys None = Some None
key_shared keys (Some n) = option_map (λ found. Some found.1) (key_named n.name keys)

-- an entry of the configuration is of this zone, with this primary
abbrev pub is_entry_of : Option Peer → List (List ℕ) → List (List ℕ) → SocketAddr → Bool
is_entry_of None name apex primary = false
is_entry_of (Some peer) name apex primary = same_name name apex && same_socket_addr peer.address primary

abbrev pub is_of : Option Peer → List (List ℕ) → SecondaryState → Bool
is_of primary name s = is_entry_of primary name s.apex s.primary

-- the secondary of an entry has no copy in the entry's file: none came yet, or EXPIRE has passed
abbrev pub lacks_copy : Option Peer → List (List ℕ) → List ℕ → SecondaryState → Bool
lacks_copy primary name file s = is_of primary name s && (bytes_eq file s.file && is_none s.copy.held)

-- ---- which copy is served

abbrev pub same_timers : SoaTimers → SoaTimers → Bool
same_timers a b = nat_eq a.serial.0 b.serial.0 && (nat_eq a.refresh b.refresh && (nat_eq a.retry b.retry && nat_eq a.expire b.expire))

abbrev pub is_held : Option SoaTimers → SoaTimers → Bool
is_held None t = false
is_held (Some held) t = same_timers held t

-- what is served is the copy: one that isn't served is forgotten, and another one is asked for later; another one may be served, as an
-- operator may put it in the file's place: it was current at a moment, and a check is due at once
abbrev pub copy_followed : IpAddr → CopyState → Option SoaTimers → ℕ → ℕ → CopyState
copy_followed primary c None current now = if is_some c.held then checking (new_copy primary None now) now else c
copy_followed primary c (Some served) current now = if is_held c.held served then c else new_copy primary (Some served) current

abbrev pub followed : SecondaryState → Option KeyParts → List ℕ → Option SoaTimers → ℕ → ℕ → SecondaryState
followed s key file served current now =
    record s { key = key; file = file; copy = copy_followed s.primary.ip s.copy served current now }

-- of a zone that was there before with its primary it is known what was known of its copy; else its copy is that which is served
abbrev pub continued : Option SecondaryState → List (List ℕ) → SocketAddr → Option KeyParts → List ℕ → Option SoaTimers → ℕ → ℕ
    → SecondaryState
continued None name primary key file served current now = begun name primary key file served current
continued (Some s) name primary key file served current now = followed s key file served current now

-- ---- what comes of a check

-- what the primary's SOA record says is offered to the copy
abbrev pub with_offer : SecondaryState → SoaTimers → ℕ → SecondaryState
with_offer s t now = record s { copy = offered s.copy t now }

-- a zone that came and isn't served from now on: the copy is current; but one that is newer, and whose file can't be written, changes
-- nothing
abbrev pub passed_over : SecondaryState → SoaTimers → ℕ → SecondaryState
passed_over s t now = if is_newer s.copy.held t.serial then s else with_offer s t now

-- whether another copy is served from now on, by what came of a check
abbrev pub Takes : {Fault : Type 0} → Result Checked Fault → SecondaryState → SecondaryState → ℕ → Bool → Type 0
Takes (Ok (Current t)) old new now other = (new ≡ with_offer old t now) × (other ≡ is_newer old.copy.held t.serial)
Takes (Ok (Came t text)) old new now other =
    MatchBool other ((is_newer old.copy.held t.serial ≡ true) × (new ≡ with_offer old t now)) (new ≡ passed_over old t now)
Takes (Err fault) old new now other = (new ≡ old) × (other ≡ false)

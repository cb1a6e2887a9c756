-- The zones of a configuration as they are read of files (RFC 1034, section 4.3.5).
use Rattle.std.specs.Prelude.{ℕ, ◌≡◌, ◌⊎◌, Bool, true, Contains, List, [], ◌∷◌, MatchBool, Option, Some, None, if◌then◌else◌, map, string_bytes}
use Rattle.std.specs.List.{list_any}
use Rattle.std.specs.declared.alloc.Global.{Global}
use Rattle.std.specs.declared.vec.Vec.{Vec}
use Rattle.dns_authority.specs.Network.{Network}
use Rattle.dns_config.specs.declared.config.ZoneEntry.{ZoneEntry}
use Rattle.dns_config.specs.declared.peer.AllowedNetwork.{AllowedNetwork}
use Rattle.dns_config.specs.declared.peer.Peer.{Peer}
use Rattle.dns_generation.specs.Generations.{AddsFile, GenerationState, network_of, with_withheld}
use Rattle.dns_generation.specs.declared.generation.ZoneSummary.{ZoneSummary}
use Rattle.dns_zone_copies.specs.Secondaries.{SecondaryState, is_of, lacks_copy}
use Rattle.zoned.specs.Zones.{without_data}

-- one secondary, which is that of an entry
pub record IsIts (secondaries : List SecondaryState) (e : ZoneEntry) (near : List SecondaryState) : Type 0 where
  pub secondary : SecondaryState
  pub among : Contains secondaries secondary
  pub its : is_of e.primary e.name.name secondary ≡ true
  pub only : near ≡ secondary ∷ []

-- the secondaries among which that of an entry is looked for: itself, or all
abbrev pub AreNear : List SecondaryState → ZoneEntry → List SecondaryState → Type 0
AreNear secondaries e near = (near ≡ secondaries) ⊎ IsIts secondaries e near

-- whether one of them has no copy in the entry's file
abbrev pub lacks : ZoneEntry → List SecondaryState → Bool
lacks e near = list_any (lacks_copy e.primary e.name.name (string_bytes e.file)) near

-- ---- zones in few words

-- a zone is without data if its secondary has no copy
abbrev pub AreWithout : List SecondaryState → List ZoneEntry → List ZoneSummary → List ZoneSummary → Type 0
AreWithout secondaries [] summaries others = others ≡ []
AreWithout secondaries (e ∷ es) [] others = others ≡ []
AreWithout secondaries (e ∷ es) (z ∷ zs) [] = ⊥
AreWithout secondaries (e ∷ es) (z ∷ zs) (o ∷ os) =
    (near : List SecondaryState) × AreNear secondaries e near × (o ≡ (if lacks e near then without_data else z))
    × AreWithout secondaries es zs os

-- ---- zones of files

-- a network to which zones are transferred, whatever key it wants
abbrev pub allowed_network : AllowedNetwork → Network
allowed_network one = network_of one.network

-- the networks to which a zone is transferred: its own, or those for all
abbrev pub networks_of : Option (Vec AllowedNetwork Global) → List Network → List Network
networks_of None all = all
networks_of (Some own) all = map allowed_network own.items

-- the zone that a file writes is after the others
pub record FileIsRead (e : ZoneEntry) (a b : GenerationState) : Type 0 where
  pub text : List ℕ
  pub added : AddsFile e.name.name text (networks_of e.allow_transfer a.authority.allowed) a b

-- a copy is read of its file, if there is one; the zone is without data if there is none, or if the file writes no zone
abbrev pub CopyIsRead : List SecondaryState → ZoneEntry → GenerationState → GenerationState → Type 0
CopyIsRead near e a b =
    MatchBool (lacks e near) (b ≡ with_withheld e.name.name a) (FileIsRead e a b ⊎ (b ≡ with_withheld e.name.name a))

abbrev pub EntryIsRead : List SecondaryState → ZoneEntry → Option Peer → GenerationState → GenerationState → Type 0
EntryIsRead near e None a b = FileIsRead e a b
EntryIsRead near e (Some primary) a b = CopyIsRead near e a b

-- each zone is read, in their order
abbrev pub ReadsAll : List SecondaryState → List ZoneEntry → GenerationState → GenerationState → Type 0
ReadsAll secondaries [] a b = b ≡ a
ReadsAll secondaries (e ∷ es) a b =
    (near : List SecondaryState) × (between : GenerationState)
    × AreNear secondaries e near × EntryIsRead near e e.primary a between × ReadsAll secondaries es between b

-- a generation without zones, to be transferred to these networks
abbrev pub no_zones : List Network → GenerationState
no_zones allowed = record { authority = record { zones = []; allowed = allowed }; served = []; withheld = []; summaries = [] }

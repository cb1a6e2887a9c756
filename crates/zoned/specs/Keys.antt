-- The keys of a configuration, and which of its zones are judged by them (RFC 8945, section 5.2).
use Rattle.std.specs.Prelude.{ℕ, ◌≡◌, true, All, List, [], ◌∷◌, ◌++◌, Contains, map, Option, Some, None, is_some, string_bytes}
use Rattle.dns_config.specs.declared.config.ZoneEntry.{ZoneEntry}
use Rattle.dns_config.specs.declared.key.KeyEntry.{KeyEntry}
use Rattle.dns_config.specs.declared.key.KeySecret.{KeySecret}
use Rattle.dns_config.specs.declared.peer.AllowedNetwork.{AllowedNetwork}
use Rattle.dns_config.specs.declared.peer.Peer.{Peer}
use Rattle.dns_tsig.specs.Keys.{KeyParts}
use Rattle.dns_tsig.specs.Secrets.{key_written}
use Rattle.dns_key_access.specs.Rules.{AreAccesses, peer_access, wants_key}
use Rattle.dns_key_access.specs.declared.access.Access.{Access}
use Rattle.dns_key_access.specs.declared.access.ZoneAccess.{ZoneAccess}

-- the text of a key's secret: that which stands in its entry, if one does, and else what its file has
abbrev pub IsSecretText : Option KeySecret → List ℕ → Type 0
IsSecretText None text = Unit {0}
IsSecretText (Some s) text = text ≡ string_bytes s.text

-- a key has the name and the algorithm of its entry, and the secret that this text writes
pub record IsKeyOf (e : KeyEntry) (k : KeyParts) : Type 0 where
  pub text : List ℕ
  pub stands : IsSecretText e.secret text
  pub written : key_written e.name.name e.algorithm.algorithm text ≡ Some k

-- the key of an entry is after the others
pub record AddsKeyOf (e : KeyEntry) (before after : List KeyParts) : Type 0 where
  pub key : KeyParts
  pub made : IsKeyOf e key
  pub added : after ≡ before ++ key ∷ []

-- the networks to which a zone is transferred: its own, and else those for all zones
abbrev pub rules_by : {V : Type 0} → (V → List AllowedNetwork) → List AllowedNetwork → Option V → List AllowedNetwork
rules_by items for_all None = for_all
rules_by items for_all (Some own) = items own

abbrev pub rules_of : List AllowedNetwork → ZoneEntry → List AllowedNetwork
rules_of for_all e = rules_by (λ own. own.items) for_all e.allow_transfer

-- a zone is among those that are judged, by what it permits
pub record Judges (permitted : List Access → Type 0) (apex : List (List ℕ)) (zones : List ZoneAccess) : Type 0 where
  pub zone : ZoneAccess
  pub among : Contains zones zone
  pub named : zone.apex ≡ apex
  pub by_all : permitted zone.allowed.items

-- a zone is after the others, with what it permits
pub record AddsZone (apex : List (List ℕ)) (allowed : List Access) (before after : List ZoneAccess) : Type 0 where
  pub zone : ZoneAccess
  pub named : zone.apex ≡ apex
  pub permitted : zone.allowed.items ≡ allowed
  pub added : after ≡ before ++ zone ∷ []

-- if one of its networks wants a key, who asks for a transfer is judged by all of them
abbrev pub TransferIsJudged : List KeyParts → List AllowedNetwork → ZoneEntry → List ZoneAccess → Type 0
TransferIsJudged keys for_all e zones =
    wants_key (rules_of for_all e) ≡ true → Judges (AreAccesses keys (rules_of for_all e)) e.name.name zones

-- if a key is shared with its primary, a NOTIFY is judged by the primary's address and key
abbrev pub IsOfPeer : List KeyParts → Peer → List Access → Type 0
IsOfPeer keys p allowed = map Some allowed ≡ peer_access keys p ∷ []

abbrev pub notify_judged_by : List KeyParts → List (List ℕ) → List ZoneAccess → Option Peer → Type 0
notify_judged_by keys apex zones None = Unit {0}
notify_judged_by keys apex zones (Some p) = is_some p.key ≡ true → Judges (IsOfPeer keys p) apex zones

abbrev pub NotifyIsJudged : List KeyParts → ZoneEntry → List ZoneAccess → Type 0
NotifyIsJudged keys e zones = notify_judged_by keys e.name.name zones e.primary

-- zones stay among those that are judged
abbrev pub Grows : List ZoneAccess → List ZoneAccess → Type 0
Grows before after = (z : ZoneAccess) → Contains before z → Contains after z

-- each zone is judged if it wants a key
pub record AreJudged (keys : List KeyParts) (for_all : List AllowedNetwork) (entries : List ZoneEntry)
    (transfers notifies : List ZoneAccess) : Type 0 where
  pub transferred : All (λ e. TransferIsJudged keys for_all e transfers) entries
  pub notified : All (λ e. NotifyIsJudged keys e notifies) entries

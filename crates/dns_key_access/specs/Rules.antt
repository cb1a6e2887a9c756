-- What the rules of a configuration permit, by the keys that they name.
use Rattle.std.specs.Prelude.{ℕ, ◌≡◌, Bool, List, map, Option, Some, None, option_map, is_some}
use Rattle.std.specs.List.{list_any, slice_get}
use Rattle.dns_config.specs.declared.key.KeyName.{KeyName}
use Rattle.dns_config.specs.declared.peer.AllowedNetwork.{AllowedNetwork}
use Rattle.dns_config.specs.declared.peer.Peer.{Peer}
use Rattle.dns_tsig.specs.Keys.{KeyParts}
use Rattle.dns_peer_keys.specs.PeerKeys.{key_named}
use Rattle.dns_key_access.specs.declared.access.Access.{Access}
use Rattle.dns_key_access.specs.declared.rule_error.RuleError.{RuleError}
use Rattle.dns_key_access.specs.declared.rule_error.RuleError.TheVariants.{UnknownKey, OutOfMemory}

-- the place of the key that is named, or that none is; nothing if no key has the name
abbrev pub place_in : List KeyParts → Option KeyName → Option (Option ℕ)
place_in keys None = Some None
place_in keys (Some n) = option_map (λ found. Some found.0) (key_named n.name keys)

-- a network, under the key that is named
abbrev pub access_in : List KeyParts → AllowedNetwork → Option Access
access_in keys r = option_map (λ key. record { network = record { address = r.network.address; bits = r.network.bits }; key = key })
    (place_in keys r.key)

-- a whole address
abbrev pub peer_access : List KeyParts → Peer → Option Access
peer_access keys p = option_map (λ key. record { network = record { address = p.address.ip; bits = 128 }; key = key }) (place_in keys p.key)

abbrev pub wants_key : List AllowedNetwork → Bool
wants_key rules = list_any (λ r. is_some r.key) rules

-- each rule is made, in their order
abbrev pub AreAccesses : List KeyParts → List AllowedNetwork → List Access → Type 0
AreAccesses keys rules made = map (access_in keys) rules ≡ map Some made

-- a rule names a key that isn't there, unless memory ran out
abbrev pub HasRuleError : List KeyParts → List AllowedNetwork → RuleError → Type 0
HasRuleError keys rules (UnknownKey n) = (r : AllowedNetwork) × (slice_get rules n ≡ Some r) × (access_in keys r ≡ None)
HasRuleError keys rules OutOfMemory = Unit {0}

-- Service parameters (RFC 9460, sections 2.1 and 2.2): in any order as they are read, by the numbers of their keys as octets.
use Rattle.std.specs.Prelude.{ℕ, ◌+◌, ◌*◌, Bool, true, false, not, ◌&&◌, List, [], ◌∷◌, ◌++◌, length, take, drop, insert, nat_eq, nat_le, nat_lt, if◌then◌else◌, Option, Some, None, Result, Ok, Err, codes}
use Rattle.std.specs.List.{flat_map, list_any, position_or_len}
use Rattle.std.specs.Str.{bytes_eq}
use Rattle.base64.specs.GeneralPurpose.{decode_of as base64_of}
use Rattle.base64.specs.Engines.{standard}
use Rattle.dns_name.specs.Place.{two}
use Rattle.dns_entries.specs.Reading.{LineRead, ◌>>=◌, some_or, unless_at}
use Rattle.dns_presentation.specs.Strings.{ok, string_in}
use Rattle.dns_word_values.specs.Values.{◌>>?◌, long_address, number_below, quad, string_octets}
use Rattle.dns_entries.specs.declared.entry.Word.{Word}
use Rattle.dns_entries.specs.declared.reason.EntryReason.TheVariants.{Escape, Length, Parameter, Quoted, Repeated}
use Rattle.dns_presentation.specs.declared.param_values.Item.{Item}
use Rattle.dns_presentation.specs.declared.param_values.Item.TheVariants.{Key, Protocol, Short, Long}

-- a key by its name, or by its number after `key` (RFC 9460, section 14.3.2)
abbrev pub numbered_key : List ℕ → Option ℕ
numbered_key w = if bytes_eq (take 3 w) (codes "key") then number_below 65535 (drop 3 w) else None

abbrev pub param_key : List ℕ → Option ℕ
param_key w =
    if bytes_eq w (codes "mandatory") then Some 0
    else if bytes_eq w (codes "alpn") then Some 1
    else if bytes_eq w (codes "no-default-alpn") then Some 2
    else if bytes_eq w (codes "port") then Some 3
    else if bytes_eq w (codes "ipv4hint") then Some 4
    else if bytes_eq w (codes "ech") then Some 5
    else if bytes_eq w (codes "ipv6hint") then Some 6
    else if bytes_eq w (codes "dohpath") then Some 7
    else if bytes_eq w (codes "ohttp") then Some 8
    else numbered_key w

-- ---- values

-- a protocol after its length, which isn't zero (RFC 9460, section 7.1.1)
abbrev pub protocol_octets : List ℕ → Option (List ℕ)
protocol_octets w = if nat_eq (length w) 0 then None else if nat_lt 255 (length w) then None else Some (length w ∷ w)

abbrev pub item_octets : Item → List ℕ → Option (List ℕ)
item_octets Key w = param_key w >>? λ n. Some (two n)
item_octets Protocol w = protocol_octets w
item_octets Short w = quad w
item_octets Long w = long_address w

abbrev pub item_behind : Item → List ℕ → List ℕ → Option (List ℕ)
item_behind kind octets w = item_octets kind w >>? λ o. Some (octets ++ o)

-- Items that commas part; an octet after a backslash is one of an item (RFC 9460, appendix A.1). The state is whether a backslash
-- stands before, the octets of the items so far, and the item to come.
abbrev pub item_step : Item → Bool → List ℕ → List ℕ → ℕ → Option (Bool × List ℕ × List ℕ)
item_step kind true octets w c = Some (false, octets, w ++ c ∷ [])
item_step kind false octets w c =
    if nat_eq c 92 then Some (true, octets, w)
    else if nat_eq c 44 then (item_behind kind octets w >>? λ o. Some (false, o, []))
    else Some (false, octets, w ++ c ∷ [])

abbrev pub items_end : Item → Bool → List ℕ → List ℕ → Option (List ℕ)
items_end kind true octets w = None
items_end kind false octets w = item_behind kind octets w

abbrev pub items_after : Item → Bool → List ℕ → List ℕ → List ℕ → Option (List ℕ)
items_after kind escaped octets w [] = items_end kind escaped octets w
items_after kind escaped octets w (c ∷ cs) = item_step kind escaped octets w c >>? λ s. items_after kind s.0 s.1 s.2 cs

abbrev pub items_of : Item → List ℕ → Option (List ℕ)
items_of kind v = items_after kind false [] [] v

abbrev pub no_octets : List ℕ → Option (List ℕ)
no_octets v = if nat_eq (length v) 0 then Some [] else None

abbrev pub port_octets : List ℕ → Option (List ℕ)
port_octets v = number_below 65536 v >>? λ n. Some (two n)

-- The keys that a client must know: in any order as they are read, rising as they are sent (RFC 9460, section 8). One more is put in before
-- the first larger one. None stands twice, and `mandatory` itself is none of them.
abbrev pub key_place : ℕ → List ℕ → ℕ
key_place key ks = position_or_len (λ k. nat_lt key k) ks

abbrev pub with_key : List ℕ → ℕ → Option (List ℕ)
with_key ks key =
    if nat_eq key 0 then None
    else if list_any (λ k. nat_eq k key) ks then None
    else Some (insert ks (key_place key ks) key)

-- keys of two octets each
abbrev pub with_keys : List ℕ → List ℕ → Option (List ℕ)
with_keys ks [] = Some ks
with_keys ks (a ∷ []) = None
with_keys ks (a ∷ b ∷ os) = with_key ks (256 * a + b) >>? λ more. with_keys more os

abbrev pub mandatory_octets : List ℕ → Option (List ℕ)
mandatory_octets v = items_of Key v >>? λ o. with_keys [] o >>? λ ks. Some (flat_map two ks)

-- the value of a key
abbrev pub param_value : ℕ → List ℕ → Option (List ℕ)
param_value key v =
    if nat_eq key 0 then mandatory_octets v
    else if nat_eq key 1 then items_of Protocol v
    else if nat_eq key 2 then no_octets v
    else if nat_eq key 3 then port_octets v
    else if nat_eq key 4 then items_of Short v
    else if nat_eq key 5 then ok (base64_of standard v)
    else if nat_eq key 6 then items_of Long v
    else if nat_eq key 8 then no_octets v
    else Some v

-- ---- words

-- A parameter: its key, and its octets, which are the key, the length of the value and the value.
pub record Param : Type 0 where
  pub key : ℕ
  pub octets : List ℕ

abbrev pub param_of : ℕ → List ℕ → Param
param_of key d = record { key = key; octets = two key ++ (two (length d) ++ d) }

-- The parameters so far, by their keys, and the key of one whose word ends in `=`.
pub record Params : Type 0 where
  pub list : List Param
  pub opened : Option ℕ

abbrev pub no_params : Params
no_params = record { list = []; opened = None }

abbrev pub has_key : ℕ → List Param → Bool
has_key key ps = list_any (λ p. nat_eq p.key key) ps

-- before the first of a larger key
abbrev pub place_of : ℕ → List Param → ℕ
place_of key ps = position_or_len (λ p. nat_lt key p.key) ps

abbrev pub with_value : Params → ℕ → List ℕ → Params
with_value p key d = record { list = insert p.list (place_of key p.list) (param_of key d); opened = None }

-- one more, whose key must be none of those so far
unfoldable pub with_param : ℕ → Params → ℕ → List ℕ → LineRead Params
with_param line p key v = do
  _ ← unless_at line Repeated (not (has_key key p.list))
  d ← some_or line Parameter (param_value key v)
  _ ← unless_at line Length (nat_le (length d) 65535)
  Ok (with_value p key d)

-- a key that no value in quotes follows has none
abbrev pub param_ended_by : ℕ → Params → Option ℕ → LineRead Params
param_ended_by line p None = Ok p
param_ended_by line p (Some key) = with_param line p key []

abbrev pub param_ended : ℕ → Params → LineRead Params
param_ended line p = param_ended_by line p p.opened

abbrev pub quoted_value : Params → Word → Option ℕ → LineRead Params
quoted_value p w None = Err (w.line, Quoted)
quoted_value p w (Some key) = string_in w >>= λ v. with_param w.line p key v

-- where the first `=` is, or else the end
abbrev pub equals_at : List ℕ → ℕ
equals_at w = position_or_len (λ c. nat_eq c 61) w

abbrev pub value_behind : ℕ → Params → ℕ → List ℕ → LineRead Params
value_behind line p key [] = with_param line p key []
value_behind line p key (c ∷ []) = Ok (record p { opened = Some key })
value_behind line p key (c ∷ d ∷ v) = some_or line Escape (string_octets (d ∷ v)) >>= λ o. with_param line p key o

-- KEY or KEY=VALUE
abbrev pub bare_param : Params → Word → LineRead Params
bare_param p w =
    param_ended w.line p >>= λ q. some_or w.line Parameter (param_key (take (equals_at w.octets) w.octets)) >>= λ key.
    value_behind w.line q key (drop (equals_at w.octets) w.octets)

abbrev pub one_param : Params → Word → LineRead Params
one_param p w = if w.quoted then quoted_value p w p.opened else bare_param p w

abbrev pub params_after : Params → List Word → LineRead Params
params_after p [] = Ok p
params_after p (w ∷ ws) = one_param p w >>= λ q. params_after q ws

abbrev pub params_octets : ℕ → List Word → LineRead (List ℕ)
params_octets line ws = params_after no_params ws >>= λ p. param_ended line p >>= λ q. Ok (flat_map (λ x. x.octets) q.list)

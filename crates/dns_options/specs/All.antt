-- Every kind of option as one.
use Rattle.std.specs.Prelude.{ℕ, List, Option, Some, nat_eq, if◌then◌else◌}
use Rattle.dns_name.specs.Labels.{spell}
use Rattle.dns_name.specs.OptData.{Taken, mapped_data, list_data}
use Rattle.dns_lists.specs.Tags.{tag_data}
use Rattle.dns_lists.specs.Unknowns.{unknown}
use Rattle.dns_kinds.specs.Chains.{chain_data}
use Rattle.dns_kinds.specs.Extended.{extended_data, extended_octets}
use Rattle.dns_kinds.specs.Subnet.{subnet_data, subnet_octets}
use Rattle.dns_kinds.specs.Timers.{expire_data, expire_octets, keepalive_data, keepalive_octets}
use Rattle.dns_cookie.specs.CookieData.{cookie_data, cookie_octets}
use Rattle.dns_options.specs.declared.all.AllOptData.{AllOptData}
use Rattle.dns_options.specs.declared.all.AllOptData.TheVariants.{Dau, Dhu, N3u, Chain, Cookie, Expire, ExtendedError, TcpKeepalive, KeyTag, Nsid, Padding, ClientSubnet, Other}

-- options over plain octets, and of a code that has no kind
abbrev pub octets_data : ℕ → List ℕ → Taken AllOptData
octets_data code d =
    if nat_eq code 3 then mapped_data Nsid (list_data d)
    else (if nat_eq code 12 then mapped_data Padding (list_data d)
    else (if nat_eq code 14 then mapped_data KeyTag (tag_data d)
    else mapped_data (λ o. Other (unknown code o)) (list_data d)))

-- options of numbers, an address, a name or a text, else those above
abbrev pub fields_data : ℕ → List ℕ → Taken AllOptData
fields_data code d =
    if nat_eq code 8 then mapped_data ClientSubnet (subnet_data d)
    else (if nat_eq code 9 then mapped_data Expire (expire_data d)
    else (if nat_eq code 11 then mapped_data TcpKeepalive (keepalive_data d)
    else (if nat_eq code 13 then mapped_data Chain (chain_data d)
    else (if nat_eq code 15 then mapped_data ExtendedError (extended_data d)
    else octets_data code d))))

-- the kind of each code that has one, else the data under its code
abbrev pub all_data : ℕ → List ℕ → Taken AllOptData
all_data code d =
    if nat_eq code 5 then mapped_data Dau (list_data d)
    else (if nat_eq code 6 then mapped_data Dhu (list_data d)
    else (if nat_eq code 7 then mapped_data N3u (list_data d)
    else (if nat_eq code 10 then mapped_data Cookie (cookie_data d)
    else fields_data code d)))

abbrev pub all_takes : ℕ → List ℕ → Option (Taken AllOptData)
all_takes code d = Some (all_data code d)

abbrev pub code_of : AllOptData → ℕ
code_of (Dau k) = 5
code_of (Dhu k) = 6
code_of (N3u k) = 7
code_of (Chain k) = 13
code_of (Cookie k) = 10
code_of (Expire k) = 9
code_of (ExtendedError k) = 15
code_of (TcpKeepalive k) = 11
code_of (KeyTag k) = 14
code_of (Nsid k) = 3
code_of (Padding k) = 12
code_of (ClientSubnet k) = 8
code_of (Other k) = k.code

abbrev pub all_octets : AllOptData → List ℕ
all_octets (Dau k) = k
all_octets (Dhu k) = k
all_octets (N3u k) = k
all_octets (Chain k) = spell k
all_octets (Cookie k) = cookie_octets k
all_octets (Expire k) = expire_octets k
all_octets (ExtendedError k) = extended_octets k
all_octets (TcpKeepalive k) = keepalive_octets k
all_octets (KeyTag k) = k
all_octets (Nsid k) = k
all_octets (Padding k) = k
all_octets (ClientSubnet k) = subnet_octets k
all_octets (Other k) = k.octets

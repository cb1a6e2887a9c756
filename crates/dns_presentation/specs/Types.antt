-- The types of a zone file, and what stands in the data of each.
use Rattle.std.specs.Prelude.{ℕ, ◌+◌, Bool, true, false, ◌||◌, ◌&&◌, List, [], ◌∷◌, length, map, take, drop, nat_eq, nat_lt, nat_le, if◌then◌else◌, Option, Some, None, codes}
use Rattle.std.specs.Char.{to_ascii_lowercase}
use Rattle.std.specs.Str.{bytes_eq}
use Rattle.dns_word_values.specs.Values.{◌>>?◌, number_below, some_or_else}
use Rattle.dns_presentation.specs.declared.types.Field.{Field}
use Rattle.dns_presentation.specs.declared.types.Field.TheVariants.{Quad, LongAddress, Host, Octet, Short, Long, Period, Tag, TypeCode, CharString, Moment, Salt, Hashed, Algorithm}
use Rattle.dns_presentation.specs.declared.types.Rest.{Rest}
use Rattle.dns_presentation.specs.declared.types.Rest.TheVariants.{Nothing, Strings, Value, Hex, Base64, TypeSet, Params}

-- a word in any case
abbrev pub spells : List ℕ → List ℕ → Bool
spells t w = bytes_eq (map to_ascii_lowercase w) (map to_ascii_lowercase t)

-- types that few zones have
abbrev pub rare_mnemonic : List ℕ → Option ℕ
rare_mnemonic w =
    if spells (codes "hinfo") w then Some 13
    else if spells (codes "minfo") w then Some 14
    else if spells (codes "rp") w then Some 17
    else if spells (codes "afsdb") w then Some 18
    else if spells (codes "rt") w then Some 21
    else if spells (codes "naptr") w then Some 35
    else if spells (codes "kx") w then Some 36
    else if spells (codes "cert") w then Some 37
    else if spells (codes "dhcid") w then Some 49
    else if spells (codes "smimea") w then Some 53
    else if spells (codes "cds") w then Some 59
    else if spells (codes "cdnskey") w then Some 60
    else if spells (codes "openpgpkey") w then Some 61
    else if spells (codes "zonemd") w then Some 63
    else if spells (codes "spf") w then Some 99
    else if spells (codes "uri") w then Some 256
    else if spells (codes "md") w then Some 3
    else if spells (codes "mf") w then Some 4
    else if spells (codes "mb") w then Some 7
    else if spells (codes "mg") w then Some 8
    else if spells (codes "mr") w then Some 9
    else if spells (codes "nsec3param") w then Some 51
    else if spells (codes "csync") w then Some 62
    else None

abbrev pub mnemonic : List ℕ → Option ℕ
mnemonic w =
    if spells (codes "a") w then Some 1
    else if spells (codes "ns") w then Some 2
    else if spells (codes "cname") w then Some 5
    else if spells (codes "soa") w then Some 6
    else if spells (codes "ptr") w then Some 12
    else if spells (codes "mx") w then Some 15
    else if spells (codes "txt") w then Some 16
    else if spells (codes "aaaa") w then Some 28
    else if spells (codes "srv") w then Some 33
    else if spells (codes "dname") w then Some 39
    else if spells (codes "ds") w then Some 43
    else if spells (codes "sshfp") w then Some 44
    else if spells (codes "rrsig") w then Some 46
    else if spells (codes "nsec") w then Some 47
    else if spells (codes "dnskey") w then Some 48
    else if spells (codes "nsec3") w then Some 50
    else if spells (codes "tlsa") w then Some 52
    else if spells (codes "svcb") w then Some 64
    else if spells (codes "https") w then Some 65
    else if spells (codes "caa") w then Some 257
    else rare_mnemonic w

-- OPT, and the types of questions and of what is no data (RFC 6895, section 3.1)
abbrev pub is_meta : ℕ → Bool
is_meta t = nat_eq t 0 || (nat_eq t 41 || (nat_le 128 t && nat_le t 255))

abbrev pub unless_meta : ℕ → Option ℕ
unless_meta t = if is_meta t then None else Some t

-- TYPE123 (RFC 3597, section 5), or a mnemonic
abbrev pub type_of : List ℕ → Option ℕ
type_of w = if spells (codes "type") (take 4 w) then (number_below 65536 (drop 4 w) >>? unless_meta) else mnemonic w

-- a class, and whether it is IN (RFC 1035, section 3.2.4; RFC 3597, section 5)
abbrev pub class_of : List ℕ → Option Bool
class_of w =
    if spells (codes "in") w || spells (codes "class1") w then Some true
    else if spells (codes "ch") w || (spells (codes "hs") w || spells (codes "class") (take 5 w)) then Some false
    else None

-- algorithms of signatures by their mnemonics (RFC 4034, appendix A.1, and the registry that goes on with it)
abbrev pub algorithm_mnemonic : List ℕ → Option ℕ
algorithm_mnemonic w =
    if spells (codes "rsamd5") w then Some 1
    else if spells (codes "dh") w then Some 2
    else if spells (codes "dsa") w then Some 3
    else if spells (codes "rsasha1") w then Some 5
    else if spells (codes "dsa-nsec3-sha1") w then Some 6
    else if spells (codes "rsasha1-nsec3-sha1") w then Some 7
    else if spells (codes "rsasha256") w then Some 8
    else if spells (codes "rsasha512") w then Some 10
    else if spells (codes "ecc-gost") w then Some 12
    else if spells (codes "ecdsap256sha256") w then Some 13
    else if spells (codes "ecdsap384sha384") w then Some 14
    else if spells (codes "ed25519") w then Some 15
    else if spells (codes "ed448") w then Some 16
    else if spells (codes "indirect") w then Some 252
    else if spells (codes "privatedns") w then Some 253
    else if spells (codes "privateoid") w then Some 254
    else None

-- a number of 8 bits, or a mnemonic
abbrev pub algorithm : List ℕ → Option ℕ
algorithm w = some_or_else (number_below 256 w) (algorithm_mnemonic w)

-- what stands in the data of a type that few zones have
abbrev pub rare_layout : ℕ → Option (List Field × Rest)
rare_layout t =
    if nat_eq t 13 then Some (CharString ∷ CharString ∷ [], Nothing)
    else if nat_eq t 35 then Some (Short ∷ Short ∷ CharString ∷ CharString ∷ CharString ∷ Host ∷ [], Nothing)
    else if nat_eq t 37 then Some (Short ∷ Short ∷ Algorithm ∷ [], Base64)
    else if nat_eq t 46 then Some (TypeCode ∷ Algorithm ∷ Octet ∷ Long ∷ Moment ∷ Moment ∷ Short ∷ Host ∷ [], Base64)
    else if nat_eq t 49 || nat_eq t 61 then Some ([], Base64)
    else if nat_eq t 47 then Some (Host ∷ [], TypeSet)
    else if nat_eq t 50 then Some (Octet ∷ Octet ∷ Short ∷ Salt ∷ Hashed ∷ [], TypeSet)
    else if nat_eq t 51 then Some (Octet ∷ Octet ∷ Short ∷ Salt ∷ [], Nothing)
    else if nat_eq t 62 then Some (Long ∷ Short ∷ [], TypeSet)
    else if nat_eq t 63 then Some (Long ∷ Octet ∷ Octet ∷ [], Hex)
    else if nat_eq t 64 || nat_eq t 65 then Some (Short ∷ Host ∷ [], Params)
    else if nat_eq t 256 then Some (Short ∷ Short ∷ [], Value)
    else None

-- NS, MD, MF, CNAME, MB, MG, MR, PTR and DNAME
abbrev pub holds_one_name : ℕ → Bool
holds_one_name t = (nat_le 2 t && nat_le t 5) || ((nat_le 7 t && nat_le t 9) || (nat_eq t 12 || nat_eq t 39))

-- What stands in the data of a type; none if it is written by RFC 3597 alone.
abbrev pub layout_of : ℕ → Option (List Field × Rest)
layout_of t =
    if nat_eq t 1 then Some (Quad ∷ [], Nothing)
    else if nat_eq t 28 then Some (LongAddress ∷ [], Nothing)
    else if holds_one_name t then Some (Host ∷ [], Nothing)
    else if nat_eq t 14 || nat_eq t 17 then Some (Host ∷ Host ∷ [], Nothing)
    else if nat_eq t 6 then Some (Host ∷ Host ∷ Long ∷ Period ∷ Period ∷ Period ∷ Period ∷ [], Nothing)
    else if nat_eq t 15 || (nat_eq t 18 || (nat_eq t 21 || nat_eq t 36)) then Some (Short ∷ Host ∷ [], Nothing)
    else if nat_eq t 33 then Some (Short ∷ Short ∷ Short ∷ Host ∷ [], Nothing)
    else if nat_eq t 16 || nat_eq t 99 then Some ([], Strings)
    else if nat_eq t 257 then Some (Octet ∷ Tag ∷ [], Value)
    else if nat_eq t 43 || nat_eq t 59 then Some (Short ∷ Algorithm ∷ Octet ∷ [], Hex)
    else if nat_eq t 44 then Some (Octet ∷ Octet ∷ [], Hex)
    else if nat_eq t 52 || nat_eq t 53 then Some (Octet ∷ Octet ∷ Octet ∷ [], Hex)
    else if nat_eq t 48 || nat_eq t 60 then Some (Short ∷ Octet ∷ Algorithm ∷ [], Base64)
    else rare_layout t

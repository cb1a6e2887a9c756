-- The text of records (RFC 1035, section 5.1; RFC 3597, section 5): one a line, with absolute names.
use Rattle.std.specs.Prelude.{ℕ, ◌+◌, ◌-◌, ◌/◌, ◌%◌, Bool, true, false, ◌&&◌, ◌||◌, not, List, [], ◌∷◌, ◌++◌, length, nat_eq, if◌then◌else◌, codes, decimal}
use Rattle.std.specs.Int.{is_in_range}
use Rattle.std.specs.List.{flat_map}
use Rattle.std.specs.Net.Addr.{segments_of}
use Rattle.std.specs.Net.Text.{ipv4_text, ipv6_text}
use Rattle.hex.specs.Hex.{encode_lower}
use Rattle.dns_name.specs.Registries.{code_text}
use Rattle.dns_name.specs.declared.registry.Registry.TheVariants.{Classes}
use Rattle.dns_message.specs.declared.rdata.RecordData.{RecordData}
use Rattle.dns_message.specs.declared.rdata.RecordData.TheVariants.{A, Aaaa, Named, Soa, Minfo, Mx, Srv, Opt, Unknown}
use Rattle.dns_message.specs.declared.record.Record.{Record}

-- letters, digits, the hyphen, the underscore and the asterisk stand for themselves
abbrev pub stands : ℕ → Bool
stands c = is_in_range 48 57 c || (is_in_range 65 90 c || (is_in_range 97 122 c || (nat_eq c 45 || (nat_eq c 95 || nat_eq c 42))))

-- another octet is \DDD
abbrev pub escaped_octet : ℕ → List ℕ
escaped_octet c = if stands c then c ∷ [] else 92 ∷ (48 + c / 100) ∷ (48 + c / 10 % 10) ∷ (48 + c % 10) ∷ []

abbrev pub escaped_label : List ℕ → List ℕ
escaped_label l = flat_map escaped_octet l

-- a dot after each label
abbrev pub escaped_labels : List (List ℕ) → List ℕ
escaped_labels [] = []
escaped_labels (l ∷ ls) = escaped_label l ++ (46 ∷ escaped_labels ls)

abbrev pub absolute_text : List (List ℕ) → List ℕ
absolute_text [] = 46 ∷ []
absolute_text (l ∷ ls) = escaped_labels (l ∷ ls)

-- a type by its number (RFC 3597, section 5)
abbrev pub numbered_type : ℕ → List ℕ
numbered_type t = codes "TYPE" ++ decimal t

-- a type whose data is one name
abbrev pub name_type : ℕ → List ℕ
name_type t =
    if nat_eq t 2 then codes "NS"
    else if nat_eq t 5 then codes "CNAME"
    else if nat_eq t 12 then codes "PTR"
    else if nat_eq t 39 then codes "DNAME"
    else numbered_type t

abbrev pub type_word : RecordData → List ℕ
type_word (A a) = codes "A"
type_word (Aaaa a) = codes "AAAA"
type_word (Named t n) = name_type t
type_word (Soa m r s f t e n) = codes "SOA"
type_word (Minfo a b) = codes "MINFO"
type_word (Mx p n) = codes "MX"
type_word (Srv p w o n) = codes "SRV"
type_word (Opt o) = numbered_type 41
type_word (Unknown t o) = if nat_eq t 16 then codes "TXT" else numbered_type t

-- ---- words

-- a word of a line, in quotes or without
pub record TextWord : Type 0 where
  pub quoted : Bool
  pub octets : List ℕ

abbrev pub bare_word : List ℕ → TextWord
bare_word o = record { quoted = false; octets = o }

abbrev pub quoted_word : List ℕ → TextWord
quoted_word o = record { quoted = true; octets = o }

abbrev pub written : TextWord → List ℕ
written w = if w.quoted then 34 ∷ (w.octets ++ 34 ∷ []) else w.octets

-- words, each after a space
abbrev pub behind_spaces : List TextWord → List ℕ
behind_spaces ws = flat_map (λ w. 32 ∷ written w) ws

-- one space between words, and LF after the last
abbrev pub words_line : TextWord → List TextWord → List ℕ
words_line w [] = written w ++ (10 ∷ [])
words_line w (v ∷ vs) = written w ++ (32 ∷ words_line v vs)

abbrev pub number_word : ℕ → TextWord
number_word n = bare_word (decimal n)

abbrev pub name_word : List (List ℕ) → TextWord
name_word n = bare_word (absolute_text n)

-- ---- data

-- hexadecimal digits, if there is an octet
abbrev pub hex_digits : List ℕ → List TextWord
hex_digits [] = []
hex_digits (o ∷ os) = bare_word (encode_lower (o ∷ os)) ∷ []

-- \# LENGTH HEX
abbrev pub octet_words : List ℕ → List TextWord
octet_words o = bare_word (codes "\\#") ∷ number_word (length o) ∷ hex_digits o

-- ---- strings (RFC 1035, section 3.3), each after its length in the data, and in quotes in the text

-- printing characters and the space stand for themselves
abbrev pub stands_in_quotes : ℕ → Bool
stands_in_quotes c = is_in_range 32 126 c && not (nat_eq c 34 || nat_eq c 92)

-- another octet is \DDD
abbrev pub quoted_octet : ℕ → List ℕ
quoted_octet c = if stands_in_quotes c then c ∷ [] else 92 ∷ (48 + c / 100) ∷ (48 + c / 10 % 10) ∷ (48 + c % 10) ∷ []

-- whether octets end strings, of which the first has that many octets left
abbrev pub end_strings : ℕ → List ℕ → Bool
end_strings left [] = nat_eq left 0
end_strings left (c ∷ cs) = end_strings (if nat_eq left 0 then c else left - 1) cs

-- an octet of a string with that many left, or the length of another, after the quote that ends the string
abbrev pub string_octet_text : ℕ → ℕ → List ℕ
string_octet_text left c = if nat_eq left 0 then 34 ∷ 32 ∷ 34 ∷ [] else quoted_octet c

-- the text of such strings from there on
abbrev pub strings_on : ℕ → List ℕ → List ℕ
strings_on left [] = 34 ∷ []
strings_on left (c ∷ cs) = string_octet_text left c ++ strings_on (if nat_eq left 0 then c else left - 1) cs

-- the words of these strings, of which the first is so far
abbrev pub string_words : ℕ → List ℕ → List ℕ → List TextWord
string_words left w [] = quoted_word w ∷ []
string_words left w (c ∷ cs) = if nat_eq left 0 then quoted_word w ∷ string_words c [] cs
    else string_words (left - 1) (w ++ quoted_octet c) cs

-- one string or more, and other octets as octets
abbrev pub text_words : List ℕ → List TextWord
text_words [] = octet_words []
text_words (n ∷ o) = if end_strings n o then string_words n [] o else octet_words (n ∷ o)

-- addresses, names, numbers and TXT's strings in their own form, and other data as octets
abbrev pub value_words : RecordData → List TextWord
value_words (A a) = bare_word (ipv4_text a) ∷ []
value_words (Aaaa a) = bare_word (ipv6_text (segments_of a)) ∷ []
value_words (Named t n) = name_word n ∷ []
value_words (Soa m r s f t e n) = name_word m ∷ name_word r ∷ number_word s.0 ∷ number_word f ∷ number_word t ∷ number_word e
    ∷ number_word n ∷ []
value_words (Minfo a b) = name_word a ∷ name_word b ∷ []
value_words (Mx p n) = number_word p ∷ name_word n ∷ []
value_words (Srv p w o n) = number_word p ∷ number_word w ∷ number_word o ∷ name_word n ∷ []
value_words (Opt o) = octet_words o
value_words (Unknown t o) = if nat_eq t 16 then text_words o else octet_words o

-- a class by its name, or CLASS and its number (RFC 3597, section 5)
unfoldable pub class_word : ℕ → List ℕ
class_word c = code_text Classes c

-- OWNER TTL CLASS TYPE DATA
abbrev pub resource_words : Record → List TextWord
resource_words r = number_word r.ttl ∷ bare_word (class_word r.class) ∷ bare_word (type_word r.rdata) ∷ value_words r.rdata

abbrev pub resource_text : Record → List ℕ
resource_text r = words_line (name_word r.owner) (resource_words r)

abbrev pub zone_text : List Record → List ℕ
zone_text rs = flat_map resource_text rs

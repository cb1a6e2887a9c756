-- A name of a zone file (RFC 1035, section 5.1): `@` is the origin, a final dot ends an absolute name, and another stands below the origin.
use Rattle.std.specs.Prelude.{ℕ, Bool, true, false, not, ◌&&◌, ◌||◌, List, [], ◌∷◌, length, nat_eq, nat_lt, if◌then◌else◌, Option, Some, None, Result, Ok, Err, codes}
use Rattle.std.specs.Int.{is_in_range}
use Rattle.std.specs.List.{list_all}
use Rattle.std.specs.Str.{bytes_eq}
use Rattle.dns_name.specs.FromText.{text_name}
use Rattle.dns_name.specs.Names.{name_under}
use Rattle.dns_name.specs.declared.from_text.FromTextError.{FromTextError}
use Rattle.dns_name.specs.declared.from_text.FromTextError.TheVariants.{EmptyLabel, LongLabel, LongName as NameTooLong, BadEscape, BadCharacter, OutOfMemory as NoMemory}
use Rattle.dns_entries.specs.Reading.{LineRead, ◌>>=◌, at_line, bare}
use Rattle.dns_entries.specs.declared.entry.Word.{Word}
use Rattle.dns_entries.specs.declared.reason.EntryReason.{EntryReason}
use Rattle.dns_entries.specs.declared.reason.EntryReason.TheVariants.{Name, LongName, Escape}

-- whether the last octet is a dot that no backslash escapes, from what stands before: an open backslash, and a dot
abbrev pub absolute_after : Bool → Bool → List ℕ → Bool
absolute_after escaped dot [] = dot
absolute_after escaped dot (c ∷ cs) = absolute_after (not escaped && nat_eq c 92) (not escaped && nat_eq c 46) cs

abbrev pub is_absolute : List ℕ → Bool
is_absolute w = absolute_after false false w

abbrev pub name_reason : FromTextError → EntryReason
name_reason NameTooLong = LongName
name_reason BadEscape = Escape
name_reason _ = Name

abbrev pub from_text : Result (List (List ℕ)) FromTextError → Result (List (List ℕ)) EntryReason
from_text (Ok n) = Ok n
from_text (Err e) = Err (name_reason e)

abbrev pub or_long : Option (List (List ℕ)) → Result (List (List ℕ)) EntryReason
or_long (Some n) = Ok n
or_long None = Err LongName

-- a name below the origin, of at most 255 octets
abbrev pub under : List (List ℕ) → List (List ℕ) → Result (List (List ℕ)) EntryReason
under origin ls = or_long (name_under origin ls)

unfoldable pub name_of : List (List ℕ) → List ℕ → Result (List (List ℕ)) EntryReason
name_of origin w =
    if bytes_eq w (codes "@") then Ok origin
    else (from_text (text_name w) >>= λ ls. if is_absolute w then Ok ls else under origin ls)

unfoldable pub name_in : List (List ℕ) → Word → LineRead (List (List ℕ))
name_in origin w = bare w >>= λ o. at_line w.line (name_of origin o)

-- ---- a name of one label, as most are

-- an octet that stands for itself in a label
abbrev pub stands_alone : ℕ → Bool
stands_alone c = is_in_range 33 126 c && not (nat_eq c 46 || nat_eq c 92)

abbrev pub is_plain_label : List ℕ → Bool
is_plain_label w = (nat_lt 0 (length w) && nat_lt (length w) 64) && list_all stands_alone w

-- The data of a record as octets: fields, each of one word, and what the words after them are.
use Rattle.std.specs.Prelude.{ℕ, Bool, true, false, ◌==◌, List, [], ◌∷◌, ◌++◌, length, nat_eq, nat_le, nat_lt, if◌then◌else◌, Option, Some, None, Result, Ok, Err, codes}
use Rattle.std.specs.Str.{bytes_eq}
use Rattle.hex.specs.Hex.{decode_of}
use Rattle.hex.specs.declared.error.FromHexError.{FromHexError}
use Rattle.base64.specs.GeneralPurpose.{decode_of as base64_of}
use Rattle.base64.specs.Engines.{standard}
use Rattle.dns_name.specs.Labels.{spell}
use Rattle.dns_name.specs.Place.{two, four}
use Rattle.dns_entries.specs.Reading.{LineRead, ◌>>=◌, bare, first_word, nothing_more, some_or, unless_at}
use Rattle.dns_word_values.specs.Base32.{base32_octets}
use Rattle.dns_word_values.specs.Moments.{moment}
use Rattle.dns_presentation.specs.ServiceParams.{params_octets}
use Rattle.dns_presentation.specs.Strings.{ok, string_in}
use Rattle.dns_word_values.specs.TypeSets.{type_set}
use Rattle.dns_presentation.specs.Names.{name_in}
use Rattle.dns_presentation.specs.Types.{algorithm, layout_of, type_of}
use Rattle.dns_word_values.specs.Values.{long_address, number_below, period, quad}
use Rattle.dns_entries.specs.declared.entry.Word.{Word}
use Rattle.dns_entries.specs.declared.reason.EntryReason.{EntryReason}
use Rattle.dns_entries.specs.declared.reason.EntryReason.TheVariants.{Address, Number, LongString, Time, Base32 as NotBase32, UnknownType, Hex as NotHex, Base64 as NotBase64, Length}
use Rattle.dns_presentation.specs.declared.types.Field.{Field}
use Rattle.dns_presentation.specs.declared.types.Field.TheVariants.{Quad, LongAddress, Host, Octet, Short, Long, Period, Tag, TypeCode, CharString, Moment, Salt, Hashed, Algorithm}
use Rattle.dns_presentation.specs.declared.types.Rest.{Rest}
use Rattle.dns_presentation.specs.declared.types.Rest.TheVariants.{Nothing, Strings, Value, Hex, Base64, TypeSet, Params}

-- a value of a word without quotes
abbrev pub of_bare : {A : Type 0} → EntryReason → (List ℕ → Option A) → Word → LineRead A
of_bare r f w = bare w >>= λ o. some_or w.line r (f o)

abbrev pub number_below_in : ℕ → Word → LineRead ℕ
number_below_in top w = of_bare Number (number_below top) w

abbrev pub period_in : Word → LineRead ℕ
period_in w = of_bare Number period w

abbrev pub algorithm_in : Word → LineRead ℕ
algorithm_in w = of_bare Number algorithm w

abbrev pub moment_in : Word → LineRead ℕ
moment_in w = of_bare Time moment w

abbrev pub type_in : Word → LineRead ℕ
type_in w = of_bare UnknownType type_of w

-- a string after its length
abbrev pub behind_length : ℕ → List ℕ → LineRead (List ℕ)
behind_length line o = if nat_lt 255 (length o) then Err (line, LongString) else Ok (length o ∷ o)

abbrev pub counted_string : Word → LineRead (List ℕ)
counted_string w = string_in w >>= behind_length w.line

-- hexadecimal digits
abbrev pub hex_octets : ℕ → List ℕ → LineRead (List ℕ)
hex_octets line o = some_or line NotHex (ok (decode_of o))

-- octets after their length, where the hyphen stands for none (RFC 5155, section 3.3)
abbrev pub salt_in : Word → LineRead (List ℕ)
salt_in w = bare w >>= λ o. if bytes_eq o (codes "-") then Ok (0 ∷ []) else (hex_octets w.line o >>= behind_length w.line)

-- digits of base32hex, as octets after their length (RFC 5155, section 3.3)
abbrev pub hashed_in : Word → LineRead (List ℕ)
hashed_in w = of_bare NotBase32 base32_octets w >>= behind_length w.line

-- the octets of a field
abbrev pub field_octets : List (List ℕ) → Field → Word → LineRead (List ℕ)
field_octets origin Quad w = of_bare Address quad w
field_octets origin LongAddress w = of_bare Address long_address w
field_octets origin Host w = name_in origin w >>= λ n. Ok (spell n)
field_octets origin Octet w = number_below_in 256 w >>= λ n. Ok (n ∷ [])
field_octets origin Short w = number_below_in 65536 w >>= λ n. Ok (two n)
field_octets origin Long w = number_below_in 4294967296 w >>= λ n. Ok (four n)
field_octets origin Period w = period_in w >>= λ n. Ok (four n)
field_octets origin Tag w = bare w >>= λ o. counted_string w
field_octets origin TypeCode w = type_in w >>= λ n. Ok (two n)
field_octets origin CharString w = counted_string w
field_octets origin Moment w = moment_in w >>= λ n. Ok (four n)
field_octets origin Salt w = salt_in w
field_octets origin Hashed w = hashed_in w
field_octets origin Algorithm w = algorithm_in w >>= λ n. Ok (n ∷ [])

abbrev pub more : List ℕ → LineRead (List ℕ) → LineRead (List ℕ)
more front read = read >>= λ o. Ok (front ++ o)

-- the octets so far and those of one field more, and the words after it
abbrev pub one_field : List (List ℕ) → ℕ → List ℕ → Field → List Word → LineRead (List ℕ × List Word)
one_field origin line octets f ws = first_word line ws >>= λ w. more octets (field_octets origin f w.0) >>= λ o. Ok (o, w.1)

-- the octets so far and those of more fields, and the words after them
abbrev pub fields_after : List (List ℕ) → ℕ → List ℕ → List Field → List Word → LineRead (List ℕ × List Word)
fields_after origin line octets [] ws = Ok (octets, ws)
fields_after origin line octets (f ∷ fs) ws = one_field origin line octets f ws >>= λ x. fields_after origin line x.0 fs x.1

abbrev pub strings_after : List ℕ → List Word → LineRead (List ℕ)
strings_after octets [] = Ok octets
strings_after octets (w ∷ ws) = more octets (counted_string w) >>= λ o. strings_after o ws

-- words without quotes, put together
abbrev pub joined_after : List ℕ → List Word → LineRead (List ℕ)
joined_after octets [] = Ok octets
joined_after octets (w ∷ ws) = more octets (bare w) >>= λ o. joined_after o ws

-- digits over any number of words, of which a fault is one of the line of the first
abbrev pub decoded : EntryReason → (List ℕ → Option (List ℕ)) → ℕ → List Word → LineRead (List ℕ)
decoded r f line ws = first_word line ws >>= λ w. joined_after [] ws >>= λ o. some_or w.0.line r (f o)

abbrev pub hex_words : ℕ → List Word → LineRead (List ℕ)
hex_words line ws = decoded NotHex (λ o. ok (decode_of o)) line ws

abbrev pub base64_words : ℕ → List Word → LineRead (List ℕ)
base64_words line ws = decoded NotBase64 (λ o. ok (base64_of standard o)) line ws

-- a type after others
abbrev pub one_type : List ℕ → Word → LineRead (List ℕ)
one_type types w = type_in w >>= λ t. Ok (types ++ t ∷ [])

-- the types that words name
abbrev pub types_after : List ℕ → List Word → LineRead (List ℕ)
types_after types [] = Ok types
types_after types (w ∷ ws) = one_type types w >>= λ ts. types_after ts ws

abbrev pub rest_octets : ℕ → Rest → List Word → LineRead (List ℕ)
rest_octets line Nothing ws = nothing_more ws >>= λ _. Ok []
rest_octets line Strings ws = first_word line ws >>= λ _. strings_after [] ws
rest_octets line Value ws = first_word line ws >>= λ w. nothing_more w.1 >>= λ _. string_in w.0
rest_octets line Hex ws = hex_words line ws
rest_octets line Base64 ws = base64_words line ws
rest_octets line TypeSet ws = types_after [] ws >>= λ ts. Ok (type_set ts)
rest_octets line Params ws = params_octets line ws

abbrev pub laid_out : List (List ℕ) → ℕ → List Field × Rest → List Word → LineRead (List ℕ)
laid_out origin line l ws = fields_after origin line [] l.0 ws >>= λ f. more f.0 (rest_octets line l.1 f.1)

-- \# LENGTH HEX (RFC 3597, section 5)
abbrev pub is_generic : List Word → Bool
is_generic [] = false
is_generic (w ∷ ws) = if w.quoted then false else bytes_eq w.octets (codes "\\#")

abbrev pub some_hex : ℕ → List Word → LineRead (List ℕ)
some_hex line [] = Ok []
some_hex line (w ∷ ws) = hex_words line (w ∷ ws)

unfoldable pub generic : ℕ → List Word → LineRead (List ℕ)
generic line ws = do
  n ← first_word line ws
  size ← number_below_in 65536 n.0
  octets ← some_hex line n.1
  _ ← unless_at n.0.line Length (nat_eq (length octets) size)
  Ok octets

-- the data of a type, whose word stands on line `at`, in an entry that ends on another
abbrev pub by_layout : List (List ℕ) → ℕ → ℕ → Option (List Field × Rest) → List Word → LineRead (List ℕ)
by_layout origin at line (Some l) ws = laid_out origin line l ws
by_layout origin at line None ws = Err (at, UnknownType)

unfoldable pub data_of : List (List ℕ) → ℕ → ℕ → ℕ → List Word → LineRead (List ℕ)
data_of origin at line t ws = if is_generic ws then (first_word line ws >>= λ w. generic line w.1)
    else by_layout origin at line (layout_of t) ws

-- Zone files that include others (RFC 1035, section 5.1): "$INCLUDE <file-name> [<domain-name>] inserts the named file into the
-- current file, and may optionally specify a domain name that sets the relative domain name origin for the included file."
use Rattle.std.specs.Prelude.{ℕ, ◌+◌, zero, suc, Bool, List, [], ◌∷◌, ◌++◌, drop, if◌then◌else◌, Option, Some, None, Ok, Err}
use Rattle.std.specs.List.{list_any}
use Rattle.std.specs.Str.{bytes_eq}
use Rattle.dns_entries.specs.Entries.{after_octet, scan_begins}
use Rattle.dns_entries.specs.Reading.{LineRead, ◌>>=◌, first_word, nothing_more}
use Rattle.dns_entries.specs.declared.entry.Word.{Word}
use Rattle.dns_entries.specs.declared.scan.Scan.{Scan}
use Rattle.dns_message.specs.declared.record.Record.{Record}
use Rattle.dns_presentation.specs.Names.{name_in}
use Rattle.dns_presentation.specs.Strings.{string_in}
use Rattle.dns_zone_file.specs.ZoneFile.{ZoneDraft, after_entry, closed, draft_begun, moved_to, place_of}
use Rattle.dns_zone_include.specs.Refusals.{TextRead, in_text, is_include}
use Rattle.dns_zone_include.specs.declared.inclusion.Inclusion.{Inclusion}
use Rattle.dns_zone_include.specs.declared.level.TheConstants.{MOST_LEVELS}
use Rattle.dns_zone_include.specs.declared.refusal.IncludeReason.TheVariants.{Entry, NoText, Loop, Depth}

-- the texts that may be included, by their names
abbrev pub Texts : Type 0
Texts = List ℕ → Option (List ℕ)

-- what an inclusion leaves of what is said so far, or where it is refused
abbrev pub Included : Type 0
Included = ZoneDraft → Inclusion → TextRead ZoneDraft

-- ---- the words after $INCLUDE

-- the origin for the included text: that of the including one if no other is named
abbrev pub origin_in : List (List ℕ) → List Word → LineRead (List (List ℕ))
origin_in origin [] = Ok origin
origin_in origin (w ∷ ws) = name_in origin w >>= λ name. nothing_more ws >>= λ _. Ok name

unfoldable pub inclusion_in : List (List ℕ) → ℕ → List Word → LineRead Inclusion
inclusion_in origin line ws = do
  w ← first_word line ws
  name ← string_in w.0
  below ← origin_in origin w.1
  Ok (record { name = name; line = w.0.line; origin = below })

-- ---- a text, which is read as a zone file except for $INCLUDE

-- an entry that is $INCLUDE
abbrev pub include_of : List ℕ → Included → ZoneDraft → ℕ → List Word → TextRead ZoneDraft
include_of name include d line ws = in_text name (inclusion_in d.origin line (drop 1 ws)) >>= λ i. include d i

abbrev pub entry_or : List ℕ → Included → ZoneDraft → ℕ → List Word → LineRead ZoneDraft → TextRead ZoneDraft
entry_or name include d line ws (Ok e) = Ok e
entry_or name include d line ws (Err e) = if is_include e.1 then include_of name include d line ws else Err (name, e.0, Entry e.1)

-- an entry, of which $INCLUDE is the one that a zone file alone refuses
unfoldable pub entry_of : List ℕ → Included → ZoneDraft → ℕ → Bool → List Word → TextRead ZoneDraft
entry_of name include d line blank ws = entry_or name include d line ws (after_entry d line blank ws)

abbrev pub by_entry : List ℕ → Included → ZoneDraft → Scan × Bool → TextRead (Scan × ZoneDraft)
by_entry name include d s =
    if s.1 then (entry_of name include d s.0.line s.0.blank s.0.words >>= λ e. Ok (scan_begins (s.0.line + 1), e)) else Ok (s.0, d)

abbrev pub octet_of : List ℕ → Included → Scan → ZoneDraft → ℕ → TextRead (Scan × ZoneDraft)
octet_of name include x d c = in_text name (after_octet x c) >>= by_entry name include d

abbrev pub octets_of : List ℕ → Included → Scan → ZoneDraft → List ℕ → TextRead (Scan × ZoneDraft)
octets_of name include x d [] = Ok (x, d)
octets_of name include x d (c ∷ cs) = octet_of name include x d c >>= λ s. octets_of name include s.0 s.1 cs

-- a text, which is read as if LF stood at its end; its lines are counted from 1, and no parenthesis goes on after it
unfoldable pub text_of : List ℕ → Included → ZoneDraft → List ℕ → TextRead ZoneDraft
text_of name include d text = do
  s ← octets_of name include (scan_begins 1) d text
  t ← octet_of name include s.0 s.1 10
  _ ← in_text name (closed t.0.opened)
  Ok t.1

-- ---- an included text

-- a text that is being read is not included
abbrev pub is_open : List (List ℕ) → List ℕ → Bool
is_open names wanted = list_any (λ o. bytes_eq o wanted) names

abbrev pub unless_open : List (List ℕ) → List ℕ → Inclusion → TextRead (Unit {0})
unless_open names name i = if is_open names i.name then Err (name, i.line, Loop) else Ok tt

abbrev pub some_text : List ℕ → Inclusion → Option (List ℕ) → TextRead (List ℕ)
some_text name i (Some text) = Ok text
some_text name i None = Err (name, i.line, NoText i.name)

-- "A $INCLUDE entry never changes the relative origin of the parent file, regardless of changes to the relative origin made
-- within the included file." The last owner comes back too, and TTLs go on.
abbrev pub place_again : ZoneDraft → ZoneDraft → ZoneDraft
place_again before behind = moved_to behind (place_of before)

-- the text that is included, where `below` says what its own inclusions leave
unfoldable pub one_text : Texts → (List (List ℕ) → List ℕ → Included) → List (List ℕ) → List ℕ → Included
one_text texts below names name d i = do
  _ ← unless_open names name i
  text ← some_text name i (texts i.name)
  e ← text_of i.name (below (names ++ i.name ∷ []) i.name) (record d { origin = i.origin }) text
  Ok (place_again d e)

-- inclusions of that many levels in the text of this name, which is one of those that are being read
unfoldable pub included : Texts → ℕ → List (List ℕ) → List ℕ → Included
included texts zero names name d i = Err (name, i.line, Depth)
included texts (suc n) names name d i = one_text texts (included texts n) names name d i

-- the records of a text and of those that it includes, each where it is included
unfoldable pub zone_including : Texts → List (List ℕ) → List ℕ → List ℕ → TextRead (List Record)
zone_including texts origin name text = text_of name (included texts MOST_LEVELS (name ∷ []) name)
    (draft_begun origin) text >>= λ d. Ok d.records

-- The records of a zone file (RFC 1035, section 5; RFC 2308, section 4).
use Rattle.std.specs.Prelude.{ℕ, ◌+◌, Bool, true, false, ◌&&◌, not, List, [], ◌∷◌, ◌++◌, drop, slice_index, length, nat_eq, nat_le, if◌then◌else◌, Option, Some, None, Result, Ok, Err, IsErr, ◌≡◌, codes}
use Rattle.std.specs.Char.{is_ascii_digit}
use Rattle.std.specs.List.{AllByRecursion}
use Rattle.std.specs.Str.{bytes_eq}
use Rattle.dns_name.specs.declared.error.ParseError.{ParseError}
use Rattle.dns_message.specs.Records.{IsLawful, data_octets}
use Rattle.dns_message.specs.Standing.{data_alone}
use Rattle.dns_message.specs.declared.rdata.RecordData.{RecordData}
use Rattle.dns_message.specs.declared.rdata.RecordData.TheVariants.{Soa}
use Rattle.dns_message.specs.declared.record.Record.{Record}
use Rattle.dns_entries.specs.Entries.{after_octet, scan_begins}
use Rattle.dns_presentation.specs.Fields.{data_of, period_in, type_in}
use Rattle.dns_presentation.specs.Names.{name_in}
use Rattle.dns_entries.specs.Reading.{LineRead, ◌>>=◌, bare, first_word, nothing_more, some_or, unless_at}
use Rattle.dns_presentation.specs.Types.{class_of, spells}
use Rattle.dns_word_values.specs.Values.{some_or_else}
use Rattle.dns_entries.specs.declared.entry.Word.{Word}
use Rattle.dns_entries.specs.declared.scan.Scan.{Scan}
use Rattle.dns_entries.specs.declared.reason.EntryReason.{EntryReason}
use Rattle.dns_zone_file.specs.declared.draft.ZonePlace.{ZonePlace}
use Rattle.dns_entries.specs.declared.reason.ReasonError.{ReasonError}
use Rattle.dns_entries.specs.declared.reason.ReasonError.TheVariants.{Refused as Because, OutOfMemory as NoMemory}
use Rattle.dns_entries.specs.declared.reason.EntryReason.TheVariants.{Parenthesis, Directive, Include, NoOwner, NoTtl, Class, Shape, Length}

-- What is said so far: the origin, the TTL of $TTL, that of the last record, the last owner, and the records.
pub record ZoneDraft : Type 0 where
  pub origin : List (List ℕ)
  pub default_ttl : Option ℕ
  pub last_ttl : Option ℕ
  pub owner : Option (List (List ℕ))
  pub records : List Record

-- each record's data has the shape of its type
abbrev pub AreShaped : List Record → Type 0
AreShaped rs = AllByRecursion (λ r. IsLawful r.rdata) rs

abbrev pub draft_begun : List (List ℕ) → ZoneDraft
draft_begun origin = record { origin = origin; default_ttl = None; last_ttl = None; owner = None; records = [] }

-- the place from which relative names and entries without an owner are read
abbrev pub place_of : ZoneDraft → ZonePlace
place_of d = record { origin = d.origin; owner = d.owner }

abbrev pub moved_to : ZoneDraft → ZonePlace → ZoneDraft
moved_to d p = record d { origin = p.origin; owner = p.owner }

-- ---- TTL and class, each of which may be missing, in either order

-- whether the first word is the class IN, if another is refused
abbrev pub class_of_word : Word → Option Bool → LineRead Bool
class_of_word w None = Ok false
class_of_word w (Some true) = Ok true
class_of_word w (Some false) = Err (w.line, Class)

abbrev pub class_at : List Word → LineRead Bool
class_at [] = Ok false
class_at (w ∷ ws) = if w.quoted then Ok false else class_of_word w (class_of w.octets)

-- a TTL begins with a digit
abbrev pub is_ttl : Word → Bool
is_ttl w = not w.quoted && is_ascii_digit (slice_index w.octets 0)

abbrev pub ttl_at : List Word → LineRead (Option ℕ × List Word)
ttl_at [] = Ok (None, [])
ttl_at (w ∷ ws) = if is_ttl w then (period_in w >>= λ n. Ok (Some n, ws)) else Ok (None, w ∷ ws)

abbrev pub without : Bool → List Word → List Word
without b ws = if b then drop 1 ws else ws

-- the class may stand after the TTL if it doesn't stand before it
abbrev pub class_behind : Bool → List Word → LineRead Bool
class_behind b ws = if b then Ok false else class_at ws

unfoldable pub head : List Word → LineRead (Option ℕ × List Word)
head ws = do
  first ← class_at ws
  ttl ← ttl_at (without first ws)
  last ← class_behind first ttl.1
  Ok (ttl.0, without last ttl.1)

-- ---- a record

-- how long a negative answer may be kept (RFC 2308, section 4)
abbrev pub soa_minimum : RecordData → Option ℕ
soa_minimum (Soa mname rname serial refresh retry expire minimum) = Some minimum
soa_minimum _ = None

-- The record's own TTL, or that of $TTL, or that of the record before it, or else a SOA record's minimum.
abbrev pub ttl_of : ZoneDraft → Option ℕ → RecordData → Option ℕ
ttl_of d own rdata = some_or_else own (some_or_else d.default_ttl (some_or_else d.last_ttl (soa_minimum rdata)))

-- data that was read, or that none was, unless memory ran out
abbrev pub GivesShaped : {A : Type 0} → Result A ReasonError → Result A ParseError → Type 0
GivesShaped (Ok x) read = read ≡ Ok x
GivesShaped (Err NoMemory) read = Unit {0}
GivesShaped (Err (Because r)) read = IsErr read

abbrev pub uncompressed_data : ℕ → List ℕ → Result RecordData ParseError → LineRead RecordData
uncompressed_data at octets (Ok d) = if bytes_eq (data_octets d) octets then Ok d else Err (at, Shape)
uncompressed_data at octets (Err e) = Err (at, Shape)

-- the data that octets are, which have the shape of its type and no compressed name
abbrev pub shaped_data : ℕ → ℕ → List ℕ → LineRead RecordData
shaped_data at t octets = uncompressed_data at octets (data_alone t octets)

-- a record of class IN
abbrev pub internet_record : List (List ℕ) → ℕ → RecordData → Record
internet_record owner ttl d = record { owner = owner; class = 1; ttl = ttl; rdata = d }

-- TTL, class, type and data
unfoldable pub entry_record : ZoneDraft → List (List ℕ) → ℕ → List Word → LineRead Record
entry_record d owner line ws = do
  h ← head ws
  w ← first_word line h.1
  t ← type_in w.0
  octets ← data_of d.origin w.0.line line t w.1
  _ ← unless_at w.0.line Length (nat_le (length octets) 65535)
  x ← shaped_data w.0.line t octets
  ttl ← some_or w.0.line NoTtl (ttl_of d h.0 x)
  Ok (internet_record owner ttl x)

abbrev pub after_record : ZoneDraft → List (List ℕ) → Record → ZoneDraft
after_record d owner r = record d { owner = Some owner; last_ttl = Some r.ttl; records = d.records ++ r ∷ [] }

-- ---- an entry

abbrev pub is_directive : Word → Bool
is_directive w = not w.quoted && nat_eq (slice_index w.octets 0) 36

-- $ORIGIN NAME, and $TTL TIME (RFC 2308, section 4)
unfoldable pub directive : ZoneDraft → ℕ → Word → List Word → LineRead ZoneDraft
directive d line w ws =
    if spells (codes "$origin") w.octets then (do
      n ← first_word line ws
      name ← name_in d.origin n.0
      _ ← nothing_more n.1
      Ok (record d { origin = name }))
    else if spells (codes "$ttl") w.octets then (do
      n ← first_word line ws
      ttl ← period_in n.0
      _ ← nothing_more n.1
      Ok (record d { default_ttl = Some ttl }))
    else if spells (codes "$include") w.octets then Err (w.line, Include)
    else Err (w.line, Directive)

abbrev pub owned : ZoneDraft → ℕ → List (List ℕ) → List Word → LineRead ZoneDraft
owned d line owner ws = entry_record d owner line ws >>= λ r. Ok (after_record d owner r)

-- An entry that begins with a blank has the last owner.
abbrev pub after_entry : ZoneDraft → ℕ → Bool → List Word → LineRead ZoneDraft
after_entry d line blank [] = Ok d
after_entry d line blank (w ∷ ws) =
    if blank then (some_or w.line NoOwner d.owner >>= λ owner. owned d line owner (w ∷ ws))
    else if is_directive w then directive d line w ws
    else (name_in d.origin w >>= λ owner. owned d line owner ws)

-- ---- a text

-- an entry that is whole is read, and the next one begins on the next line
abbrev pub by_entry : ZoneDraft → Scan × Bool → LineRead (Scan × ZoneDraft)
by_entry d s = if s.1 then (after_entry d s.0.line s.0.blank s.0.words >>= λ e. Ok (scan_begins (s.0.line + 1), e)) else Ok (s.0, d)

abbrev pub step : Scan → ZoneDraft → ℕ → LineRead (Scan × ZoneDraft)
step x d c = after_octet x c >>= by_entry d

abbrev pub steps : Scan → ZoneDraft → List ℕ → LineRead (Scan × ZoneDraft)
steps x d [] = Ok (x, d)
steps x d (c ∷ cs) = step x d c >>= λ s. steps s.0 s.1 cs

-- no parenthesis is open at the end
abbrev pub closed : Option ℕ → LineRead (Unit {0})
closed None = Ok tt
closed (Some line) = Err (line, Parenthesis)

-- the records of a text, which is read as if LF stood at its end
unfoldable pub zone_file : List (List ℕ) → List ℕ → LineRead (List Record)
zone_file origin text = do
  s ← steps (scan_begins 1) (draft_begun origin) text
  t ← step s.0 s.1 10
  _ ← closed t.0.opened
  Ok t.1.records

-- A zone file that comes in pieces.
use Rattle.std.specs.Prelude.{ℕ, List, Result, Ok, Err}
use Rattle.dns_message.specs.declared.record.Record.{Record}
use Rattle.dns_entries.specs.Entries.{scan_begins}
use Rattle.dns_entries.specs.Reading.{LineRead, ◌>>=◌}
use Rattle.dns_entries.specs.declared.scan.Scan.{Scan}
use Rattle.dns_zone_file.specs.ZoneFile.{ZoneDraft, closed, draft_begun, step, steps}

-- the entry so far, and what those before it said
pub record ZoneReading : Type 0 where
  pub scan : Scan
  pub draft : ZoneDraft

abbrev pub reading_begun : List (List ℕ) → ZoneReading
reading_begun origin = record { scan = scan_begins 1; draft = draft_begun origin }

abbrev pub reading_of : Scan × ZoneDraft → ZoneReading
reading_of s = record { scan = s.0; draft = s.1 }

-- one piece more
abbrev pub after_piece : ZoneReading → List ℕ → LineRead ZoneReading
after_piece z text = steps z.scan z.draft text >>= λ s. Ok (reading_of s)

-- what was read, and one piece more after it
abbrev pub then_piece : LineRead ZoneReading → List ℕ → LineRead ZoneReading
then_piece r text = r >>= λ z. after_piece z text

-- the records, if LF stands at the end
unfoldable pub zone_finished : ZoneReading → LineRead (List Record)
zone_finished z = do
  t ← step z.scan z.draft 10
  _ ← closed t.0.opened
  Ok t.1.records

abbrev pub finished_reading : LineRead ZoneReading → LineRead (List Record)
finished_reading r = r >>= λ z. zone_finished z

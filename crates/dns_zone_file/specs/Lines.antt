-- Words in a line of their own.
use Rattle.std.specs.Prelude.{ℕ, ◌≡◌, ◌<◌, ◌+◌, ◌⊎◌, Bool, true, false, not, ◌&&◌, ◌||◌, List, [], ◌∷◌, ◌++◌, map, nat_eq, if◌then◌else◌}
use Rattle.dns_entries.specs.Reading.{LineRead, ◌>>=◌}
use Rattle.dns_entries.specs.Entries.{scan_begins, ends_word}
use Rattle.dns_record_text.specs.RecordText.{TextWord}
use Rattle.dns_zone_file.specs.ZoneFile.{ZoneDraft, steps}
use Rattle.dns_entries.specs.declared.scan.Scan.{Scan}
use Rattle.dns_entries.specs.declared.entry.Word.{Word}

-- whether octets go on with a word to its end, after a backslash or not
abbrev pub goes_on : Bool → List ℕ → Bool
goes_on true [] = false
goes_on false [] = true
goes_on true (c ∷ cs) = not (nat_eq c 10) && goes_on false cs
goes_on false (c ∷ cs) = if nat_eq c 92 then goes_on true cs else (not (ends_word c) && goes_on false cs)

-- whether octets go on with a string in quotes to its end, after a backslash or not
abbrev pub goes_quoted : Bool → List ℕ → Bool
goes_quoted true [] = false
goes_quoted false [] = true
goes_quoted true (c ∷ cs) = not (nat_eq c 10) && goes_quoted false cs
goes_quoted false (c ∷ cs) = if nat_eq c 92 then goes_quoted true cs else (not (nat_eq c 34 || nat_eq c 10) && goes_quoted false cs)

-- a word that stands without quotes
pub record IsBare (w : TextWord) : Type 0 where
  pub bare : w.quoted ≡ false
  pub first : ℕ
  pub others : List ℕ
  pub cells : w.octets ≡ first ∷ others
  pub goes : goes_on false w.octets ≡ true

-- a string in quotes
pub record IsQuoted (w : TextWord) : Type 0 where
  pub quoted : w.quoted ≡ true
  pub goes : goes_quoted false w.octets ≡ true

abbrev pub IsWord : TextWord → Type 0
IsWord w = IsBare w ⊎ IsQuoted w

abbrev pub word_on : ℕ → TextWord → Word
word_on line w = record { line = line; quoted = w.quoted; octets = w.octets }

abbrev pub words_on : ℕ → List TextWord → List Word
words_on line ws = map (word_on line) ws

abbrev pub AreOctets : List ℕ → Type 0
AreOctets [] = Unit {0}
AreOctets (b ∷ l) = (b < 256) × AreOctets l

abbrev pub HoldOctets : List (List ℕ) → Type 0
HoldOctets [] = Unit {0}
HoldOctets (l ∷ ls) = AreOctets l × HoldOctets ls

-- the entry of a line, and what is read after it
abbrev pub read_behind : LineRead ZoneDraft → ℕ → List ℕ → LineRead (Scan × ZoneDraft)
read_behind r line t = r >>= λ e. steps (scan_begins (line + 1)) e t

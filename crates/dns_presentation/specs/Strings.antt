-- Strings of a word, and values that others read.
use Rattle.std.specs.Prelude.{ℕ, List, Option, Some, None, Result, Ok, Err}
use Rattle.dns_entries.specs.Reading.{LineRead, some_or}
use Rattle.dns_entries.specs.declared.entry.Word.{Word}
use Rattle.dns_entries.specs.declared.reason.EntryReason.TheVariants.{Escape}
use Rattle.dns_word_values.specs.Values.{string_octets}

abbrev pub ok : {A E : Type 0} → Result A E → Option A
ok (Ok x) = Some x
ok (Err e) = None

-- what a string spells, in quotes or without
abbrev pub string_in : Word → LineRead (List ℕ)
string_in w = some_or w.line Escape (string_octets w.octets)

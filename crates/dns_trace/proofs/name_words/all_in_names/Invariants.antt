use Rattle.std.proofs.Common.{◌≡◌, drop}
use Rattle.std.specs.List.{list_all}
use Rattle.dns_trace.specs.NameWords.{is_name_character}
use Rattle.dns_trace.proofs.name_words.all_in_names.Given as goal

abbrev pub invariant-loop-character : goal.invariant-loop-character
invariant-loop-character l = list_all is_name_character (drop l.character-index l.word) ≡ list_all is_name_character l.word

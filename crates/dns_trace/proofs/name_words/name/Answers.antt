use Rattle.std.proofs.Common.{◌≡◌, true, rules}
use Rattle.std.specs.List.{list_all}
use Rattle.dns_trace.specs.NameWords.{is_name_character}
use Rattle.dns_trace.proofs.NameText.{name_is_text}
use Rattle.dns_trace.proofs.name_words.name.Goals as goal

pub returns-in_default : goal.returns-in_default
returns-in_default c =
    let e : list_all is_name_character c.args.word.now ≡ true = search rules in
    absurd (c.in_default.ensures.cases.0 (name_is_text c.args.word.now e))

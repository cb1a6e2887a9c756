use Rattle.std.proofs.Common.{◌≡◌, [], drop}
use Rattle.dns_script.specs.AnswerWords.{answers_after}
use Rattle.dns_script.proofs.answer_words.answer_list.Given as goal

abbrev pub invariant-loop-i : goal.invariant-loop-i
invariant-loop-i l = answers_after l.answers.items (drop l.i l.words) ≡ answers_after [] (drop 2 l.words)

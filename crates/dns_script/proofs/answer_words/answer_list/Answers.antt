use Rattle.std.proofs.Common.{◌<◌, [], arith, drop, length}
use Rattle.std.proofs.lemmas.Result.{err_from_is_err_and}
use Rattle.dns_script.proofs.AnswersOn.{answer_on, refused_on}
use Rattle.dns_script.specs.AnswerWords.{answers_after}
use Rattle.dns_script.proofs.answer_words.answer_list.Goals as goal

pub returns-in_err-given : goal.returns-in_err-given
returns-in_err-given c =
    let p = err_from_is_err_and c.from_residual.result c.from_residual.ensures.1 in
    let lt : c.loop-i.i < length c.args.words.now = omega arith in
    rw (p.1, p.2) (refused_on c.loop-i.answers.items c.args.words.now c.loop-i.i (answers_after [] (drop 2 c.args.words.now)) c.in_err-given.field-0.0 lt c.loop-i.invariant (rw c.word.ensures at c.in_err-given.ensures))

pub loop-i-preserved : goal.loop-i-preserved
loop-i-preserved c =
    let lt : c.loop-i.i < length c.args.words.now = omega arith in
    answer_on c.loop-i.answers.items c.extend_from_slice.new.self.items c.args.words.now c.loop-i.i c.in_ok-given.given (answers_after [] (drop 2 c.args.words.now)) lt c.loop-i.invariant (rw c.word.ensures at c.in_ok-given.ensures)
    c.in_ok-extend_from_slice.ensures.items

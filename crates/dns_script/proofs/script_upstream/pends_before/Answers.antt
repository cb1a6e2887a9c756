use Rattle.std.proofs.Common.{sym, ◌∙◌, arith}
use Rattle.dns_script.proofs.Pends.{next_pend}
use Rattle.dns_script.proofs.script_upstream.pends_before.Goals as goal

pub loop-k-preserved : goal.loop-k-preserved
loop-k-preserved c = next_pend c.args.words.now c.loop-k.k c.loop-k.invariant (sym c.word_of_poll.ensures ∙ c.in-Pend.is)

pub returns : goal.returns
returns c = λ k lt. c.loop-k.invariant k (omega (arith, lt))

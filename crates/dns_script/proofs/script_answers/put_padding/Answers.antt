use Rattle.std.proofs.Common.{rules, arith}
use Rattle.dns_script.proofs.Padded.{padding_put}
use Rattle.dns_script.proofs.script_answers.put_padding.Goals as goal

pub returns : goal.returns
returns c = padding_put _ _ _ _ _ (omega (arith, c.push_limit-limited.ensures.value, c.push_limit-limited.ensures.limited)) (λ answer left h. search rules) c.opt.ensures

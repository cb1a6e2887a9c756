use Rattle.std.proofs.Common.{rules}
use Rattle.dns_replies.proofs.ErrorReplies.{code_put}
use Rattle.dns_replies.proofs.reply.put_code.Goals as goal

pub returns : goal.returns
returns c = code_put _ _ _ _ _ (λ answer left h. search rules) c.opt.ensures

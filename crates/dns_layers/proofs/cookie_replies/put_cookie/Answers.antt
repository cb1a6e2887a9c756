use Rattle.std.proofs.Common.{rules}
use Rattle.dns_layers.proofs.CookieReplies.{cookie_put}
use Rattle.dns_layers.proofs.cookie_replies.put_cookie.Goals as goal

pub returns : goal.returns
returns c = cookie_put _ _ _ _ c.args.rcode c.args.cookie c.compose_len-readable.ensures.readable (λ answer left h. search rules) c.opt.ensures

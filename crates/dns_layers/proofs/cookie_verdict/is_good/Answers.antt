use Rattle.std.proofs.Common.{rules}
use Rattle.dns_layers.proofs.CookieLaws.{good_checked}
use Rattle.dns_layers.proofs.cookie_verdict.is_good.Goals as goal

pub returns : goal.returns
returns c = good_checked _ c.args.secret.now c.args.address c.args.now.0 c.args.cookie.now _ (λ s b h. search rules) c.check_server_hash.ensures

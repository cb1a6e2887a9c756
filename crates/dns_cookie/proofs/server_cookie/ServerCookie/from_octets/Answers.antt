use Rattle.dns_cookie.proofs.Padding.{filled}
use Rattle.dns_cookie.proofs.server_cookie.ServerCookie.from_octets.Goals as goal

pub invariant_of-result : goal.invariant_of-result
invariant_of-result c = rw c.copy_from_slice.ensures.after (filled c.args.slice.now c.requires.least c.requires.most)

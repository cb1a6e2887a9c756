use Rattle.std.proofs.Common.{refl}
use Rattle.dns_session_map.proofs.clients.begin.Goals as goal

pub returns : goal.returns
returns g c = (
  refl,
  λ answers. record { spent = c.in_ok-enter.ensures.spent answers; here = c.in_ok-enter.ensures.here; others = c.in_ok-enter.ensures.others; used = c.in_ok-use_number.ensures },
)

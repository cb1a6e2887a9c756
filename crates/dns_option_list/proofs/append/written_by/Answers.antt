use Rattle.std.proofs.Common.{refl}
use Rattle.dns_option_list.proofs.append.written_by.Goals as goal

pub returns : goal.returns
returns g c = record { shown = _; empty = c.new-octets.ensures.items; left = _; met = c.in_ok-write.ensures; leaves = refl }

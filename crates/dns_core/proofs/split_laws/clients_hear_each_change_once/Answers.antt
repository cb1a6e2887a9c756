use Rattle.dns_core.proofs.Changed.{look_hears, placed_changes, placed_owns}
use Rattle.dns_core.proofs.split_laws.clients_hear_each_change_once.Goals as goal

pub returns : goal.returns
returns c = record { own = placed_owns; changes = placed_changes; looked = look_hears }

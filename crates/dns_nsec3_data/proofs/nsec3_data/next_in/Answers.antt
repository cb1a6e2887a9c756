use Rattle.std.proofs.Common.{subst}
use Rattle.std.proofs.lemmas.List.{take_rest}
use Rattle.dns_nsec_data.specs.BitMaps.{SayNone}
use Rattle.dns_nsec3_data.proofs.ParamLaws.{no_maps}
use Rattle.dns_nsec3_data.proofs.nsec3_data.next_in.Goals as goal

pub returns-in-None : goal.returns-in-None
returns-in-None c = no_maps c.args.left.now (subst SayNone (take_rest c.args.left.now 21) (rw c.in-None.is at c.in_ok-types.ensures))

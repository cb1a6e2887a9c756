use Rattle.std.proofs.Common.{◌≡◌, ℕ, List, sym, subst}
use Rattle.std.specs.Prelude.{IfErr, IfOk}
use Rattle.dns_generation.specs.Generations.{Denies, HasFault, IsWritten, IsZoneOf}
use Rattle.dns_generation.proofs.ZoneLaws.{faults, writes}
use Rattle.dns_generation.proofs.zones.zone_of.Goals as goal

pub returns-clause-ok : goal.returns-clause-ok
returns-clause-ok c = writes c.args.apex.now c.args.text.now c.in_ok-apex.apex c.in_ok-records.records.items c.made.result c.in_ok-apex.ensures c.in_ok-records.ensures.ok c.made.ensures.ok

pub returns-clause-fault : goal.returns-clause-fault
returns-clause-fault c = faults c.args.apex.now c.args.text.now c.in_ok-apex.apex c.in_ok-records.records.items c.made.result c.in_ok-apex.ensures c.in_ok-records.ensures.ok c.made.ensures.fault

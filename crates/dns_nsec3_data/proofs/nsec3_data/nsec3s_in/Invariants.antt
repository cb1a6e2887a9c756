use Rattle.std.proofs.Common.{take}
use Rattle.dns_nsec3_data.specs.Nsec3Data.{AreNsec3s, nsec3_records}
use Rattle.dns_nsec3_data.proofs.nsec3_data.nsec3s_in.Given as goal

abbrev pub invariant-each : goal.invariant-each
invariant-each l = AreNsec3s l.apex (record { salt = l.param.salt.now; iterations = l.param.iterations }) (nsec3_records (take l.index l.records)) l.nsecs.items

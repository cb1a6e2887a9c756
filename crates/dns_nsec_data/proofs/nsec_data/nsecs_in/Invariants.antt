use Rattle.std.proofs.Common.{take}
use Rattle.dns_nsec_data.specs.NsecData.{AreNsecs, nsec_records}
use Rattle.dns_nsec_data.proofs.nsec_data.nsecs_in.Given as goal

abbrev pub invariant-each : goal.invariant-each
invariant-each l = AreNsecs (nsec_records (take l.index l.records)) l.nsecs.items

use Rattle.dns_kinds.proofs.Twice.{masked_twice, address_twice, subnet_twice}
use Rattle.dns_kinds.proofs.laws.masking_twice_is_masking_once.Goals as goal

pub returns-clause-octets : goal.returns-clause-octets
returns-clause-octets c = masked_twice

pub returns-clause-address : goal.returns-clause-address
returns-clause-address c = address_twice

pub returns-clause-subnet : goal.returns-clause-subnet
returns-clause-subnet c = subnet_twice

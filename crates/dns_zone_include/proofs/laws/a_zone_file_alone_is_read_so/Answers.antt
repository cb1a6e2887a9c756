use Rattle.dns_zone_include.proofs.Same.{zone_same}
use Rattle.dns_zone_include.proofs.laws.a_zone_file_alone_is_read_so.Goals as goal

pub returns : goal.returns
returns c = λ texts origin name text rs h. zone_same texts origin name text rs h

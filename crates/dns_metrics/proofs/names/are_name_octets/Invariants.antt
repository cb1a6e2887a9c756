use Rattle.std.proofs.Common.{◌≡◌, drop}
use Rattle.std.specs.List.{list_all}
use Rattle.dns_metrics.specs.Names.{is_name_octet}
use Rattle.dns_metrics.proofs.names.are_name_octets.Given as goal

abbrev pub invariant-loop-octet : goal.invariant-loop-octet
invariant-loop-octet l = list_all (is_name_octet l.colon) (drop l.octet-index l.octets) ≡ list_all (is_name_octet l.colon) l.octets

use Rattle.dns_name.proofs.Spelt.{labels_alone, is_spelt}
use Rattle.dns_name.proofs.name.Name.of.Goals as goal

pub invariant_of-result : goal.invariant_of-result
invariant_of-result c = is_spelt c.args.labels c.in_ok-octets.octets.items c.in_ok-octets.ensures c.requires

pub returns : goal.returns
returns c = labels_alone c.args.labels c.in_ok-octets.octets.items c.in_ok-octets.ensures c.requires

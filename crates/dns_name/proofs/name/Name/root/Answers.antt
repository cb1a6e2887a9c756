use Rattle.std.proofs.Common.{[], arith}
use Rattle.dns_name.proofs.Spelt.{labels_alone, is_spelt}
use Rattle.dns_name.proofs.name.Name.root.Goals as goal

pub invariant_of-result : goal.invariant_of-result
invariant_of-result c = is_spelt [] c.in_ok-octets.octets.items c.in_ok-octets.ensures.items (record { labels = tt; room = omega arith })

pub returns : goal.returns
returns c = labels_alone [] c.in_ok-octets.octets.items c.in_ok-octets.ensures.items (record { labels = tt; room = omega arith })

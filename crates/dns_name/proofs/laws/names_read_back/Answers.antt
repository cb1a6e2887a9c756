use Rattle.dns_name.proofs.laws.names_read_back.Goals as goal

pub returns : goal.returns
returns c = c.octets_read_back.ensures c.args.name.now c.as_slice.ensures.value c.as_slice.ensures.named

use Rattle.dns_lookup.proofs.Stepped.{connected}
use Rattle.dns_lookup.proofs.lookup.Lookup.connect.Goals as goal

pub returns-clause-ok : goal.returns-clause-ok
returns-clause-ok c = λ s es was.
    connected s es c.args.self.now c.in_ok-asking.asking c.in_ok-copy.copy c.args.truncated _ c.in_ok-octets.octets c.args.at was c.in_ok-copy.ensures c.in_ok-asking.ensures c.octets.ensures c.in_ok-octets.ensures

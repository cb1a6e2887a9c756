use Rattle.std.proofs.Common.{◌∙◌, ap}
use Rattle.dns_forward.specs.Matching.{with_id}
use Rattle.dns_lookup.proofs.lookup.begin_lookup.Goals as goal

pub returns-clause-octets : goal.returns-clause-octets
returns-clause-octets c = c.in_ok-octets.ensures ∙ (c.octets.ensures _ _ c.in_ok-asking.ensures ∙ ap (with_id c.args.id) c.in_ok-copy.ensures)

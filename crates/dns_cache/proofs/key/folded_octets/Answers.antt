use Rattle.std.proofs.Common.{map, ap, ◌∙◌}
use Rattle.std.specs.Char.{to_ascii_lowercase}
use Rattle.dns_cache.proofs.KeyLaws.{spelt_lower}
use Rattle.dns_cache.proofs.key.folded_octets.Goals as goal

pub returns : goal.returns
returns c = c.lower.ensures ∙ (ap (map to_ascii_lowercase) c.in_ok-octets.ensures ∙ spelt_lower c.args.labels c.requires.labels)

use Rattle.dns_embed.proofs.Turned.{as-turned, held-as-turned}
use Rattle.dns_embed.proofs.laws.what_is_given_is_a_turn.Goals as goal

pub returns-clause-item : goal.returns-clause-item
returns-clause-item c = as-turned

pub returns-clause-held : goal.returns-clause-held
returns-clause-held c = held-as-turned

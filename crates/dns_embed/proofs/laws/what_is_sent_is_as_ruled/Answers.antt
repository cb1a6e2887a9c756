use Rattle.dns_embed.proofs.Sends.{sends-as-ruled}
use Rattle.dns_embed.proofs.laws.what_is_sent_is_as_ruled.Goals as goal

pub returns : goal.returns
returns c = sends-as-ruled

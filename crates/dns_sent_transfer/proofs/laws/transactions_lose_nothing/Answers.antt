use Rattle.dns_sent_transfer.proofs.SentLaws.{nothing_lost}
use Rattle.dns_sent_transfer.proofs.laws.transactions_lose_nothing.Goals as goal

pub returns : goal.returns
returns c = let e = c.replies_keep_their_order.ensures in nothing_lost e.sent e.waits e.order e.missing

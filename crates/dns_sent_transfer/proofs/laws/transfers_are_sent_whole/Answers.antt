use Rattle.dns_sent_transfer.proofs.SentLaws.{all_of_it, nothing_lost}
use Rattle.dns_sent_transfer.proofs.laws.transfers_are_sent_whole.Goals as goal

pub returns : goal.returns
returns c = let e = c.replies_keep_their_order.ensures in all_of_it (nothing_lost e.sent e.waits e.order e.missing)

use Rattle.dns_core.proofs.OutLemmas.{sent_front, sent_more}
use Rattle.dns_core.proofs.Nothing.{out_front}
use Rattle.dns_core.proofs.laws.more_events_send_more.Goals as goal

pub returns : goal.returns
returns c = record {
  one = sent_front;
  all = out_front;
  more = sent_more;
}

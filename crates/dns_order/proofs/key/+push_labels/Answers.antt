use Rattle.dns_order.proofs.KeyLaws.{keys_pushed}
use Rattle.dns_order.proofs.key.+push_labels.Goals as goal

pub returns : goal.returns
returns t c =
    keys_pushed c.args.octets.now.items c.push_labels.new.octets.items c.push_label.new.octets.items c.in-Some.label.now c.args.labels c.next.new.self c.in-Some.ensures.steps c.in_ok-push_labels.ensures c.in_ok-push_label.ensures

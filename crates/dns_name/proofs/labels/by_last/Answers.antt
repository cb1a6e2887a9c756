use Rattle.std.proofs.Common.{◌∙◌, ap}
use Rattle.std.specs.Ordering.{ordering_then}
use Rattle.dns_name.specs.Canonical.{name_cmp}
use Rattle.dns_name.proofs.Orders.{as_many, label_in_front}
use Rattle.dns_name.proofs.labels.by_last.Goals as goal

pub labels-preserved : goal.labels-preserved
labels-preserved c =
    let step = label_in_front c.in-Some.label.now c.in-Some-next.other.now c.next.new.self c.next-in-Some.new.self c.labels.labels c.labels.others c.labels.found c.label_order.result c.in-Some.ensures.steps c.in-Some-next.ensures.steps c.labels.invariant.as_many c.label_order.ensures in
    record {
      as_many = as_many c.in-Some.label.now c.in-Some-next.other.now c.next.new.self c.next-in-Some.new.self c.labels.labels c.labels.others c.in-Some.ensures.steps c.in-Some-next.ensures.steps c.labels.invariant.as_many;
      rest = ap (ordering_then (name_cmp c.next.new.self c.next-in-Some.new.self)) c.then-found.ensures ∙ (step ∙ c.labels.invariant.rest);
    }

use Rattle.std.proofs.Common.{◌≡◌, ◌-◌}
use Rattle.dns_name.specs.Names.{labels_of, rest_of, CanGoOn}
use Rattle.dns_name.proofs.labels.LabelsIterator.next.Given as goal

abbrev pub invariant-pieces : goal.invariant-pieces
invariant-pieces l = let i = l.self-inside in record {
  goes : CanGoOn i.message.now i.reach i.at i.size i.hops;
  same : labels_of (rest_of i.message.now i.reach i.at i.size i.hops) ≡ l.fn.self;
}

abbrev pub decreases-pieces : goal.decreases-pieces
decreases-pieces l = 255 - l.self-inside.hops

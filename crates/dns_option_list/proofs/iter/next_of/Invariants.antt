use Rattle.std.proofs.Common.{◌≡◌, length}
use Rattle.dns_message.specs.Options.{IsOptionList}
use Rattle.dns_option_list.specs.Items.{items_of}
use Rattle.dns_option_list.proofs.iter.next_of.Given as goal

abbrev pub invariant-walk : goal.invariant-walk
invariant-walk g l = record {
  list : IsOptionList l.rest;
  same : items_of g.D.ParseOptData.takes l.rest ≡ items_of g.D.ParseOptData.takes l.fn.octets;
}

abbrev pub decreases-walk : goal.decreases-walk
decreases-walk g l = length l.rest

use Rattle.std.proofs.Common.{◌≤◌, ◌-◌, length}
use Rattle.dns_name.specs.FromText.{label_octets}
use Rattle.dns_name.proofs.FromTexts.{Leads}
use Rattle.dns_name.proofs.from_text.fill_label.Given as goal

abbrev pub invariant-octets : goal.invariant-octets
invariant-octets l = record {
  has : Leads (label_octets l.fn.text) l.label.items l.rest;
  few : length l.label.items ≤ 63;
}

abbrev pub decreases-octets : goal.decreases-octets
decreases-octets l = 63 - length l.label.items

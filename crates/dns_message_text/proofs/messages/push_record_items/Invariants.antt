use Rattle.std.proofs.Common.{◌≡◌, ◌++◌, length}
use Rattle.std.specs.List.{flat_map}
use Rattle.dns_message_text.specs.MessageText.{record_item}
use Rattle.dns_message_text.proofs.messages.push_record_items.Given as goal

abbrev pub invariant-records : goal.invariant-records
invariant-records l = l.target.items ++ flat_map record_item l.records ≡ l.fn.target.items ++ flat_map record_item l.fn.records

abbrev pub decreases-records : goal.decreases-records
decreases-records l = length l.records

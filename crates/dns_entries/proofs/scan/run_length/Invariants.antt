use Rattle.std.proofs.Common.{◌≡◌, ◌+◌, drop, length}
use Rattle.dns_entries.specs.Entries.{run_in}
use Rattle.dns_entries.proofs.scan.run_length.Given as goal

abbrev pub invariant-loop-octet : goal.invariant-loop-octet
invariant-loop-octet l = record {
  place : l.count ≡ l.octet-index;
  so_far : l.count + length (run_in l.mode (drop l.octet-index l.text)) ≡ length (run_in l.mode l.text);
}

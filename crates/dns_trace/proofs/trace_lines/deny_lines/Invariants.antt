use Rattle.std.proofs.Common.{◌≡◌, ◌++◌, drop, map}
use Rattle.std.specs.Io.{StartsWith}
use Rattle.std.specs.Prelude.{flat_map}
use Rattle.dns_trace.specs.Spelling.{line_of_words}
use Rattle.dns_trace.specs.Trace.{deny_words}
use Rattle.dns_trace.proofs.trace_lines.deny_lines.Given as goal

-- the lines that are left make the whole, and the text begins with the text before
abbrev pub invariant-loop-address : goal.invariant-loop-address
invariant-loop-address l = record {
  so_far : l.text ++ flat_map line_of_words (map deny_words (drop l.address-index l.denied)) ≡ l.fn.text ++ flat_map line_of_words (map deny_words l.denied);
  begun : StartsWith l.text l.fn.text;
}

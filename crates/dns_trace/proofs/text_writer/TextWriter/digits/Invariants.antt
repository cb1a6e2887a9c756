use Rattle.std.proofs.Common.{◌≡◌, ◌++◌, drop}
use Rattle.std.specs.Io.{StartsWith}
use Rattle.hex.specs.Hex.{encode_lower}
use Rattle.dns_trace.proofs.text_writer.TextWriter.digits.Given as goal

-- what is left to be written makes the whole, and the text begins with the text before
abbrev pub invariant-loop-octet : goal.invariant-loop-octet
invariant-loop-octet l = record {
  so_far : l.self ++ encode_lower (drop l.octet-index l.octets) ≡ l.fn.self ++ encode_lower l.octets;
  begun : StartsWith l.self l.fn.self;
}

use Rattle.std.proofs.Common.{◌≡◌, ◌+◌, drop}
use Rattle.dns_presentation.specs.ServiceParams.{equals_at}
use Rattle.dns_presentation.proofs.service_params.equals_at.Given as goal

abbrev pub invariant-loop-octet : goal.invariant-loop-octet
invariant-loop-octet l = record {
  place : l.at ≡ l.octet-index;
  so_far : l.at + equals_at (drop l.octet-index l.word) ≡ equals_at l.word;
}

use Rattle.std.proofs.Common.{◌≡◌, ◌+◌, drop}
use Rattle.dns_presentation.specs.ServiceParams.{key_place}
use Rattle.dns_presentation.proofs.param_values.key_place.Given as goal

abbrev pub invariant-loop-other : goal.invariant-loop-other
invariant-loop-other l = record {
  place : l.at ≡ l.other-index;
  so_far : l.at + key_place l.key (drop l.other-index l.keys) ≡ key_place l.key l.keys;
}

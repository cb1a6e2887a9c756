use Rattle.std.proofs.Common.{◌≡◌, ◌<◌, ◌^◌, drop}
use Rattle.dns_name.specs.Registries.{with_digits}
use Rattle.dns_name.proofs.registry.number_of_digits.Given as goal

-- the digits that are left go on with the number so far
abbrev pub invariant-loop-digit : goal.invariant-loop-digit
invariant-loop-digit l = record {
  so_far : with_digits l.value (drop l.digit-index l.text) ≡ with_digits 0 l.text;
  bound : l.value < 10 ^ l.digit-index;
}

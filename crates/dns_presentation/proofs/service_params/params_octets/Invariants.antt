use Rattle.std.proofs.Common.{◌≡◌, ◌++◌, drop}
use Rattle.std.specs.List.{flat_map}
use Rattle.dns_presentation.proofs.service_params.params_octets.Given as goal

abbrev pub invariant-loop-param : goal.invariant-loop-param
invariant-loop-param l = l.octets.items ++ flat_map (λ x. x.octets) (drop l.param-index l.param-items) ≡ flat_map (λ x. x.octets) l.param-items

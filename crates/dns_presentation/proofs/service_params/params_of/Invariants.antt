use Rattle.std.proofs.Common.{◌≡◌, drop}
use Rattle.dns_presentation.specs.ServiceParams.{no_params, params_after}
use Rattle.dns_presentation.proofs.service_params.params_of.Given as goal

abbrev pub invariant-loop-word : goal.invariant-loop-word
invariant-loop-word l = params_after l.params (drop l.word-index l.words) ≡ params_after no_params l.words

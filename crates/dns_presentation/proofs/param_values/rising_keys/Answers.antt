use Rattle.std.proofs.Common.{◌≡◌, ◌+◌, ◌*◌, Some, arith, rules, slice_index_or, ◌∙◌}
use Rattle.dns_presentation.specs.ServiceParams.{with_key}
use Rattle.dns_presentation.proofs.Keys.{key_goes}
use Rattle.dns_presentation.proofs.param_values.rising_keys.Goals as goal

pub keys-preserved : goal.keys-preserved
keys-preserved c =
    let added : Some c.add_key.new.keys.items ≡ with_key c.keys.keys.items (256 * slice_index_or c.keys.rest.now 0 0 + slice_index_or c.keys.rest.now 1 0) = search rules in
    key_goes c.keys.keys.items c.add_key.new.keys.items c.keys.rest.now c.in-len2-up.len_at_least added ∙ c.keys.invariant

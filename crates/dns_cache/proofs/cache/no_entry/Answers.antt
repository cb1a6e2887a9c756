use Rattle.std.proofs.Common.{◌∙◌}
use Rattle.std.specs.NonZero.{non_zero_usize_get}
use Rattle.dns_cache.proofs.EntryLaws.{none_kept}
use Rattle.dns_cache.proofs.cache.no_entry.Goals as goal

pub returns : goal.returns
returns c = c.resize.ensures ∙ none_kept _ (non_zero_usize_get c.args.capacity) _ c.in_ok-entries.ensures

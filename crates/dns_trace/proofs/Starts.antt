-- Texts that begin with a text that was there before.
use Rattle.std.proofs.Common.{◌≡◌, ◌∙◌, ℕ, List, ◌++◌}
use Rattle.std.proofs.Transfers.{starts_with_of_append, starts_with_of_eq, starts_with_trans}
use Rattle.std.specs.Io.{StartsWith}

-- nothing was written
pub starts_same : (old new : List ℕ) → new ≡ old → StartsWith new old
starts_same old new e = starts_with_of_eq new old e

-- nothing was written after what was written
pub starts_more : (old more mid new : List ℕ) → mid ≡ old ++ more → new ≡ mid → StartsWith new old
starts_more old more mid new e s = starts_with_of_append new old more (s ∙ e)

-- something was written after what was written
pub starts_behind : (old more mid new : List ℕ) → mid ≡ old ++ more → StartsWith new mid → StartsWith new old
starts_behind old more mid new e h = starts_with_trans new mid old h (starts_with_of_append mid old more e)

-- how a text begins after a call that had no memory
pub ruleset starts = (starts_same, starts_more, starts_behind)

-- more was written
pub starts_on : (old more mid new : List ℕ) → StartsWith mid old → new ≡ mid ++ more → StartsWith new old
starts_on old more mid new h e = starts_with_trans new mid old (starts_with_of_append new mid more e) h

-- nothing more was written
pub starts_kept : (old mid new : List ℕ) → StartsWith mid old → new ≡ mid → StartsWith new old
starts_kept old mid new h e = starts_with_trans new mid old (starts_with_of_eq new mid e) h

-- more may have been written
pub starts_later : (old mid new : List ℕ) → StartsWith mid old → StartsWith new mid → StartsWith new old
starts_later old mid new h later = starts_with_trans new mid old later h

-- The name of a line is a word.
use Rattle.std.proofs.Common.{◌≡◌, ℕ, ◌<◌, true, List, length}
use Rattle.std.specs.Int.{is_in_range}
use Rattle.std.specs.List.{list_all}
use Rattle.dns_trace.proofs.Joined.{IsWord}

-- by a test that computes
pub named : (w : List ℕ) → list_all (is_in_range 33 126) w ≡ true → 0 < length w → IsWord w
named w e some = record { some = some; visible = record { within = e } }

-- What is composed is read again.
use Rattle.std.proofs.Common.{◌≡◌, ℕ, ◌≤◌, List, length, true, refl, arith, ◌%◌}
use Rattle.std.proofs.lemmas.Bool.Decides.{nat_tests}
use Rattle.std.specs.Prelude.{nat_eq, Some, Ok}
use Rattle.dns_name.specs.OptData.{kind, for_code}
use Rattle.dns_name.proofs.OptionRoundTrip.{not_above, not_below}
use Rattle.dns_lists.specs.Tags.{AreTags, tag_data}
use Rattle.dns_lists.specs.Unknowns.{Unknown, unknown_taken}

nothing_left : (n : ℕ) → n ≡ 0 → nat_eq n 0 ≡ true
nothing_left n h = grind (arith, nat_tests)

-- tags come back
pub tags_again : (k : List ℕ) → AreTags k → kind (for_code 14 tag_data) 14 k ≡ Some (Ok k)
tags_again k h = rw (not_above 65535 (length k) h.0, nothing_left (length k % 2) h.1, not_below (length k)) refl

-- data of any code comes back
pub unknown_again : (k : Unknown) → length k.octets ≤ 65535 → kind unknown_taken k.code k.octets ≡ Some (Ok k)
unknown_again k h = rw (not_above 65535 (length k.octets) h, not_below (length k.octets)) refl

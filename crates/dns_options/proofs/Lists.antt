-- An option list with one option more.
use Rattle.std.proofs.Common.{◌≡◌, ◌≤◌, ◌+◌, ℕ, List, ◌++◌, length, ap, arith, length-append}
use Rattle.dns_message.specs.Options.{IsOptionList, option_octets}
use Rattle.dns_message.proofs.OptionLaws.{list_append}

-- what follows a list within 65,535 octets makes a list again
pub longer_list : (o : List ℕ) (c : ℕ) (d new : List ℕ) → new ≡ o ++ option_octets c d → IsOptionList o → length o + 4 + length d ≤ 65535 → (length new ≤ 65535) × IsOptionList new
longer_list o c d new e h n = (omega (arith, ap length e, length-append o (option_octets c d)), rw e (list_append o c d h))

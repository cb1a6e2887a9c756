-- The names that words spell: the root's is a dot, and else each label is of letters, digits, hyphens and underscores and has a
-- dot after it (RFC 1035, section 2.3.1; RFC 2782 for the underscore).
use Rattle.std.specs.Prelude.{ℕ, nat_eq, ◌||◌, ◌&&◌, Bool, List, length, slice_index, ◌-◌, Result, Ok, Err, if◌then◌else◌}
use Rattle.std.specs.Int.{is_in_range}
use Rattle.std.specs.List.{list_all}
use Rattle.dns_name.specs.FromText.{text_name}
use Rattle.dns_name.specs.declared.from_text.FromTextError.{FromTextError}
use Rattle.dns_trace.specs.declared.reason.Reason.{Reason}
use Rattle.dns_trace.specs.declared.reason.Reason.TheVariants.{Value}

-- a letter, a digit, `-`, `_` or the dot
abbrev pub is_name_character : ℕ → Bool
is_name_character c = is_in_range 48 57 c
    || (is_in_range 65 90 c || (is_in_range 97 122 c || (nat_eq c 45 || (nat_eq c 95 || nat_eq c 46))))

abbrev pub ends_in_dot : List ℕ → Bool
ends_in_dot w = nat_eq (slice_index w (length w - 1)) 46

abbrev pub from_name : {A : Type 0} → Result A FromTextError → Result A Reason
from_name (Ok n) = Ok n
from_name (Err e) = Err Value

unfoldable pub name_word : List ℕ → Result (List (List ℕ)) Reason
name_word w = if ends_in_dot w && list_all is_name_character w then from_name (text_name w) else Err Value

-- A word whose characters may stand in a name is text.
use Rattle.std.proofs.Common.{◌≡◌, ℕ, zero, suc, ◌<◌, List, [], ◌∷◌, true, arith}
use Rattle.std.proofs.lemmas.Bool.Decides.{nat_tests}
use Rattle.std.proofs.lemmas.Str.{IsUtf8-from_ascii}
use Rattle.std.specs.List.{list_all}
use Rattle.std.specs.Prelude.{IsAscii, IsUtf8}
use Rattle.dns_trace.specs.NameWords.{is_name_character}

below : (c : ℕ) → is_name_character c ≡ true → c < 128
below c h = grind (arith, nat_tests)

ascii : (w : List ℕ) → list_all is_name_character w ≡ true → IsAscii w
ascii [] h i = omega arith
ascii (c ∷ w) h zero = let e : is_name_character c ≡ true = grind arith in below c e
ascii (c ∷ w) h (suc i) = let e : list_all is_name_character w ≡ true = grind arith in ascii w e i

pub name_is_text : (w : List ℕ) → list_all is_name_character w ≡ true → IsUtf8 w
name_is_text w h = IsUtf8-from_ascii w (ascii w h)

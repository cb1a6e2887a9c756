-- Octets that are written as hexadecimal digits read back.
use Rattle.std.proofs.Common.{◌≡◌, ℕ, ◌<◌, true, false, List, [], ◌∷◌, length, refl, ap, arith}
use Rattle.std.specs.Prelude.{Ok, codes}
use Rattle.std.specs.Int.{is_in_range}
use Rattle.std.specs.Str.{bytes_eq}
use Rattle.std.proofs.lemmas.Bool.{false_from_ne_true}
use Rattle.std.proofs.lemmas.Bool.Decides.{nat_tests}
use Rattle.std.proofs.lemmas.List.Elements.{All-weaker}
use Rattle.std.proofs.lemmas.List.Sums.{list_all-from_AllPass}
use Rattle.std.proofs.lemmas.Slice.Eq.{bytes_eq-Decides}
use Rattle.hex.specs.Hex.{IsBytes, decode_sized, encode_lower, is_hex_digit, lower_digits}
use Rattle.hex.proofs.HexLemmas.{IsDigits-lower_digits, decode_of-encode_lower, decode_of-ok, decode_pairs-encode_with, length-encode_with}
use Rattle.dns_trace.proofs.Joined.{IsWord}
use Rattle.dns_trace.proofs.Ranges.{AreFrom}
use Rattle.dns_trace.specs.Spelling.{octets_word}
use Rattle.dns_trace.specs.Values.{hex_octets_of, secret_of}

digit_visible : (c : ℕ) → is_hex_digit c ≡ true → is_in_range 33 126 c ≡ true
digit_visible c h = grind (arith, nat_tests)

pub hex_visible : (o : List ℕ) → IsBytes o → AreFrom 33 126 (encode_lower o)
hex_visible o bytes = record {
  within =
      list_all-from_AllPass (is_in_range 33 126) (encode_lower o)
      (All-weaker (λ c. is_hex_digit c ≡ true) (λ c. is_in_range 33 126 c ≡ true) digit_visible (encode_lower o) (decode_of-ok (encode_lower o) o (decode_of-encode_lower o bytes)).1);
}

pub hex_word : (o : List ℕ) → 0 < length o → IsBytes o → IsWord (encode_lower o)
hex_word o some bytes = record {
  some = let len = length-encode_with lower_digits o in omega arith;
  visible = hex_visible o bytes;
}

pub sized_back : (o : List ℕ) → length o ≡ 16 → IsBytes o → decode_sized (encode_lower o) 16 ≡ Ok o
sized_back o size bytes =
    let len : length (encode_lower o) ≡ 32 = let e = length-encode_with lower_digits o in omega arith in
    rw (len) (decode_pairs-encode_with lower_digits IsDigits-lower_digits 0 o bytes)

pub secret_back : (o : List ℕ) → length o ≡ 16 → IsBytes o → secret_of (encode_lower o) ≡ Ok o
unfolding secret_of
secret_back o size bytes = rw (sized_back o size bytes) refl

-- digits aren't spelled `-`
not_dash : (o : List ℕ) → bytes_eq (encode_lower o) (codes "-") ≡ false
not_dash o =
    false_from_ne_true (bytes_eq (encode_lower o) (codes "-"))
    (λ same.
    let e : encode_lower o ≡ codes "-" = (bytes_eq-Decides (encode_lower o) (codes "-")).0 same in
    let one : length (encode_lower o) ≡ 1 = ap length e in
    let len = length-encode_with lower_digits o in
    omega arith)

pub octets_back : (o : List ℕ) → IsBytes o → hex_octets_of (octets_word o) ≡ Ok o
unfolding hex_octets_of
octets_back [] bytes = refl
octets_back (b ∷ o) bytes = rw (not_dash (b ∷ o), decode_of-encode_lower (b ∷ o) bytes) refl

pub octets_are_word : (o : List ℕ) → IsBytes o → IsWord (octets_word o)
octets_are_word [] bytes = record { some = omega arith; visible = record { within = refl } }
octets_are_word (b ∷ o) bytes = hex_word (b ∷ o) (omega arith) bytes

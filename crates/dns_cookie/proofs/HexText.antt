-- The upper-case hexadecimal text of octets, one octet at a time.
use Rattle.std.proofs.Common.{◌≡◌, ℕ, zero, suc, ◌+◌, ◌-◌, ◌/◌, ◌%◌, ◌^◌, ◌<◌, true, false, List, [], ◌∷◌, ◌++◌, length, take, refl, arith, ap, sym, ◌∙◌}
use Rattle.std.specs.Prelude.{slice_index}
use Rattle.std.specs.Fmt.{digits, digit_glyph, padded_integral, format_spec}
use Rattle.std.proofs.lemmas.Fmt.{hex_byte}
use Rattle.std.proofs.lemmas.List.{take_more}
use Rattle.hex.specs.Hex.{encode_with, encode_upper, upper_digits}

digit : (d : ℕ) → d < 16 → digit_glyph true d ≡ slice_index upper_digits d
digit zero h = refl
digit (suc zero) h = refl
digit (suc (suc zero)) h = refl
digit (suc (suc (suc zero))) h = refl
digit (suc (suc (suc (suc zero)))) h = refl
digit (suc (suc (suc (suc (suc zero))))) h = refl
digit (suc (suc (suc (suc (suc (suc zero)))))) h = refl
digit (suc (suc (suc (suc (suc (suc (suc zero))))))) h = refl
digit (suc (suc (suc (suc (suc (suc (suc (suc zero)))))))) h = refl
digit (suc (suc (suc (suc (suc (suc (suc (suc (suc zero))))))))) h = refl
digit (suc (suc (suc (suc (suc (suc (suc (suc (suc (suc zero)))))))))) h = refl
digit (suc (suc (suc (suc (suc (suc (suc (suc (suc (suc (suc zero))))))))))) h = refl
digit (suc (suc (suc (suc (suc (suc (suc (suc (suc (suc (suc (suc zero)))))))))))) h = refl
digit (suc (suc (suc (suc (suc (suc (suc (suc (suc (suc (suc (suc (suc zero))))))))))))) h = refl
digit (suc (suc (suc (suc (suc (suc (suc (suc (suc (suc (suc (suc (suc (suc zero)))))))))))))) h = refl
digit (suc (suc (suc (suc (suc (suc (suc (suc (suc (suc (suc (suc (suc (suc (suc zero))))))))))))))) h = refl
digit (suc (suc (suc (suc (suc (suc (suc (suc (suc (suc (suc (suc (suc (suc (suc (suc d)))))))))))))))) h = absurd (omega arith)

-- an octet is written as two digits
pub octet_text : (n : ℕ) → n < 256 → padded_integral (format_spec 32 0 4 2 (2 ^ 64 - 1)) false [] (digits 16 true n) ≡ encode_upper (n ∷ [])
unfolding encode_with
octet_text n h =
    hex_byte true n h
    ∙ ap (λ d. d ∷ digit_glyph true (n % 16) ∷ []) (digit (n / 16) (omega arith))
    ∙ ap (λ d. slice_index upper_digits (n / 16) ∷ d ∷ []) (digit (n % 16) (omega arith))

-- and octets one after another
pub encode_upper-append : (xs ys : List ℕ) → encode_upper (xs ++ ys) ≡ encode_upper xs ++ encode_upper ys
unfolding encode_with
encode_upper-append [] ys = refl
encode_upper-append (x ∷ xs) ys = ap (λ t. slice_index upper_digits (x / 16) ∷ slice_index upper_digits (x % 16) ∷ t) (encode_upper-append xs ys)

-- the text as far as one octet more
pub text_more : (xs : List ℕ) (i : ℕ) → i < length xs → encode_upper (take i xs) ++ encode_upper (slice_index xs i ∷ []) ≡ encode_upper (take (i + 1) xs)
text_more xs i h = sym (encode_upper-append (take i xs) (slice_index xs i ∷ [])) ∙ ap encode_upper (sym (take_more xs i 0 h))

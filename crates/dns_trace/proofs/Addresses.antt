-- An address that is written reads back.
use Rattle.std.proofs.Common.{◌≡◌, ℕ, ◌<◌, ◌≤◌, ◌==◌, false, List, [], ◌∷◌, length, length-append, refl, arith}
use Rattle.std.specs.Prelude.{Ok, decimal}
use Rattle.std.specs.List.{join_with_byte, slice_split}
use Rattle.std.proofs.lemmas.Bool.{ne_eqb}
use Rattle.std.proofs.lemmas.Fmt.{length-decimal-le}
use Rattle.hex.specs.Hex.{IsBytes, encode_lower, lower_digits}
use Rattle.hex.proofs.HexLemmas.{IsDigits-lower_digits, decode_pairs-encode_with, length-encode_with}
use Rattle.dns_name.specs.declared.address.IpAddr.{IpAddr}
use Rattle.dns_name.specs.declared.address.IpAddr.TheVariants.{V4, V6}
use Rattle.dns_trace.proofs.Decimals.{decimal_digits, decimal_word, part_back}
use Rattle.dns_trace.proofs.Hexes.{hex_word}
use Rattle.dns_trace.proofs.Joined.{AllLack, IsWord, cut_joined}
use Rattle.dns_trace.proofs.Ranges.{AreFrom, from_append, from_cons, lacks}
use Rattle.dns_trace.specs.InRange.{IsAddress, IsOctets}
use Rattle.dns_trace.specs.Spelling.{address_word}
use Rattle.dns_trace.specs.Values.{addr_of, quad_of, quad_word}

-- the decimals of four octets, joined by dots
abbrev dotted : ℕ → ℕ → ℕ → ℕ → List ℕ
dotted a b c d = join_with_byte 46 (decimal a ∷ decimal b ∷ decimal c ∷ decimal d ∷ [])

part_lacks : (n : ℕ) → n < 256 → AllLack 46 (decimal n ∷ [])
part_lacks n small = (lacks 48 57 46 (decimal n) (omega arith) (decimal_digits n (omega arith)), tt)

dotted_parts : (a b c d : ℕ) → a < 256 → b < 256 → c < 256 → d < 256
    → slice_split (λ x. x == 46) (dotted a b c d) ≡ decimal a ∷ decimal b ∷ decimal c ∷ decimal d ∷ []
dotted_parts a b c d ha hb hc hd =
    cut_joined 46 (decimal a) (decimal b ∷ decimal c ∷ decimal d ∷ [])
    ((part_lacks a ha).0, ((part_lacks b hb).0, ((part_lacks c hc).0, ((part_lacks d hd).0, tt))))

quad_back : (a b c d : ℕ) → a < 256 → b < 256 → c < 256 → d < 256 → quad_word (dotted a b c d) ≡ Ok (V4 (a ∷ b ∷ c ∷ d ∷ []))
unfolding quad_of
quad_back a b c d ha hb hc hd =
    rw (dotted_parts a b c d ha hb hc hd, part_back a ha, part_back b hb, part_back c hc, part_back d hd) refl

short_part : (n : ℕ) → n < 256 → length (decimal n) ≤ 3
short_part n small = length-decimal-le 3 n (omega arith) (omega arith) (omega arith)

-- a dotted quad is shorter than 32 characters
short_quad : (a b c d : ℕ) → a < 256 → b < 256 → c < 256 → d < 256 → length (dotted a b c d) < 32
short_quad a b c d ha hb hc hd =
    let la = short_part a ha in
    let lb = short_part b hb in
    let lc = short_part c hc in
    let ld = short_part d hd in
    simp length-append (omega arith)

quad_addr : (a b c d : ℕ) → a < 256 → b < 256 → c < 256 → d < 256 → addr_of (dotted a b c d) ≡ Ok (V4 (a ∷ b ∷ c ∷ d ∷ []))
unfolding addr_of
quad_addr a b c d ha hb hc hd =
    let l = short_quad a b c d ha hb hc hd in
    let e : (length (dotted a b c d) == 32) ≡ false = ne_eqb (length (dotted a b c d)) 32 (λ s. omega arith) in
    rw e (quad_back a b c d ha hb hc hd)

dotted_from : (a b c d : ℕ) → a < 256 → b < 256 → c < 256 → d < 256 → AreFrom 33 126 (dotted a b c d)
dotted_from a b c d ha hb hc hd =
    let va = (decimal_word a (omega arith)).visible in
    let vb = (decimal_word b (omega arith)).visible in
    let vc = (decimal_word c (omega arith)).visible in
    let vd = (decimal_word d (omega arith)).visible in
    from_append 33 126 (decimal a) _ va
    (from_cons 33 126 46 _ refl
    (from_append 33 126 (decimal b) _ vb
    (from_cons 33 126 46 _ refl
    (from_append 33 126 (decimal c) _ vc
    (from_cons 33 126 46 _ refl vd)))))

quad_is_word : (a b c d : ℕ) → a < 256 → b < 256 → c < 256 → d < 256 → IsWord (dotted a b c d)
quad_is_word a b c d ha hb hc hd = record {
  some = let first = (decimal_word a (omega arith)).some in simp length-append (omega arith);
  visible = dotted_from a b c d ha hb hc hd;
}

six_back : (o : List ℕ) → length o ≡ 16 → IsBytes o → addr_of (encode_lower o) ≡ Ok (V6 o)
unfolding addr_of
six_back o size bytes =
    let len : length (encode_lower o) ≡ 32 = let e = length-encode_with lower_digits o in omega arith in
    rw (len, decode_pairs-encode_with lower_digits IsDigits-lower_digits 0 o bytes) refl

-- four octets, each by itself
four : (P : List ℕ → Type 0) → ((a b c d : ℕ) → a < 256 → b < 256 → c < 256 → d < 256 → P (a ∷ b ∷ c ∷ d ∷ [])) → (o : List ℕ) → IsOctets 4 o → P o
four P each [] h = absurd (omega (arith, h.0))
four P each (a ∷ []) h = absurd (omega (arith, h.0))
four P each (a ∷ b ∷ []) h = absurd (omega (arith, h.0))
four P each (a ∷ b ∷ c ∷ []) h = absurd (omega (arith, h.0))
four P each (a ∷ b ∷ c ∷ d ∷ []) h = each a b c d (h.1 0) (h.1 1) (h.1 2) (h.1 3)
four P each (a ∷ b ∷ c ∷ d ∷ e ∷ o) h = absurd (omega (arith, h.0))

pub addr_back : (a : IpAddr) → IsAddress a → addr_of (address_word a) ≡ Ok a
addr_back (V4 o) h = four (λ (o : List ℕ). addr_of (address_word (V4 o)) ≡ Ok (V4 o)) quad_addr o h
addr_back (V6 o) h = six_back o h.0 h.1

pub address_is_word : (a : IpAddr) → IsAddress a → IsWord (address_word a)
address_is_word (V4 o) h = four (λ (o : List ℕ). IsWord (address_word (V4 o))) quad_is_word o h
address_is_word (V6 o) h = hex_word o (omega (arith, h.0)) h.1

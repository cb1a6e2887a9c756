-- A number that is written in decimal reads back.
use Rattle.std.proofs.Common.{◌≡◌, ℕ, ◌+◌, ◌-◌, ◌*◌, ◌^◌, ◌<◌, true, false, List, [], ◌∷◌, length, Some, None, Option, refl, ap, ◌∙◌, arith, rules}
use Rattle.std.specs.Prelude.{IfSome, Ok, codes, decimal, nat_le, nat_lt}
use Rattle.std.specs.Int.{is_in_range}
use Rattle.std.specs.List.{list_all}
use Rattle.std.specs.Str.{bytes_eq}
use Rattle.std.proofs.lemmas.Bool.{and_from, and_parts, false_from_ne_true, le-leb, lt-ltb}
use Rattle.std.proofs.lemmas.Fmt.{decimal_nonempty, digits_decimal, digits_value-decimal, length-decimal-le}
use Rattle.std.proofs.lemmas.Slice.Eq.{bytes_eq-Decides}
use Rattle.std.proofs.lemmas.Str.Parse.{IsNumeralModel, numerals_by_fold}
use Rattle.dns_trace.proofs.Joined.{IsWord}
use Rattle.dns_trace.proofs.Ranges.{AreFrom, wider}
use Rattle.dns_trace.specs.Spelling.{number_or_none}
use Rattle.dns_trace.specs.Values.{digits_after, num_of, number, port_of, size_or_none}
use Rattle.dns_trace.specs.BudgetLine.{num_or_none}

abbrev read_on : ℕ → List ℕ → ℕ
read_on n [] = n
read_on n (c ∷ cs) = read_on (10 * n + (c - 48)) cs

abbrev AreDigits : List ℕ → Type 0
AreDigits ds = list_all (is_in_range 48 57) ds ≡ true

own : IsNumeralModel AreDigits (read_on 0)
own = numerals_by_fold AreDigits (search rules) read_on (search rules)

-- digits are read on
digits_read : (n : ℕ) (ds : List ℕ) → AreDigits ds → digits_after n ds ≡ Ok (read_on n ds)
digits_read n [] h = refl
digits_read n (c ∷ cs) h =
    let parts = and_parts (is_in_range 48 57 c) (list_all (is_in_range 48 57) cs) h in
    rw parts.0 (digits_read (10 * n + (c - 48)) cs parts.1)

digits_back : (n : ℕ) → n < 2 ^ 64 → digits_after 0 (decimal n) ≡ Ok n
digits_back n small = digits_read 0 (decimal n) (digits_decimal own n small) ∙ ap (λ (v : ℕ). Ok v) (digits_value-decimal own n small)

pub number_back : (most top n : ℕ) → 0 < most → n < 10 ^ most → n < top → n < 2 ^ 64 → number most top (decimal n) ≡ Ok n
unfolding number
number_back most top n some short below small =
    let first : nat_lt 0 (length (decimal n)) ≡ true = lt-ltb 0 (length (decimal n)) (decimal_nonempty n small) in
    let second : nat_le (length (decimal n)) most ≡ true = le-leb (length (decimal n)) most (length-decimal-le most n some short small) in
    let last : nat_lt n top ≡ true = lt-ltb n top below in
    rw (and_from _ _ first second, digits_back n small, last) refl

pub num_back : (n : ℕ) → n < 2 ^ 64 → num_of (decimal n) ≡ Ok n
num_back n small = number_back 20 18446744073709551616 n (omega arith) (omega arith) (omega arith) small

pub port_back : (n : ℕ) → n < 2 ^ 16 → port_of (decimal n) ≡ Ok n
port_back n small = number_back 20 65536 n (omega arith) (omega arith) (omega arith) (omega arith)

pub part_back : (n : ℕ) → n < 256 → number 3 256 (decimal n) ≡ Ok n
part_back n small = number_back 3 256 n (omega arith) (omega arith) small (omega arith)

pub decimal_digits : (n : ℕ) → n < 2 ^ 64 → AreFrom 48 57 (decimal n)
decimal_digits n small = record { within = digits_decimal own n small }

pub decimal_word : (n : ℕ) → n < 2 ^ 64 → IsWord (decimal n)
decimal_word n small = record {
  some = decimal_nonempty n small;
  visible = wider 48 57 33 126 (decimal n) (omega arith) (omega arith) (decimal_digits n small);
}

-- a number isn't spelled `none`, which has no digits
not_none : (n : ℕ) → n < 2 ^ 64 → bytes_eq (decimal n) (codes "none") ≡ false
not_none n small =
    false_from_ne_true (bytes_eq (decimal n) (codes "none"))
    (λ same.
    let e : decimal n ≡ codes "none" = (bytes_eq-Decides (decimal n) (codes "none")).0 same in
    let digits : list_all (is_in_range 48 57) (codes "none") ≡ true = rw e at (digits_decimal own n small) in
    cc digits)

pub size_back : (o : Option ℕ) → IfSome o (λ n. n < 65536) → size_or_none (number_or_none o) ≡ Ok o
unfolding size_or_none
size_back None h = refl
size_back (Some n) h =
    rw (not_none n (omega arith), number_back 20 65536 n (omega arith) (omega arith) h (omega arith)) refl

pub count_back : (o : Option ℕ) → IfSome o (λ n. n < 2 ^ 64) → num_or_none (number_or_none o) ≡ Ok o
unfolding num_or_none
count_back None h = refl
count_back (Some n) h = rw (not_none n h, num_back n h) refl

pub number_or_none_word : (o : Option ℕ) → IfSome o (λ n. n < 2 ^ 64) → IsWord (number_or_none o)
number_or_none_word None h = record { some = omega arith; visible = record { within = refl } }
number_or_none_word (Some n) h = decimal_word n h

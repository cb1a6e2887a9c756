-- What is composed is read again.
use Rattle.std.proofs.Common.{◌≡◌, ℕ, ◌+◌, ◌*◌, ◌/◌, ◌%◌, ◌≤◌, ◌<◌, List, [], ◌∷◌, length, false, refl, sym, ap, ◌∙◌, arith}
use Rattle.std.proofs.lemmas.Bool.Decides.{nat_tests}
use Rattle.std.specs.Prelude.{◌≢◌, nat_lt, IfSome, Some, None, Ok, Option}
use Rattle.dns_name.specs.Labels.{spell, IsName}
use Rattle.dns_name.specs.OptData.{kind, whole, for_code}
use Rattle.dns_name.proofs.OptionRoundTrip.{not_below, taken_whole}
use Rattle.dns_name.proofs.Spelt.{spelt_alone}
use Rattle.dns_kinds.specs.Timers.{expire_data, expire_octets, keepalive_data, keepalive_octets}
use Rattle.dns_kinds.specs.Extended.{Extended, IsExtended, TextFits, extended, extended_data, extended_of, extended_octets, taken_text, text_octets}
use Rattle.dns_kinds.specs.Chains.{chain_data}

four_again : (n : ℕ) → n < 4294967296 → 65536 * (256 * (n / 65536 / 256) + n / 65536 % 256)
    + (256 * (n % 65536 / 256) + n % 65536 % 256) ≡ n
four_again n h = omega arith

two_again : (n : ℕ) → 256 * (n / 256) + n % 256 ≡ n
two_again n = omega arith

pub expire_again : (k : Option ℕ) → IfSome k (λ n. n < 4294967296) → kind (for_code 9 expire_data) 9 (expire_octets k) ≡ Some (Ok k)
expire_again None h = refl
expire_again (Some n) h = ap (λ m. Some (Ok (Some m))) (four_again n h)

pub keepalive_again : (k : Option ℕ) → IfSome k (λ n. n < 65536) → kind (for_code 11 keepalive_data) 11 (keepalive_octets k) ≡ Some (Ok k)
keepalive_again None h = refl
keepalive_again (Some n) h = ap (λ m. Some (Ok (Some m))) (two_again n)

pub chain_again : (k : List (List ℕ)) → IsName k → kind (for_code 13 chain_data) 13 (spell k) ≡ Some (Ok k)
chain_again k h = rw (spelt_alone k h, not_below (length (spell k))) refl

text_again : (t : Option (List ℕ)) → t ≢ Some [] → taken_text (text_octets t) ≡ t
text_again None h = refl
text_again (Some []) h = absurd (h refl)
text_again (Some (x ∷ t)) h = refl

room : (m n : ℕ) → m ≡ n + 2 → n ≤ 65533 → nat_lt 65535 m ≡ false
room m n e h = grind (arith, nat_tests)

short_data : (d : List ℕ) → nat_lt 65535 (length d) ≡ false → extended_data d ≡ extended_of d
short_data d h = rw h refl

by_text : (c : ℕ) (t : Option (List ℕ)) → TextFits t → t ≢ Some []
    → kind (for_code 15 extended_data) 15 (extended_octets (extended c t)) ≡ Some (Ok (extended c t))
by_text c t r o =
    let d : List ℕ = extended_octets (extended c t) in
    let long : length d ≡ length (text_octets t) + 2 = omega arith in
    let read : extended_of d ≡ Ok (extended c t, length (text_octets t) + 2) = rw (text_again t o, two_again c) refl in
    let found : extended_data d ≡ Ok (extended c t, length (text_octets t) + 2)
    = short_data d (room (length d) (length (text_octets t)) long r) ∙ read in
    ap (λ x. Some (whole d x)) found ∙ ap (λ x. Some x) (taken_whole d (length (text_octets t) + 2) (extended c t) (sym long))

pub extended_again : (k : Extended) → IsExtended k → kind (for_code 15 extended_data) 15 (extended_octets k) ≡ Some (Ok k)
extended_again k h = by_text k.code k.text h.0 h.1

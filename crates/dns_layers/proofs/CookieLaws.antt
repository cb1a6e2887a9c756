-- A cookie is checked as the definition says, and what the layer's answer to a cookie that was sent doesn't depend on.
use Rattle.std.proofs.Common.{◌≡◌, ℕ, ◌≤◌, Bool, true, false, ◌&&◌, ◌↔◌, List, take, nat_le, Option, Some, None, refl, arith}
use Rattle.std.proofs.lemmas.Bool.Decides.{Decides-and, nat_tests, same_from_decides}
use Rattle.std.proofs.lemmas.Slice.Eq.{bytes_eq-Decides}
use Rattle.std.specs.Bool.{Decides, IsTrue}
use Rattle.dns_name.specs.declared.address.IpAddr.{IpAddr}
use Rattle.dns_name.specs.declared.serial.Serial.{Serial}
use Rattle.dns_cookie.specs.Cookies.{Checks, ChecksStandard, Cookie, IsTimely, after_last_hour, hash_octets, hash_of, standard_of, timestamp_of}
use Rattle.dns_layers.specs.Cookies.{is_good, is_good_part, own_answer, sent_verdict}

le_decides : (a b : ℕ) → Decides (nat_le a b) (a ≤ b)
le_decides a b = ((λ e. grind (arith, nat_tests)), (λ h. grind (arith, nat_tests)))

module _ (accepts : Serial → Bool → Type 0) (secret : List ℕ) (a : IpAddr) (now : ℕ) where
  -- a closure that accepts the timestamps that are timely
  abbrev pub AcceptsTimely : Type 0
  AcceptsTimely = (s : Serial) (b : Bool) → accepts s b → IsTrue b ↔ IsTimely s.0 now

  by_part : (client : List ℕ) (part : Option (List ℕ)) (result : Bool) → AcceptsTimely → ChecksStandard accepts secret client a part result → result ≡ is_good_part secret client a now part
  by_part client None result k h = h
  by_part client (Some s) result k h =
      let t = k (record { 0 = timestamp_of s }) h.accepted h.asked in
      same_from_decides result (nat_le (after_last_hour (timestamp_of s) now) 3900 && _)
      ((λ e. (t.0 (h.verdict.0 e).0, (h.verdict.0 e).1)), (λ p. h.verdict.1 (t.1 p.0, p.1)))
      (Decides-and _ _ (le_decides (after_last_hour (timestamp_of s) now) 3900) (bytes_eq-Decides (hash_of s) (hash_octets secret client (take 8 s) a)))

  pub good_checked : (c : Cookie) (result : Bool) → AcceptsTimely → Checks accepts secret a c result → result ≡ is_good secret a now c
  good_checked c result k h = by_part c.client (standard_of c.server) result k h

-- without a question it is nothing whether the address is denied
pub unasked_alone : (c : Cookie) (part : Option (List ℕ)) (good unasked denied : Bool) → unasked ≡ true → own_answer (sent_verdict c part good) unasked false ≡ own_answer (sent_verdict c part good) unasked denied
unasked_alone c part good false denied h = absurd (cc h)
unasked_alone c None good true denied h = refl
unasked_alone c (Some s) true true denied h = refl
unasked_alone c (Some s) false true denied h = refl

-- with one, and from an address that isn't denied, the layer has no answer of its own
pub passes_undenied : (c : Cookie) (part : Option (List ℕ)) (good unasked denied : Bool) → unasked ≡ false → denied ≡ false → own_answer (sent_verdict c part good) unasked denied ≡ None
passes_undenied c part good true denied h k = absurd (cc h)
passes_undenied c part good false true h k = absurd (cc k)
passes_undenied c None good false false h k = refl
passes_undenied c (Some s) true false false h k = refl
passes_undenied c (Some s) false false false h k = refl

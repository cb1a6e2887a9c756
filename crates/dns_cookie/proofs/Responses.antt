-- What a server makes checks true.
use Rattle.std.proofs.Common.{◌≡◌, ℕ, ◌<◌, ◌^◌, Bool, true, false, ◌↔◌, List, refl, sym, subst}
use Rattle.std.proofs.lemmas.Nat.{from_be_bytes-to_be_bytes_4}
use Rattle.std.specs.Bool.{IsTrue}
use Rattle.dns_name.specs.declared.address.IpAddr.{IpAddr}
use Rattle.dns_name.specs.declared.serial.Serial.{Serial}
use Rattle.dns_cookie.specs.Cookies.{Cookie, Checks, HashAgrees, IsChecked, IsGood, IsTimely, response, server_cookie, timestamp_of}

same_truth : (a b : Bool) → (IsTrue a ↔ IsTrue b) → a ≡ b
same_truth true true h = refl
same_truth true false h = sym (h.0 refl)
same_truth false true h = h.1 refl
same_truth false false h = refl

made_at : (secret client : List ℕ) (t : ℕ) (a : IpAddr) → t < 2 ^ 32 → timestamp_of (server_cookie secret client t a) ≡ t
made_at secret client t a h = from_be_bytes-to_be_bytes_4 t h

agrees : (secret client : List ℕ) (t : ℕ) (a : IpAddr) → HashAgrees secret client a (server_cookie secret client t a)
agrees secret client t a = refl

-- if the hash agrees, a check says what the closure says
by_closure : (accepts : Serial → Bool → Type 0) (secret client : List ℕ) (a : IpAddr) (s : List ℕ) (result : Bool) → HashAgrees secret client a s → IsChecked accepts secret client a s result ↔ accepts (record { 0 = timestamp_of s }) result
by_closure accepts secret client a s result h = (
  (λ c. subst (accepts (record { 0 = timestamp_of s })) (sym (same_truth result c.accepted ((λ t. (c.verdict.0 t).0), (λ t. c.verdict.1 (t, h))))) c.asked),
  (λ given. record { accepted = result; asked = given; verdict = ((λ t. (t, h)), (λ p. p.0)) }),
)

at_time : (accepts : Serial → Bool → Type 0) (r : Bool) (m t : ℕ) (P : Type 0) → m ≡ t → (P ↔ accepts (record { 0 = m }) r) → P ↔ accepts (record { 0 = t }) r
at_time accepts r m t P e h = subst (λ n. P ↔ accepts (record { 0 = n }) r) e h

pub checked : (accepts : Serial → Bool → Type 0) (secret : List ℕ) (c : Cookie) (t : ℕ) (a : IpAddr) (result : Bool) → t < 2 ^ 32 → Checks accepts secret a (response secret c t a) result ↔ accepts (record { 0 = t }) result
checked accepts secret c t a result h =
    at_time accepts result (timestamp_of (server_cookie secret c.client t a)) t (Checks accepts secret a (response secret c t a) result) (made_at secret c.client t a h)
    (by_closure accepts secret c.client a (server_cookie secret c.client t a) result (agrees secret c.client t a))

timely : (m t now : ℕ) (P : Type 0) → m ≡ t → P → (IsTimely m now × P) ↔ IsTimely t now
timely m t now P e p = subst (λ n. (IsTimely m now × P) ↔ IsTimely n now) e ((λ g. g.0), (λ i. (i, p)))

pub good : (secret : List ℕ) (c : Cookie) (t now : ℕ) (a : IpAddr) → t < 2 ^ 32 → IsGood secret a now (response secret c t a) ↔ IsTimely t now
good secret c t now a h =
    timely (timestamp_of (server_cookie secret c.client t a)) t now (HashAgrees secret c.client a (server_cookie secret c.client t a)) (made_at secret c.client t a h) (agrees secret c.client t a)

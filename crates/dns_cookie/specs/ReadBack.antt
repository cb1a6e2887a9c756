-- A cookie that is written and read again is the same.
use Rattle.std.specs.Prelude.{◌≡◌, ℕ, ◌+◌, ◌≤◌, List, [], ◌∷◌, ◌++◌, length, take, drop, Option, Some, None, Ok, false, nat_lt}
use Rattle.std.proofs.Common.{arith, refl, sym, ap, ◌∙◌, length-append}
use Rattle.std.proofs.Math.Seq.{take-append_seam, drop-append_seam}
use Rattle.std.proofs.lemmas.Bool.{le-ltb}
use Rattle.dns_name.specs.OptData.{kind, for_code, whole}
use Rattle.dns_cookie.specs.Cookies.{Cookie}
use Rattle.dns_cookie.specs.CookieData.{cookie_data, cookie_octets, server_octets, server_part, server_data, with_some, with_client, IsCookie, IsServerPart}

server_whole : (s : List ℕ) → 8 ≤ length s → length s ≤ 32 → with_some (server_data s) ≡ Ok (Some s, length s)
server_whole s least most =
    let low : nat_lt (length s) 8 ≡ false = le-ltb (length s) 8 least in
    let high : nat_lt 32 (length s) ≡ false = le-ltb 32 (length s) most in
    rw (low, high) refl

-- a server part is read as itself, whole
server_again : (o : Option (List ℕ)) → IsServerPart o → server_part (server_octets o) ≡ Ok (o, length (server_octets o))
server_again None h = refl
server_again (Some []) h = absurd (omega (arith, h.0))
server_again (Some (x ∷ d)) h = server_whole (x ∷ d) h.0 h.1

-- what follows eight octets is read as the server part
client_again : (c t : List ℕ) → length c ≡ 8 → cookie_data (c ++ t) ≡ with_client c (server_part t)
client_again c t e =
    let n : length (c ++ t) ≡ length c + length t = length-append c t in
    let long : nat_lt (length (c ++ t)) 8 ≡ false = le-ltb (length (c ++ t)) 8 (omega arith) in
    let front : take 8 (c ++ t) ≡ c = ap (λ k. take k (c ++ t)) (sym e) ∙ take-append_seam c t in
    let back : drop 8 (c ++ t) ≡ t = ap (λ k. drop k (c ++ t)) (sym e) ∙ drop-append_seam c t in
    rw (long, front, back) refl

parts_again : (c t : List ℕ) (o : Option (List ℕ)) → length c ≡ 8 → server_part t ≡ Ok (o, length t)
    → whole (c ++ t) (cookie_data (c ++ t)) ≡ Ok (record { client = c; server = o })
parts_again c t o e h =
    let n : length (c ++ t) ≡ length c + length t = length-append c t in
    let all : nat_lt (8 + length t) (length (c ++ t)) ≡ false = le-ltb (8 + length t) (length (c ++ t)) (omega arith) in
    rw (client_again c t e, h, all) refl

pub cookie_again : (k : Cookie) → IsCookie k → kind (for_code 10 cookie_data) 10 (cookie_octets k) ≡ Some (Ok k)
cookie_again k h = ap Some (parts_again k.client (server_octets k.server) k.server h.0 (server_again k.server h.1))

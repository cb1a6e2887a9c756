-- The rest of a name, label by label, and its octets in lower case.
use Rattle.std.proofs.Common.{◌≡◌, ℕ, ◌+◌, ◌-◌, ◌<◌, List, ◌∷◌, ◌++◌, length, map, take, drop, ap, sym, ◌∙◌, arith, length-drop}
use Rattle.std.proofs.lemmas.List.{drop-drop, length-map}
use Rattle.std.proofs.Math.Seq.{drop-append_seam, take-length}
use Rattle.std.specs.Char.{to_ascii_lowercase}
use Rattle.dns_name.specs.Labels.{folded}
use Rattle.dns_routes.specs.Places.{name_key}
use Rattle.dns_routes.proofs.KeyLaws.{spelt_some}
use Rattle.dns_routes.proofs.RouteLaws.{IsTail}

pub next_tail : (q s t : List (List ℕ)) (l : List ℕ) → s ≡ l ∷ t → IsTail q s → IsTail q t
next_tail q s t l e h =
    let n : length s ≡ length t + 1 = omega (arith, ap length e) in
    let k : 1 + (length q - length s) ≡ length q - length t = omega (arith, h.short, n) in
    let m : length q - length s + 1 ≡ length q - length t = omega (arith, h.short, n) in
    let d : drop 1 (drop (length q - length s) q) ≡ drop (length q - length s + 1) q = drop-drop 1 (length q - length s) q in
    record {
      short = omega (arith, h.short, n);
      tail = ap (drop 1) (sym e ∙ h.tail) ∙ (d ∙ ap (λ x. drop x q) m);
    }

pub in_octets : (o : List ℕ) (at : ℕ) (s : List (List ℕ)) → drop at o ≡ name_key s → at < length o
in_octets o at s h = omega (arith, ap length h, length-drop at o, spelt_some (folded s))

pub next_octets : (o : List ℕ) (at : ℕ) (s t : List (List ℕ)) (l : List ℕ) → s ≡ l ∷ t → drop at o ≡ name_key s → drop (at + (length l + 1)) o ≡ name_key t
next_octets o at s t l e h =
    let m = map to_ascii_lowercase l in
    let n : length m ≡ length l = length-map l to_ascii_lowercase in
    let a : drop at o ≡ length m ∷ (m ++ name_key t) = h ∙ ap name_key e in
    let b : drop (at + 1) o ≡ m ++ name_key t = sym (drop-drop 1 at o) ∙ ap (drop 1) a in
    let c : drop (at + 1 + length m) o ≡ name_key t = sym (drop-drop (length m) (at + 1) o) ∙ (ap (drop (length m)) b ∙ drop-append_seam m (name_key t)) in
    let d : at + (length l + 1) ≡ at + 1 + length m = omega (arith, n) in
    ap (λ x. drop x o) d ∙ c

-- all octets from a place on
pub rest_octets : (o p : List ℕ) (at : ℕ) (s : List (List ℕ)) → p ≡ o → drop at o ≡ name_key s → take (length p - at) (drop at p) ≡ name_key s
rest_octets o p at s e h =
    let n : length p - at ≡ length (drop at p) = sym (length-drop at p) in
    ap (λ k. take k (drop at p)) n ∙ (take-length (drop at p) ∙ (ap (drop at) e ∙ h))

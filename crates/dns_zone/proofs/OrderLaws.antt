-- The order of octets: what begins with the same octets stands together.
use Rattle.std.proofs.Common.{◌≡◌, ℕ, ◌<◌, true, false, List, [], ◌∷◌, length, take, nat_eq, refl, ap, sym, ◌∙◌, arith}
use Rattle.std.specs.Prelude.{◌&&◌}
use Rattle.std.specs.Cmp.{ranks, nat_cmp_is}
use Rattle.std.specs.Cmp.Lexicographic.{slice_cmp}
use Rattle.std.specs.declared.cmp.Ordering.{Ordering}
use Rattle.std.specs.declared.cmp.Ordering.TheVariants.{Less, Equal, Greater}
use Rattle.std.specs.Ordering.{is_gt, nat_cmp, ordering_then, MatchOrdering}
use Rattle.std.specs.Str.{bytes_eq}
use Rattle.std.proofs.lemmas.Bool.Decides.{nat_tests}
use Rattle.dns_zone.proofs.PathLaws.{first_true, second_true, true_eq}

between : (x y z : ℕ) (r s o u : Ordering) → MatchOrdering r (x < y) (x ≡ y) (y < x) → MatchOrdering s (y < z) (y ≡ z) (z < y) → x ≡ z →
    is_gt (ordering_then r o) ≡ false → is_gt (ordering_then s u) ≡ false → (x ≡ y) × (is_gt o ≡ false) × (is_gt u ≡ false)
between x y z Less Less o u a b e g h = absurd (omega arith)
between x y z Less Equal o u a b e g h = absurd (omega arith)
between x y z Less Greater o u a b e g h = absurd (cc)
between x y z Equal Less o u a b e g h = absurd (omega arith)
between x y z Equal Equal o u a b e g h = (a, g, h)
between x y z Equal Greater o u a b e g h = absurd (cc)
between x y z Greater s o u a b e g h = absurd (cc)

same_start : (x z : ℕ) (p k : List ℕ) → bytes_eq (x ∷ p) (take (length (x ∷ p)) (z ∷ k)) ≡ true → (x ≡ z) × (bytes_eq p (take (length p) k) ≡ true)
same_start x z p k h =
    (true_eq x z (first_true (nat_eq x z) (bytes_eq p (take (length p) k)) h), second_true (nat_eq x z) (bytes_eq p (take (length p) k)) h)

-- what stands between octets and others that begin with them begins with them too
pub begins_between : (p m k : List ℕ) → is_gt (slice_cmp nat_cmp p m) ≡ false → is_gt (slice_cmp nat_cmp m k) ≡ false → bytes_eq p (take (length p) k) ≡ true → bytes_eq p (take (length p) m) ≡ true
begins_between [] m k g h b = refl
begins_between (x ∷ p) m [] g h b = absurd (cc)
begins_between (x ∷ p) [] (z ∷ k) g h b = absurd (cc)
begins_between (x ∷ p) (y ∷ m) (z ∷ k) g h b =
    let s = same_start x z p k b in
    let t = between x y z (nat_cmp x y) (nat_cmp y z) (slice_cmp nat_cmp p m) (slice_cmp nat_cmp m k) (ranks x y) (ranks y z) s.0 g h in
    let e : nat_eq x y ≡ true = grind (arith, nat_tests, t.0) in
    ap (λ c. c && bytes_eq p (take (length p) m)) e ∙ begins_between p m k t.1 t.2 s.1

-- octets aren't after those that begin with them
pub begins_behind : (p k : List ℕ) → bytes_eq p (take (length p) k) ≡ true → is_gt (slice_cmp nat_cmp p k) ≡ false
begins_behind [] [] b = refl
begins_behind [] (z ∷ k) b = refl
begins_behind (x ∷ p) [] b = absurd (cc)
begins_behind (x ∷ p) (z ∷ k) b =
    let s = same_start x z p k b in
    let e : nat_cmp x z ≡ Equal = sym (nat_cmp_is x z Equal s.0) in
    ap (λ o. is_gt (ordering_then o (slice_cmp nat_cmp p k))) e ∙ begins_behind p k s.1

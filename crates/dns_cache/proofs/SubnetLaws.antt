-- Whether a list of options has a client subnet, by a walk over the first option of those that are left.
use Rattle.std.proofs.Common.{◌≡◌, ℕ, Bool, true, false, ◌||◌, List, [], length, Some, None, ap, sym, ◌∙◌}
use Rattle.std.specs.Prelude.{unwrap_or, nat_eq}
use Rattle.std.specs.List.{list_any}
use Rattle.dns_base.specs.Options.{first_option, options_up_to, options, IsOptionList}
use Rattle.dns_route.proofs.KeptLaws.{first_pair, no_pairs, some_of}
use Rattle.dns_cache.specs.Keys.{lists_subnet}

abbrev has : List (ℕ × List ℕ) → Bool
has ps = list_any (λ (p : ℕ × List ℕ). nat_eq p.0 8) ps

-- what is left of a list are options, and they have a client subnet exactly if the list has one
pub record IsWalked (o left : List ℕ) : Type 0 where
  pub fuel : ℕ
  pub pairs : List (ℕ × List ℕ)
  pub behind : options_up_to fuel left ≡ Some pairs
  pub same : list_any (λ (p : ℕ × List ℕ). nat_eq p.0 8) pairs ≡ lists_subnet o

pub begun : (o : List ℕ) → IsOptionList o → IsWalked o o
unfolding options
begun o h =
    let q = some_of (options_up_to (length o) o) h in
    record { fuel = length o; pairs = q.0; behind = q.1; same = ap (λ x. has (unwrap_or x [])) (sym q.1) }

pub ended : (o left : List ℕ) → IsWalked o left → first_option left ≡ None → false ≡ lists_subnet o
ended o left w f = ap has (sym (no_pairs w.fuel left w.pairs w.behind f)) ∙ w.same

module _ (o left : List ℕ) (c : ℕ) (d r : List ℕ) (w : IsWalked o left) (f : first_option left ≡ Some (c, d, r)) where
  pub found : nat_eq c 8 ≡ true → true ≡ lists_subnet o
  found t =
      let s = first_pair w.fuel left w.pairs c d r w.behind f in
      sym (ap has s.3 ∙ ap (λ (b : Bool). b || has s.1) t) ∙ w.same

  pub passed : nat_eq c 8 ≡ false → IsWalked o r
  passed t =
      let s = first_pair w.fuel left w.pairs c d r w.behind f in
      record { fuel = s.0; pairs = s.1; behind = s.2; same = sym (ap has s.3 ∙ ap (λ (b : Bool). b || has s.1) t) ∙ w.same }

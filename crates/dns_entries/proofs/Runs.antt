-- The octets that go on with a word or a comment are as many from the front on.
use Rattle.std.proofs.Common.{◌≡◌, ℕ, List, [], ◌∷◌, Bool, true, false, refl, ap, length, take}
use Rattle.std.specs.Prelude.{if◌then◌else◌}
use Rattle.dns_entries.specs.Entries.{goes_on_in, run_in}
use Rattle.dns_entries.specs.declared.scan.Mode.{Mode}

by_test : (m : Mode) (b : Bool) (c : ℕ) (cs : List ℕ) → take (length (run_in m cs)) cs ≡ run_in m cs → take (length (if b then c ∷ run_in m cs else [])) (c ∷ cs) ≡ (if b then c ∷ run_in m cs else [])
by_test m true c cs h = ap (λ t. c ∷ t) h
by_test m false c cs h = refl

pub run_taken : (m : Mode) (cs : List ℕ) → take (length (run_in m cs)) cs ≡ run_in m cs
run_taken m [] = refl
run_taken m (c ∷ cs) = by_test m (goes_on_in m c) c cs (run_taken m cs)

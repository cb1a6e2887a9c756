use Rattle.std.proofs.Common.{◌≡◌, ℕ, List, [], ◌∷◌, length, refl, subst, sym, arith}
use Rattle.std.proofs.lemmas.Bool.{eqb-true}
use Rattle.dns_denial.specs.Nsec3.{Hashing}
use Rattle.dns_nsec3_data.specs.Nsec3Data.{BeginWithNoParameters, BeginWithParameters}
use Rattle.dns_nsec3_data.proofs.ParamLaws.{no_param, param_read}
use Rattle.dns_nsec3_data.proofs.parameters.param_in.Goals as goal

none : (xs : List ℕ) → length xs ≡ 0 → xs ≡ []
none [] e = refl
none (x ∷ xs) e = absurd (omega (arith, e))

pub returns-in_default : goal.returns-in_default
returns-in_default c =
    no_param c.args.apex.now c.args.records.now c.in_ok-resource.resource.now c.in_ok-resource.ensures
    (subst BeginWithNoParameters c.unknown_octets.ensures c.in_default.ensures)

pub returns : goal.returns
returns c =
    let found = c.in-Some.found in
    let h : Hashing = record { salt = found.salt.now; iterations = found.iterations } in
    param_read c.args.apex.now c.args.records.now c.in_ok-resource.resource.now found.flags h found.left.now c.in_ok-resource.ensures
    (subst (λ (o : List ℕ). BeginWithParameters o found.flags h found.left.now) c.unknown_octets.ensures c.in-Some.ensures) (none found.left.now (eqb-true (length found.left.now) 0 (sym c.if-not-is_empty.ensures)))

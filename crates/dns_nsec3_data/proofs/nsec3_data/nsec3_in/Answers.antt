use Rattle.std.proofs.Common.{List, ℕ, subst, sym, ◌∙◌}
use Rattle.std.proofs.lemmas.Bool.{true≢false}
use Rattle.dns_denial.specs.Nsec3.{Hashing}
use Rattle.dns_nsec3_data.specs.Nsec3Data.{BeginWithNoParameters, BeginWithParameters}
use Rattle.dns_nsec3_data.proofs.ParamLaws.{no_next, no_parameters, other_parameters}
use Rattle.dns_nsec3_data.proofs.nsec3_data.nsec3_in.Goals as goal

pub returns-in_default : goal.returns-in_default
returns-in_default c =
    let h : Hashing = record { salt = c.args.param.now.salt.now; iterations = c.args.param.now.iterations } in
    no_parameters c.args.apex.now h c.args.resource.now (subst BeginWithNoParameters c.unknown_octets.ensures c.in_default.ensures)

pub returns-then-not-is_for : goal.returns-then-not-is_for
returns-then-not-is_for c =
    let h : Hashing = record { salt = c.args.param.now.salt.now; iterations = c.args.param.now.iterations } in
    let found = c.in-Some.found in
    let of : Hashing = record { salt = found.salt.now; iterations = found.iterations } in
    other_parameters c.args.apex.now h c.args.resource.now found.flags of found.left.now
    (subst (λ (o : List ℕ). BeginWithParameters o found.flags of found.left.now) c.unknown_octets.ensures c.in-Some.ensures) (λ k. true≢false (sym (c.is_for.ensures.1 k) ∙ c.if-not-is_for.true))

pub returns-in-None : goal.returns-in-None
returns-in-None c =
    let h : Hashing = record { salt = c.args.param.now.salt.now; iterations = c.args.param.now.iterations } in
    let found = c.in-Some.found in
    let of : Hashing = record { salt = found.salt.now; iterations = found.iterations } in
    no_next c.args.apex.now h c.args.resource.now found.flags of found.left.now
    (subst (λ (o : List ℕ). BeginWithParameters o found.flags of found.left.now) c.unknown_octets.ensures c.in-Some.ensures) (rw c.in-None.is at c.in_ok-next.ensures)

use Rattle.std.proofs.Common.{◌≡◌, ℕ, Bool, true, List, ap, sym, subst, ◌∙◌}
use Rattle.std.specs.Prelude.{◌&&◌, not}
use Rattle.std.specs.List.{list_any}
use Rattle.std.proofs.lemmas.Bool.{and_left}
use Rattle.dns_denial.specs.Chains.{must_have}
use Rattle.dns_denial.specs.Checks.{lists_record}
use Rattle.dns_denial.specs.Denials.{AllBehind, IsLast}
use Rattle.dns_denial.proofs.WholeLaws.{listed_by, listed_none}
use Rattle.dns_denial.proofs.check.is_unlisted.Goals as goal

pub returns-then-not-must_have : goal.returns-then-not-must_have
returns-then-not-must_have c =
    let z = c.args.zone.now in
    let r = c.args.resource.now in
    sym (and_left (must_have z r.owner) (not (list_any (lists_record z r) c.args.nsecs.now)) (sym c.if-not-must_have.ensures))

pub returns-in-Some : goal.returns-in-Some
returns-in-Some c =
    let z = c.args.zone.now in
    let r = c.args.resource.now in
    let ns = c.args.nsecs.now in
    let l = subst (λ (n : List (List ℕ)). IsLast ns n c.in-Some.nsec.now) c.for_ref.ensures.value (rw c.in-Some.is at c.in_ok-nsec.ensures) in
    ap not c.lists_record.ensures
    ∙ sym (ap (λ (b : Bool). b && not (list_any (lists_record z r) ns)) (sym c.if-not-must_have.ensures) ∙ ap not (listed_by z ns c.requires.sorted r c.in-Some.nsec.now l))

pub returns-in-None : goal.returns-in-None
returns-in-None c =
    let z = c.args.zone.now in
    let r = c.args.resource.now in
    let ns = c.args.nsecs.now in
    let l = subst (λ (n : List (List ℕ)). AllBehind ns n) c.for_ref.ensures.value (rw c.in-None.is at c.in_ok-nsec.ensures) in
    sym (ap (λ (b : Bool). b && not (list_any (lists_record z r) ns)) (sym c.if-not-must_have.ensures) ∙ ap not (listed_none z ns c.requires.sorted r l))

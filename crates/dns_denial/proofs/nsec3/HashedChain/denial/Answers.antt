use Rattle.std.proofs.Common.{◌≡◌, false, ap, sym, subst, ◌∙◌, List, [], ◌∷◌, ℕ}
use Rattle.dns_zone_tree.specs.Wildcards.{star}
use Rattle.dns_denial.specs.Accepted3.{AreChosen}
use Rattle.dns_denial.specs.Nsec3.{IsNear, Nsec3State, closer, is_matched, provable}
use Rattle.dns_denial.proofs.HashedChoice.{chosen_three, empty_by, no_chain}
use Rattle.dns_denial.proofs.nsec3.HashedChain.denial.Goals as goal

pub returns-then-is_empty-clause-chosen : goal.returns-then-is_empty-clause-chosen
returns-then-is_empty-clause-chosen c =
    let h = c.args.hashing.now in
    let ns = c.args.self.now in
    no_chain h ns c.args.name.now (sym c.nsecs-nsecs.ensures.value ∙ empty_by h ns c.nsecs-nsecs.result.now c.is_empty.result c.is_empty.ensures c.if-is_empty.true)

pub returns-clause-chosen : goal.returns-clause-chosen
returns-clause-chosen c =
    let h = c.args.hashing.now in
    let ns = c.nsecs-nsecs.result.now in
    let name = c.args.name.now in
    let found = c.in-Some.found in
    let w = c.in_ok-wild-in-Some-2.wild.nsec.now in
    let k = rw c.in-Some.is at c.in_ok-found.ensures in
    let b : c.in-Some-2.below ≡ star ∷ found.above = rw c.in-Some-2.is at c.in_ok-below.ensures in
    let n : IsNear h ns (star ∷ found.above) w = subst (λ (x : List (List ℕ)). IsNear h ns x w) (c.for_ref.ensures.value ∙ b) c.in_ok-wild-in-Some-2.ensures.nsec in
    let e : is_matched h ns name ≡ false = sym c.in_ok-own.ensures.matched ∙ c.if-own.false in
    subst (λ (xs : List Nsec3State). AreChosen h xs (found.encloser.now ∷ found.next.now ∷ w ∷ []) name) c.nsecs-nsecs.ensures.value (chosen_three h ns name found.encloser.now found.next.now w found.above k n e)

pub returns-clause-each : goal.returns-clause-each
returns-clause-each c =
    let h = c.args.hashing.now in
    let name = c.args.name.now in
    let found = c.in-Some.found in
    let w = c.in_ok-wild-in-Some-2.wild.nsec.now in
    let k = rw c.in-Some.is at c.in_ok-found.ensures in
    let b : c.in-Some-2.below ≡ star ∷ found.above = rw c.in-Some-2.is at c.in_ok-below.ensures in
    let n = subst (λ (x : List (List ℕ)). IsNear h c.nsecs-nsecs.result.now x w) (c.for_ref.ensures.value ∙ (b ∙ ap (λ (x : List (List ℕ)). star ∷ x) k.is)) c.in_ok-wild-in-Some-2.ensures.nsec in
    let e : is_matched h c.nsecs-nsecs.result.now name ≡ false = sym c.in_ok-own.ensures.matched ∙ c.if-own.false in
    subst (λ (xs : List Nsec3State). (is_matched h xs name ≡ false) × IsNear h xs (provable h xs name) found.encloser.now × IsNear h xs (closer h xs name) found.next.now × IsNear h xs (star ∷ provable h xs name) w)
    c.nsecs-nsecs.ensures.value (e, k.near, k.next_near, n)

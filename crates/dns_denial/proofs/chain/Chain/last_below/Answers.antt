use Rattle.std.proofs.Common.{◌≡◌, ℕ, List, inr, subst, ◌∙◌}
use Rattle.std.specs.Prelude.{Option, Some, None}
use Rattle.std.specs.Borrow.{Bor}
use Rattle.dns_order.specs.Keys.{canonical_key}
use Rattle.dns_denial.specs.Denials.{IsLastBelow, IsLastOf}
use Rattle.dns_denial.specs.Nsecs.{NsecState}
use Rattle.dns_denial.specs.Validation.{shown_wildcard}
use Rattle.dns_denial.proofs.chain.Chain.last_below.Goals as goal

last_below : (ns : List NsecState) (n : NsecState) (name : List (List ℕ)) (o : Option (Bor NsecState)) → IsLastOf ns (shown_wildcard n name) o → IsLastBelow ns n name o
last_below ns n name None h = inr h
last_below ns n name (Some m) h = h

pub returns-in-Some : goal.returns-in-Some
returns-in-Some c =
    let n = c.args.nsec.now in
    let name = c.args.name.now in
    let key = rw c.in-Some.is at c.in_ok-key.ensures in
    let k : c.as_slice.result.now ≡ canonical_key (shown_wildcard n name) = c.as_slice.ensures.value ∙ key in
    last_below c.args.self.now n name c.last_up_to.result
    (subst (λ (l : List NsecState). IsLastOf l (shown_wildcard n name) c.last_up_to.result) c.nsecs.ensures.value (c.last_up_to.ensures (shown_wildcard n name) k))

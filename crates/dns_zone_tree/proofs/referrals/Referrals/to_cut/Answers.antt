use Rattle.std.proofs.Common.{List, sym, subst, ◌∙◌}
use Rattle.dns_zone_tree.specs.Kinds.{places_of}
use Rattle.dns_zone_tree.specs.Referrals.{AreReferrals, IsReferral}
use Rattle.dns_zone_tree.specs.declared.kinds.TypedPlace.{TypedPlace}
use Rattle.dns_zone_tree.proofs.referrals.Referrals.to_cut.Goals as goal

pub returns-then-are_same : goal.returns-then-are_same
returns-then-are_same c = λ z h.
    let k = c.in-Some.kept.now in
    subst (λ (ks : List TypedPlace). IsReferral z (places_of 2 ks) k) (sym c.as_slice-in-Some.ensures ∙ (c.are_same.ensures c.if-are_same.true ∙ c.as_slice-kinds.ensures))
    (c.in-Some.ensures z (subst (AreReferrals z) (sym c.as_slice-2.ensures.value) h))

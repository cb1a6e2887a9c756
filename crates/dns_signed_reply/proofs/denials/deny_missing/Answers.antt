use Rattle.std.proofs.Common.{◌≡◌, ℕ, [], ◌∷◌, List, ap, sym, subst, ◌∙◌}
use Rattle.std.specs.Prelude.{if◌then◌else◌}
use Rattle.std.specs.List.{flat_map}
use Rattle.std.specs.Option.{option_copied}
use Rattle.dns_zone.specs.Owned.{ZoneState}
use Rattle.dns_zone_tree.proofs.KeptLaws.{on_ok}
use Rattle.dns_zone_tree.specs.Walks.{IsNode}
use Rattle.dns_zone_tree.specs.Wildcards.{star, wildcard}
use Rattle.dns_denial.specs.Chains.{IsWhole}
use Rattle.dns_denial.specs.Nsecs.{NsecState}
use Rattle.dns_signed_reply.specs.SignedReplies.{denied, nearest, nsec_records_of}
use Rattle.dns_signed_reply.proofs.NearLaws.{for_one, missing_answered, wild_denied}
use Rattle.dns_signed_reply.proofs.denials.deny_missing.Goals as goal

pub returns-then-gives : goal.returns-then-gives
returns-then-gives c =
    let s = c.args.zone.now in
    let z = s.zone in
    let name = c.args.name.now in
    let t = c.args.rtype in
    let e : star ∷ c.behind.result ≡ wildcard z name = ap (λ (x : List (List ℕ)). star ∷ x) (c.behind.ensures ∙ sym c.requires.reached.encloser_) in
    let f = subst (λ (x : List (List ℕ)). IsNode z x (option_copied c.in_ok-found.found)) e (subst (λ (y : ZoneState). IsNode y (star ∷ c.behind.result) (option_copied c.in_ok-found.found)) c.zone-tree.ensures c.in_ok-found.ensures) in
    on_ok c.deny.result c.deny.ensures
    (λ g. g ∙ for_one z s.nsecs c.args.into.now.items name (denied z t name) (wild_denied z t name c.args.skipped (option_copied c.in_ok-found.found) c.gives.result c.requires.reached f c.gives.ensures ∙ ap (λ b. if b then name ∷ [] else name ∷ wildcard z name ∷ []) c.if-gives.true))

pub deny_both-requires : goal.deny_both-requires
deny_both-requires c =
    let s = c.args.zone.now in
    let w = subst (λ (ns : List NsecState). IsWhole s.zone ns) c.chain-chain.ensures.value c.chain-chain.ensures.whole in
    record {
      inside = c.requires.inside;
      answered = missing_answered s.zone c.args.rtype c.args.name.now s.nsecs w c.args.skipped c.requires.reached;
      missing = c.requires.reached.missing;
    }

pub returns : goal.returns
returns c =
    let s = c.args.zone.now in
    let z = s.zone in
    let name = c.args.name.now in
    let t = c.args.rtype in
    let e : star ∷ c.behind.result ≡ wildcard z name = ap (λ (x : List (List ℕ)). star ∷ x) (c.behind.ensures ∙ sym c.requires.reached.encloser_) in
    let f = subst (λ (x : List (List ℕ)). IsNode z x (option_copied c.in_ok-found.found)) e (subst (λ (y : ZoneState). IsNode y (star ∷ c.behind.result) (option_copied c.in_ok-found.found)) c.zone-tree.ensures c.in_ok-found.ensures) in
    let k : denied z t name ≡ name ∷ wildcard z name ∷ [] = wild_denied z t name c.args.skipped (option_copied c.in_ok-found.found) c.gives.result c.requires.reached f c.gives.ensures ∙ ap (λ b. if b then name ∷ [] else name ∷ wildcard z name ∷ []) c.if-gives.false in
    on_ok c.deny_both.result c.deny_both.ensures (λ g. g ∙ ap (λ (l : List (List (List ℕ))). nsec_records_of z c.args.into.now.items (flat_map (nearest s.nsecs) l)) (sym k))

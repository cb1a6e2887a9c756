use Rattle.std.proofs.Common.{◌≡◌, ℕ, List, Some, None, ap, subst, ◌∙◌}
use Rattle.std.specs.Prelude.{IfOk}
use Rattle.dns_message.specs.declared.record.Record.{Record}
use Rattle.dns_zone.specs.Places.{at_places}
use Rattle.dns_zone_tree.specs.Kinds.{places_of}
use Rattle.dns_zone_tree.specs.declared.kinds.TypedPlace.{TypedPlace}
use Rattle.dns_signed_zone.specs.SignedZones.{IsOne, head_of, servers_at}
use Rattle.dns_signed_zone.proofs.ProofLaws.{head_none, head_owner}
use Rattle.dns_signed_zone.proofs.signed_zone.at_cut.Goals as goal

pub returns : goal.returns
returns c =
    let z = c.args.zone.now in
    let m = c.args.kinds.now in
    let r = c.in-Some.server.now in
    let e : Some r ≡ head_of (servers_at z m) = c.in-Some.ensures
    ∙ (ap (λ (x : List Record). head_of (at_places x (places_of 2 c.as_slice.result.now))) c.records.ensures.value
    ∙ ap (λ (ks : List TypedPlace). head_of (at_places z.records (places_of 2 ks))) c.as_slice.ensures) in
    subst (λ (n : List (List ℕ)). IfOk c.one.result (IsOne c.args.chain.now n)) (c.for_ref.ensures.value ∙ head_owner (servers_at z m) r e) c.one.ensures

pub unreachable-requires : goal.unreachable-requires
unreachable-requires c =
    let z = c.args.zone.now in
    let m = c.args.kinds.now in
    let e : None ≡ head_of (servers_at z m) = c.in-None.ensures
    ∙ (ap (λ (x : List Record). head_of (at_places x (places_of 2 c.as_slice.result.now))) c.records.ensures.value
    ∙ ap (λ (ks : List TypedPlace). head_of (at_places z.records (places_of 2 ks))) c.as_slice.ensures) in
    absurd (c.requires (head_none (servers_at z m) e))

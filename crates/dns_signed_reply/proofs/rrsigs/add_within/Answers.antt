use Rattle.std.proofs.Common.{◌≡◌, ℕ, List, ◌++◌, map, ap, sym, subst, ◌∙◌}
use Rattle.std.specs.Prelude.{IsTrue}
use Rattle.std.specs.List.{filter}
use Rattle.dns_base.specs.Records.{data_type}
use Rattle.dns_message.specs.declared.record.Record.{Record}
use Rattle.dns_route.specs.Routes.{ends_name}
use Rattle.dns_zone.specs.Places.{at_places}
use Rattle.dns_zone_tree.proofs.KeptLaws.{on_ok}
use Rattle.dns_zone_tree.specs.Kinds.{kind_places, places_of}
use Rattle.dns_zone_tree.specs.Walks.{EndsAt}
use Rattle.dns_zone_tree.specs.declared.kinds.TypedPlace.{TypedPlace}
use Rattle.dns_denial.specs.Signed.{is_signature}
use Rattle.dns_signed_reply.specs.SignedReplies.{timed}
use Rattle.dns_signed_reply.proofs.LoopLaws.{put_none}
use Rattle.dns_signed_reply.proofs.NodeLaws.{cut_none, dname_none, missing_had, node_had_within}
use Rattle.dns_signed_reply.proofs.rrsigs.add_within.Goals as goal

-- those among records that cover the type of a record
abbrev covering : Record → List Record → List Record
covering r rs = map (timed r) (filter (is_signature (data_type r.rdata)) rs)

pub walk-requires : goal.walk-requires
walk-requires c = subst (λ (x : List (List ℕ)). IsTrue (ends_name x c.args.zone.now.apex)) (sym c.for_ref.ensures.value) c.requires

pub returns-in-Node : goal.returns-in-Node
returns-in-Node c =
    let z = c.args.zone.now in
    let r = c.args.signed.now in
    let m = c.in-Node.kinds.now in
    let w = subst (EndsAt z 43 r.owner) c.in-Node.is (subst (λ (x : List (List ℕ)). EndsAt z 43 x c.in_ok-found.found) c.for_ref.ensures.value c.in_ok-found.ensures) in
    let e : at_places c.records.result.now (places_of 46 c.as_slice.result.now) ≡ at_places z.records (kind_places 46 m) =
    ap (λ (rs : List Record). at_places rs (places_of 46 c.as_slice.result.now)) c.records.ensures.value ∙ ap (λ (ks : List TypedPlace). at_places z.records (places_of 46 ks)) c.as_slice.ensures in
    on_ok c.add_all_placed.result c.add_all_placed.ensures (λ f. f ∙ ap (λ (l : List Record). c.args.into.now.items ++ covering r l) (e ∙ node_had_within z r.owner 43 m w 46))

pub returns-in-Missing : goal.returns-in-Missing
returns-in-Missing c =
    let z = c.args.zone.now in
    let r = c.args.signed.now in
    let w = subst (EndsAt z 43 r.owner) c.in-Missing.is (subst (λ (x : List (List ℕ)). EndsAt z 43 x c.in_ok-found.found) c.for_ref.ensures.value c.in_ok-found.ensures) in
    on_ok c.add_expanded.result (c.add_expanded.ensures 43 w) (λ f. f ∙ ap (λ (l : List Record). c.args.into.now.items ++ covering r l) (missing_had z r.owner 43 _ w 46))

pub returns-in-Cut : goal.returns-in-Cut
returns-in-Cut c =
    let z = c.args.zone.now in
    let r = c.args.signed.now in
    let w = subst (EndsAt z 43 r.owner) c.in-Cut.is (subst (λ (x : List (List ℕ)). EndsAt z 43 x c.in_ok-found.found) c.for_ref.ensures.value c.in_ok-found.ensures) in
    put_none _ c.args.into.now.items (ap (covering r) (sym (cut_none z r.owner 43 _ _ w)))

pub returns-in-Dname : goal.returns-in-Dname
returns-in-Dname c =
    let z = c.args.zone.now in
    let r = c.args.signed.now in
    let w = subst (EndsAt z 43 r.owner) c.in-Dname.is (subst (λ (x : List (List ℕ)). EndsAt z 43 x c.in_ok-found.found) c.for_ref.ensures.value c.in_ok-found.ensures) in
    put_none _ c.args.into.now.items (ap (covering r) (sym (dname_none z r.owner 43 _ _ w.0)))

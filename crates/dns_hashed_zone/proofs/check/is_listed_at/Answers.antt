use Rattle.std.proofs.Common.{◌≡◌, ℕ, Bool, true, false, List, ap, subst, sym, ◌∙◌}
use Rattle.std.specs.Prelude.{not}
use Rattle.std.proofs.lemmas.Bool.{true≢false}
use Rattle.dns_route.specs.Routes.{ends_name}
use Rattle.dns_zone_tree.specs.Walks.{EndsAt}
use Rattle.dns_denial.specs.Nsec3.{is_unsigned}
use Rattle.dns_denial.proofs.StandLaws.{at_node}
use Rattle.dns_denial.proofs.StartLaws.{starts, within_all}
use Rattle.dns_hashed_zone.specs.HashedChecks.{are_held, is_unlisted3, zone_names}
use Rattle.dns_hashed_zone.specs.Meetings.{all_marked, record_marked}
use Rattle.dns_hashed_zone.proofs.ReachLaws.{owner_there, stands_at}
use Rattle.dns_hashed_zone.proofs.RecordLaws.{at_cut, at_dname, at_node as at_listed, if_ok, marked_cut, marked_within}
use Rattle.dns_hashed_zone.proofs.check.is_listed_at.Goals as goal

pub walk-requires : goal.walk-requires
walk-requires c =
    let z = c.args.zone.now in
    ap (λ (name : List (List ℕ)). ends_name name z.apex) c.for_ref-owner.ensures.value ∙ within_all z.apex z.records (starts z c.requires.zone).within c.args.resource.now c.requires.one

pub unreachable-requires : goal.unreachable-requires
unreachable-requires c =
    let z = c.args.zone.now in
    let r = c.args.resource.now in
    let e = subst (λ (name : List (List ℕ)). EndsAt z 43 name c.in_ok-found.found) c.for_ref-owner.ensures.value c.in_ok-found.ensures in
    let m = subst (EndsAt z 43 r.owner) c.in-Missing.is e in
    true≢false (sym (owner_there z r c.requires.one) ∙ m.missing)

pub returns-in-Cut-clause-listed : goal.returns-in-Cut-clause-listed
returns-in-Cut-clause-listed c =
    let z = c.args.zone.now in
    let r = c.args.resource.now in
    let e = subst (λ (name : List (List ℕ)). EndsAt z 43 name c.in_ok-found.found) c.for_ref-owner.ensures.value c.in_ok-found.ensures in
    at_cut z c.args.hashing.now c.args.nsecs.now r _ (subst (EndsAt z 43 r.owner) c.in-Cut.is e)

pub returns-in-Cut-clause-met : goal.returns-in-Cut-clause-met
returns-in-Cut-clause-met c =
    let z = c.args.zone.now in
    let r = c.args.resource.now in
    let e = subst (λ (name : List (List ℕ)). EndsAt z 43 name c.in_ok-found.found) c.for_ref-owner.ensures.value c.in_ok-found.ensures in
    λ t. marked_cut z c.args.hashing.now c.args.nsecs.now r _ c.args.met.now (subst (EndsAt z 43 r.owner) c.in-Cut.is e)

pub returns-in-Dname-clause-listed : goal.returns-in-Dname-clause-listed
returns-in-Dname-clause-listed c =
    let z = c.args.zone.now in
    let r = c.args.resource.now in
    let e = subst (λ (name : List (List ℕ)). EndsAt z 43 name c.in_ok-found.found) c.for_ref-owner.ensures.value c.in_ok-found.ensures in
    let d = subst (EndsAt z 43 r.owner) c.in-Dname.is e in
    at_dname z c.args.hashing.now c.args.nsecs.now r _ d.0

pub returns-in-Dname-clause-met : goal.returns-in-Dname-clause-met
returns-in-Dname-clause-met c = λ t. absurd (true≢false (sym t))

pub is_firm-firm-requires : goal.is_firm-firm-requires
is_firm-firm-requires c =
    let z = c.args.zone.now in
    at_node z c.for_ref-owner.result c.in-Node.kinds.now c.requires.zone (subst (EndsAt z 43 c.for_ref-owner.result) c.in-Node.is c.in_ok-found.ensures)

pub are_held-requires-clause-inside : goal.are_held-requires-clause-inside
are_held-requires-clause-inside c =
    let z = c.args.zone.now in
    ap (λ (name : List (List ℕ)). ends_name name z.apex) c.for_ref-owner.ensures.value ∙ within_all z.apex z.records (starts z c.requires.zone).within c.args.resource.now c.requires.one

pub are_held-requires-clause-stands : goal.are_held-requires-clause-stands
are_held-requires-clause-stands c =
    let z = c.args.zone.now in
    stands_at z c.requires.zone c.for_ref-owner.result c.in-Node.kinds.now (subst (EndsAt z 43 c.for_ref-owner.result) c.in-Node.is c.in_ok-found.ensures)

pub returns-in-Node-clause-listed : goal.returns-in-Node-clause-listed
returns-in-Node-clause-listed c =
    let z = c.args.zone.now in
    let h = c.args.hashing.now in
    let ns = c.args.nsecs.now in
    let r = c.args.resource.now in
    let o = c.for_ref-owner.ensures.value in
    let n = subst (EndsAt z 43 r.owner) c.in-Node.is (subst (λ (name : List (List ℕ)). EndsAt z 43 name c.in_ok-found.found) o c.in_ok-found.ensures) in
    let k = at_node z r.owner c.in-Node.kinds.now c.requires.zone n in
    let f : c.is_firm-firm.result ≡ not (is_unsigned z r.owner) = c.is_firm-firm.ensures ∙ ap (λ (name : List (List ℕ)). not (is_unsigned z name)) o in
    if_ok (λ (b : Bool). b ≡ are_held z h ns c.is_firm-firm.result c.for_ref-owner.result) (λ (b : Bool). b ≡ not (is_unlisted3 z h ns r)) c.are_held.result
    (λ b e. at_listed z h ns r c.is_firm-firm.result b n.region k.uncut f (e ∙ ap (are_held z h ns c.is_firm-firm.result) o)) c.are_held.ensures.held

pub returns-in-Node-clause-met : goal.returns-in-Node-clause-met
returns-in-Node-clause-met c =
    let z = c.args.zone.now in
    let h = c.args.hashing.now in
    let ns = c.args.nsecs.now in
    let r = c.args.resource.now in
    let o = c.for_ref-owner.ensures.value in
    let n = subst (EndsAt z 43 r.owner) c.in-Node.is (subst (λ (name : List (List ℕ)). EndsAt z 43 name c.in_ok-found.found) o c.in_ok-found.ensures) in
    if_ok (λ (b : Bool). b ≡ true → c.are_held.new.met ≡ all_marked h ns (zone_names z c.for_ref-owner.result) c.args.met.now) (λ (b : Bool). b ≡ true → c.are_held.new.met ≡ record_marked z h ns r c.args.met.now) c.are_held.result
    (λ b e t. e t ∙ (ap (λ (name : List (List ℕ)). all_marked h ns (zone_names z name) c.args.met.now) o ∙ sym (marked_within z h ns r c.args.met.now n.region))) c.are_held.ensures.met

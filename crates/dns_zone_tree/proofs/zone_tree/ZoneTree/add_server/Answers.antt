use Rattle.std.proofs.Common.{◌≡◌, [], ◌∷◌, sym, ap, ◌∙◌}
use Rattle.std.specs.BTreeSet.{contains}
use Rattle.std.specs.List.{slice_get}
use Rattle.std.specs.Ordering.{nat_cmp}
use Rattle.dns_zone.specs.Owned.{ZoneState}
use Rattle.dns_zone.specs.Places.{at_places}
use Rattle.dns_zone_tree.specs.Kinds.{places_of}
use Rattle.dns_zone_tree.proofs.HostLaws.{no_glue, server_glue}
use Rattle.dns_zone_tree.proofs.KeptLaws.{on_ok}
use Rattle.dns_zone_tree.proofs.zone_tree.ZoneTree.add_server.Goals as goal

pub returns-in-Some : goal.returns-in-Some
returns-in-Some c =
    let z = c.args.self.now in
    let k = c.args.kind.now in
    let s = c.in-Some.server.now in
    let rs : c.as_slice.result.now ≡ z.records = c.as_slice.ensures.value ∙ ap (λ (x : ZoneState). x.records) c.self.view_is in
    let e : at_places z.records (places_of 2 (k ∷ [])) ≡ s ∷ [] = (λ i. at_places (sym rs i) (places_of (sym c.to_int.ensures.value i) (k ∷ []))) ∙ c.in-Some.ensures.value in
    on_ok c.add_target.result c.add_target.ensures
    (λ f i. server_glue z.records (places_of 2 (k ∷ [])) s (contains nat_cmp c.add_target.new.addresses i) (contains nat_cmp c.args.addresses.now i) (slice_get z.records i) e (f i))

pub returns-in-None : goal.returns-in-None
returns-in-None c = λ i.
    let z = c.args.self.now in
    let k = c.args.kind.now in
    let rs : c.as_slice.result.now ≡ z.records = c.as_slice.ensures.value ∙ ap (λ (x : ZoneState). x.records) c.self.view_is in
    let e : at_places z.records (places_of 2 (k ∷ [])) ≡ [] = (λ j. at_places (sym rs j) (places_of (sym c.to_int.ensures.value j) (k ∷ []))) ∙ c.in-None.ensures.value in
    no_glue z.records (places_of 2 (k ∷ [])) (contains nat_cmp c.args.addresses.now i) (slice_get z.records i) e

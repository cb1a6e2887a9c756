use Rattle.std.proofs.Common.{◌≡◌, ℕ, List, ap, sym, ◌∙◌}
use Rattle.std.specs.List.{list_any}
use Rattle.dns_zone_tree.specs.Kinds.{is_kind}
use Rattle.dns_zone_tree.specs.declared.kinds.TypedPlace.{TypedPlace}
use Rattle.dns_zone_tree.proofs.KindLaws.{kinds_any}
use Rattle.dns_zone_tree.proofs.kinds.Kinds.has.Goals as goal

pub returns-then-rtype-to_int : goal.returns-then-rtype-to_int
returns-then-rtype-to_int c =
    let m = c.args.self.now in
    let asked : c.args.rtype ≡ 2 = c.if-rtype-to_int.true ∙ c.to_int.ensures.value in
    kinds_any c.args.rtype m.places.items c.has_servers.result (c.has_servers.ensures ∙ ap (λ (t : ℕ). list_any (is_kind t) m.places.items) (sym asked))

pub returns-then-rtype-to_int-2 : goal.returns-then-rtype-to_int-2
returns-then-rtype-to_int-2 c =
    let m = c.args.self.now in
    let asked : c.args.rtype ≡ 39 = c.if-rtype-to_int-2.true ∙ c.to_int-2.ensures.value in
    kinds_any c.args.rtype m.places.items c.has_dname.result (c.has_dname.ensures ∙ ap (λ (t : ℕ). list_any (is_kind t) m.places.items) (sym asked))

pub returns : goal.returns
returns c = kinds_any c.args.rtype c.args.self.now.places.items c.has_kind.result (c.has_kind.ensures ∙ ap (λ (ks : List TypedPlace). list_any (is_kind c.args.rtype) ks) c.as_slice.ensures)

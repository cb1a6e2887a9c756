use Rattle.std.proofs.Common.{◌≡◌, ℕ, List, ◌∷◌, map, ap, sym, subst, ◌∙◌}
use Rattle.std.specs.Option.{option_copied}
use Rattle.dns_zone.specs.Places.{at_places}
use Rattle.dns_zone_tree.proofs.KeptLaws.{if_ok}
use Rattle.dns_zone_tree.specs.Kinds.{kind_places}
use Rattle.dns_zone_tree.specs.Walks.{IsNode}
use Rattle.dns_zone_tree.specs.Wildcards.{given_as, had_records, star, wildcard}
use Rattle.dns_signed_reply.proofs.NodeLaws.{wild_none, wild_some}
use Rattle.dns_signed_reply.proofs.records.of_missing.Goals as goal

pub returns-in-Some : goal.returns-in-Some
returns-in-Some c = λ u h.
    let z = c.args.zone.now in
    let n = c.args.name.now in
    let t = c.args.rtype in
    let e : star ∷ c.behind.result ≡ wildcard z n = ap (λ (x : List (List ℕ)). star ∷ x) (c.behind.ensures ∙ sym h.encloser_) in
    let f = subst (λ (x : List (List ℕ)). IsNode z x (option_copied c.in_ok-found.found)) e c.in_ok-found.ensures in
    if_ok (λ v. v.items ≡ map (given_as n) (at_places z.records (kind_places t c.in-Some.kinds.now))) (λ v. v.items ≡ had_records z n t) c.of_wildcard.result c.of_wildcard.ensures
    (λ v g. g ∙ wild_some z n u c.args.skipped h (option_copied c.in_ok-found.found) c.in-Some.kinds.now (ap option_copied c.in-Some.is) f t)

pub returns-in-None : goal.returns-in-None
returns-in-None c = λ u h.
    let z = c.args.zone.now in
    let n = c.args.name.now in
    let e : star ∷ c.behind.result ≡ wildcard z n = ap (λ (x : List (List ℕ)). star ∷ x) (c.behind.ensures ∙ sym h.encloser_) in
    let f = subst (λ (x : List (List ℕ)). IsNode z x (option_copied c.in_ok-found.found)) e c.in_ok-found.ensures in
    c.new.ensures.items ∙ wild_none z n u c.args.skipped h (option_copied c.in_ok-found.found) (ap option_copied c.in-None.is) f c.args.rtype

use Rattle.std.proofs.Common.{◌≡◌, ◌++◌, ◌∷◌, [], length, ap, refl, ◌∙◌}
use Rattle.dns_routes.proofs.PairLaws.{known_grown}
use Rattle.dns_routes.proofs.places.put_route.Goals as goal

pub returns-clause-known : goal.returns-clause-known
returns-clause-known g c =
    let ns = c.args.names.now.items in
    let ss = c.args.services.now.items in
    let r = c.args.route in
    let e = c.in_ok-place_next.ensures in
    let a : c.push_both.new.names.items ≡ ns ++ r.0 ∷ [] = c.push_both.ensures.names ∙ ap (λ l. l ++ r.0 ∷ []) e.names in
    let b : c.push_both.new.services.items ≡ ss ++ r.1 ∷ [] = c.push_both.ensures.services ∙ ap (λ l. l ++ r.1 ∷ []) e.services in
    known_grown ns ss c.push_both.new.names.items c.push_both.new.services.items r a b c.args.places.now c.place_next.new.places c.args.key.items (length ss) c.requires.paired c.requires.known c.requires.named refl e.ok

use Rattle.std.proofs.Common.{◌≡◌, ◌-◌, ◌++◌, ◌∷◌, [], length, ap, ◌∙◌, arith}
use Rattle.std.specs.Prelude.{max}
use Rattle.dns_routes.proofs.PairLaws.{routes_grown, zip_grown}
use Rattle.dns_routes.proofs.routes.Routes.put.Goals as goal

pub invariant_of-self-2 : goal.invariant_of-self-2
invariant_of-self-2 g c =
    let i = c.self.inside in
    let e = c.in_ok-put_route.ensures.ok in
    let l : c.label_count-labels.result - 1 ≡ length c.args.name = omega (arith, c.label_count-labels.ensures) in
    routes_grown i.names.items i.services.items c.put_route.new.names.items c.put_route.new.services.items (c.args.name, c.args.service) e.0 e.1 i.places c.put_route.new.places i.most c.max-self-inside.result c.self.invariant c.in_ok-put_route.ensures.known
    (c.max-self-inside.ensures ∙ ap (max i.most) l)

pub returns-clause-ok : goal.returns-clause-ok
returns-clause-ok g c =
    let i = c.self.inside in
    let e = c.in_ok-put_route.ensures.ok in
    zip_grown i.names.items i.services.items c.put_route.new.names.items c.put_route.new.services.items (c.args.name, c.args.service) e.0 e.1 c.self.invariant.paired
    ∙ ap (λ rs. rs ++ (c.args.name, c.args.service) ∷ []) c.self.view_is

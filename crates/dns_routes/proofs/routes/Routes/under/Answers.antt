use Rattle.std.proofs.Common.{◌≡◌, Some, ap, sym, ◌∙◌}
use Rattle.std.specs.Prelude.{option_map}
use Rattle.std.specs.List.{slice_get}
use Rattle.dns_routes.specs.Places.{last_under, place_under}
use Rattle.dns_routes.proofs.PairLaws.{copied_at, service_at}
use Rattle.dns_routes.proofs.routes.Routes.under.Goals as goal

pub returns-in-Some : goal.returns-in-Some
returns-in-Some g c =
    let i = c.self.inside in
    let o = c.args.key.now.items in
    let place = c.in-Some.place.now in
    let p : place_under i.places o ≡ Some place = sym c.in-Some.ensures.value in
    let found = c.get-in-Some.ensures.lookup in
    copied_at c.get-in-Some.result c.deref.result.now place found.3 found.1
    ∙ (ap (λ l. slice_get l place) c.deref.ensures.value
    ∙ (service_at i.names.items i.services.items i.places o place c.self.invariant.paired c.self.invariant.known p
    ∙ ap (λ rs. option_map (λ r. r.1) (last_under o rs)) c.self.view_is))

use Rattle.std.proofs.Common.{ap, ◌∙◌}
use Rattle.std.specs.Prelude.{option_map}
use Rattle.dns_routes.specs.Places.{last_under}
use Rattle.dns_routes.proofs.routes.Routes.named.Goals as goal

pub returns : goal.returns
returns g c = c.under.ensures ∙ ap (λ o. option_map (λ r. r.1) (last_under o c.args.self.now)) c.in_ok-key.ensures.ok

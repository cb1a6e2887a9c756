use Rattle.std.proofs.Common.{ap, ◌∙◌}
use Rattle.std.specs.Cmp.{both_ways}
use Rattle.dns_route.specs.Routes.{ends_name}
use Rattle.dns_hashed_zone.specs.HashedStates.{HashedState}
use Rattle.dns_hashed_zone.proofs.hashed_zone.HashedZone.is_in_zone.Goals as goal

pub returns : goal.returns
returns c =
    let name = c.args.name.now in
    let m = c.matches_are_suffixes.ensures name c.for_ref.result in
    both_ways c.ends_with.result (ends_name name c.for_ref.result) (λ e. m.1 (c.ends_with.ensures.0 e)) (λ e. c.ends_with.ensures.1 (m.0 e))
    ∙ ap (ends_name name) (c.for_ref.ensures.value ∙ (c.apex.ensures ∙ ap (λ (s : HashedState). s.zone.apex) c.self.view_is))

use Rattle.std.proofs.Common.{◌≡◌, List, Some, ap, sym, ◌∙◌}
use Rattle.std.proofs.lemmas.List.{nil_from_length}
use Rattle.dns_authority.specs.Authorities.{kept_bunches}
use Rattle.dns_authority.specs.ServedZones.{sent_by}
use Rattle.dns_networks.specs.declared.network.Network.{Network}
use Rattle.dns_authority.proofs.zones.kept_bunches.Goals as goal

pub returns-in_ok-bunches-in-Some : goal.returns-in_ok-bunches-in-Some
returns-in_ok-bunches-in-Some c = ap Some c.in_ok-bunches-in-Some.ensures ∙ ap (λ (l : List Network). kept_bunches l (sent_by c.args.zone.now)) (sym c.in-Some.ensures.cases.0)

pub returns-in-None : goal.returns-in-None
returns-in-None c = ap (λ (l : List Network). kept_bunches l (sent_by c.args.zone.now)) (sym (nil_from_length c.args.allowed.now c.in-None.ensures.cases))

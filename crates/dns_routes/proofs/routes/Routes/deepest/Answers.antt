use Rattle.std.proofs.Common.{◌≡◌, drop, ap, ◌∙◌}
use Rattle.dns_routes.specs.Places.{name_key}
use Rattle.dns_routes.proofs.PairLaws.{labels_behind}
use Rattle.dns_routes.proofs.routes.Routes.deepest.Goals as goal

pub folded_octets-requires : goal.folded_octets-requires
folded_octets-requires g c =
    labels_behind c.args.name.now c.behind.result c.args.skipped (c.behind.ensures ∙ ap (drop c.args.skipped) c.labels.ensures.value) c.labels.ensures.named.labels

pub deepest_in-requires-clause-octets : goal.deepest_in-requires-clause-octets
deepest_in-requires-clause-octets g c =
    let d : c.behind.result ≡ drop c.args.skipped c.args.name.now = c.behind.ensures ∙ ap (drop c.args.skipped) c.labels.ensures.value in
    c.deref.ensures.value ∙ (c.in_ok-octets.ensures ∙ ap name_key d)

pub deepest_in-requires-clause-rest : goal.deepest_in-requires-clause-rest
deepest_in-requires-clause-rest g c = c.behind-left.ensures ∙ ap (drop c.args.skipped) c.labels-2.ensures.value

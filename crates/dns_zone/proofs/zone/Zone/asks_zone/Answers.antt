use Rattle.std.proofs.Common.{◌≡◌, ap, ◌∙◌, arith, rules}
use Rattle.std.proofs.lemmas.Grind.{common_steps}
use Rattle.dns_route.specs.Routes.{ends_name}
use Rattle.dns_zone.specs.Owned.{ZoneState}
use Rattle.dns_zone.specs.Paths.{name_path}
use Rattle.dns_zone.proofs.PathLaws.{path_begins}
use Rattle.dns_zone.proofs.zone.Zone.asks_zone.Goals as goal

pub returns-then-eq : goal.returns-then-eq
returns-then-eq c =
    let z = c.args.self.now in
    let q = c.args.question.now in
    let p : c.as_slice.result.now ≡ name_path z.apex = c.as_slice.ensures.value ∙ (c.self.invariant.path_is ∙ ap (λ (s : ZoneState). name_path s.apex) c.self.view_is) in
    let w : c.starts_with-within.result ≡ ends_name q.qname z.apex = cc (path_begins q.qname z.apex, c.starts_with-within.ensures.value, c.requires, p) in
    first_of (search rules, grind (arith, common_steps))

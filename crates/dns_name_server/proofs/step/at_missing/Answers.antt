use Rattle.std.proofs.Common.{◌≡◌, ℕ, List, ◌∷◌, ap, sym, subst, ◌∙◌}
use Rattle.std.specs.Prelude.{Option}
use Rattle.std.specs.Option.{option_copied}
use Rattle.dns_zone.specs.ZoneReply.{ZoneReply}
use Rattle.dns_zone_tree.specs.Walks.{IsNode}
use Rattle.dns_zone_tree.specs.Wildcards.{star, wildcard}
use Rattle.dns_zone_tree.specs.declared.kinds.Kinds.{Kinds}
use Rattle.dns_name_server.specs.Steps.{behind, wired}
use Rattle.dns_name_server.proofs.StepLaws.{wild_nowhere}
use Rattle.dns_name_server.proofs.step.at_missing.Goals as goal

pub returns-in-Some : goal.returns-in-Some
returns-in-Some c =
    let z = c.args.zone.now in
    let n = c.args.name.now in
    let e : star ∷ c.behind.result ≡ wildcard z n = ap (λ (x : List (List ℕ)). star ∷ x) (c.behind.ensures ∙ sym c.requires.encloser_) in
    let f = subst (λ (x : List (List ℕ)). IsNode z x (option_copied c.in_ok-found.found)) e c.in_ok-found.ensures in
    c.at_wildcard.ensures c.args.skipped c.requires (subst (λ (o : Option Kinds). IsNode z (wildcard z n) o) (ap option_copied c.in-Some.is) f)

pub returns-in-None : goal.returns-in-None
returns-in-None c = λ go.
    let z = c.args.zone.now in
    let n = c.args.name.now in
    let e : star ∷ c.behind.result ≡ wildcard z n = ap (λ (x : List (List ℕ)). star ∷ x) (c.behind.ensures ∙ sym c.requires.encloser_) in
    let f = subst (λ (x : List (List ℕ)). IsNode z x (option_copied c.in_ok-found.found)) e c.in_ok-found.ensures in
    ap (λ (r : ZoneReply). behind c.args.given.now (wired r)) (sym (wild_nowhere z c.args.rtype n c.args.skipped c.requires go (option_copied c.in_ok-found.found) (ap option_copied c.in-None.is) f))

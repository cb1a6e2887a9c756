use Rattle.std.proofs.Common.{◌≡◌, ℕ, List, ◌∷◌, ap, sym, subst, ◌∙◌}
use Rattle.std.specs.Prelude.{Option}
use Rattle.std.specs.Option.{option_copied}
use Rattle.dns_zone.specs.ZoneReply.{ZoneReply, denied}
use Rattle.dns_zone_tree.proofs.KeptLaws.{if_ok}
use Rattle.dns_zone_tree.specs.Regions.{asked_region}
use Rattle.dns_zone_tree.specs.Walks.{IsNode}
use Rattle.dns_zone_tree.specs.Wildcards.{star, wildcard}
use Rattle.dns_zone_tree.specs.declared.kinds.Kinds.{Kinds}
use Rattle.dns_name_server.specs.NameServerReplies.{by_region}
use Rattle.dns_name_server.proofs.StepLaws.{wild_nowhere}
use Rattle.dns_signed_reply.specs.PlainReplies.{StepsTo, behind, step_reply}
use Rattle.dns_signed_reply.specs.declared.step.Step.{Step}
use Rattle.dns_signed_reply.proofs.step.at_missing.Goals as goal

pub returns-in-Some : goal.returns-in-Some
returns-in-Some c =
    let z = c.args.zone.now in
    let n = c.args.name.now in
    let e : star ∷ c.behind.result ≡ wildcard z n = ap (λ (x : List (List ℕ)). star ∷ x) (c.behind.ensures ∙ sym c.requires.encloser_) in
    let f = subst (λ (x : List (List ℕ)). IsNode z x (option_copied c.in_ok-found.found)) e c.in_ok-found.ensures in
    c.at_wildcard.ensures c.args.skipped c.requires (subst (λ (o : Option Kinds). IsNode z (wildcard z n) o) (ap option_copied c.in-Some.is) f)

pub returns-in-None : goal.returns-in-None
returns-in-None c =
    let z = c.args.zone.now in
    let t = c.args.rtype in
    let n = c.args.name.now in
    let old = c.args.given.now.items in
    let e : star ∷ c.behind.result ≡ wildcard z n = ap (λ (x : List (List ℕ)). star ∷ x) (c.behind.ensures ∙ sym c.requires.encloser_) in
    let f = subst (λ (x : List (List ℕ)). IsNode z x (option_copied c.in_ok-found.found)) e c.in_ok-found.ensures in
    if_ok (λ (s : Step). (go : List (List ℕ) → ZoneReply) → step_reply go s ≡ denied z 3) (λ (s : Step). StepsTo old old s (λ go. by_region z go t n (asked_region z t n))) c.no_such_name.result c.no_such_name.ensures
    (λ s g go. ap (behind old) (g go ∙ sym (wild_nowhere z t n c.args.skipped c.requires go (option_copied c.in_ok-found.found) (ap option_copied c.in-None.is) f)))

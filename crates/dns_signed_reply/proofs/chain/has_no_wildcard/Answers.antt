use Rattle.std.proofs.Common.{◌≡◌, ℕ, List, ◌∷◌, false, ap, sym, subst, ◌∙◌}
use Rattle.std.specs.Option.{option_copied}
use Rattle.dns_zone_tree.specs.Walks.{IsNode}
use Rattle.dns_zone_tree.specs.Wildcards.{star, wildcard}
use Rattle.dns_name_server.proofs.StepLaws.{wild_nowhere}
use Rattle.dns_signed_reply.specs.PlainReplies.{gives}
use Rattle.dns_signed_reply.proofs.NearLaws.{wild_denied}
use Rattle.dns_signed_reply.proofs.chain.has_no_wildcard.Goals as goal

pub returns-in-None : goal.returns-in-None
returns-in-None c = λ t h b.
    let z = c.args.zone.now in
    let n = c.args.name.now in
    let o = option_copied c.in_ok-found.found in
    let e : star ∷ c.behind.result ≡ wildcard z n = ap (λ (x : List (List ℕ)). star ∷ x) (c.behind.ensures ∙ sym h.encloser_) in
    let f = subst (λ (x : List (List ℕ)). IsNode z x o) e c.in_ok-found.ensures in
    let none = ap option_copied c.in-None.is in
    record {
      skipped = c.args.skipped;
      reached = h;
      nowhere = λ go. wild_nowhere z t n c.args.skipped h go o none f;
      both = wild_denied z t n c.args.skipped o false h f (sym (ap (gives t) none));
    }

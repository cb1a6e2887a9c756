use Rattle.std.proofs.Common.{◌≡◌, ℕ, List, Some, length, ap, subst, ◌∙◌}
use Rattle.std.specs.Prelude.{OnOk, if◌then◌else◌}
use Rattle.std.specs.Str.{bytes_eq}
use Rattle.dns_routes.specs.Places.{place_under}
use Rattle.dns_routes.proofs.places.place_next.Goals as goal

pub returns-clause-ok : goal.returns-clause-ok
returns-clause-ok g c =
    let n : c.len.result ≡ length c.args.services.now.items = c.len.ensures ∙ (c.reserve_both.new.services.ok.0 ∙ ap length c.in_ok-reserve_both.ensures.services) in
    subst (λ (k : ℕ). OnOk c.put.result ((o : List ℕ) → place_under c.put.new.places o ≡ (if bytes_eq c.args.key.items o then Some k else place_under c.args.places.now o))) n c.put.ensures.ok

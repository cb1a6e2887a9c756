-- The front inside takes the request as it is sized, and what a server says of itself stands after its rule.
use Rattle.std.proofs.Common.{◌≡◌, ◌∙◌, Option, ap, ℕ}
use Rattle.dns_layers.specs.Edns.{passed_by}
use Rattle.dns_fronts.specs.ServerReplies.{sized_request}
use Rattle.dns_fronts.proofs.ServerReplyLaws.{taken-so}
use Rattle.dns_fronts.proofs.server.ServerFrontFront.take.Goals as goal

pub returns-clause-taken : goal.returns-clause-taken
returns-clause-taken g c =
    let f = c.args.self.now in
    let r = c.args.request.now in
    let q = c.pass_on.new.request in
    let so : q ≡ sized_request r = c.pass_on.ensures ∙ ap (λ (n : Option ℕ). passed_by n r) c.size_of-size.ensures in
    taken-so g.F.Rule.Rewrite.rewriting (g.F.Front.over f.front) (g.F.Front.hint f.front) (g.F.Front.asks f.front) f.size f.secret r q c.take.new.request _
    c.cookie_for-cookie.result c.own_opt_of-opt.result c.new-post.result c.in_ok-taken.taken c.taken_behind.result so
    c.in_ok-taken.ensures.taken c.in_ok-taken.ensures.kept c.cookie_for-cookie.ensures c.own_opt_of-opt.ensures c.new-post.ensures c.taken_behind.ensures

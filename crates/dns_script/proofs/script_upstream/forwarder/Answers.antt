use Rattle.std.proofs.Common.{◌≡◌, ◌∙◌, List, [], ◌∷◌, ◌++◌, ap, arith, length, sym}
use Rattle.std.proofs.lemmas.Iterator.Adapters.{YieldsList-from_vec}
use Rattle.std.proofs.lemmas.Iterator.Consumers.{YieldsList-end}
use Rattle.std.proofs.lemmas.List.{map-id, map_push}
use Rattle.dns_route.specs.Routes.{Route}
use Rattle.dns_script.specs.declared.upstream.UpstreamLine.{UpstreamLine}
use Rattle.dns_script.specs.declared.upstream.UpstreamWord.{UpstreamWord}
use Rattle.dns_script.proofs.script_upstream.forwarder.Goals as goal

pub upstreams-preserved : goal.upstreams-preserved
upstreams-preserved c =
    let more = map_push (λ (u : UpstreamLine). let r : Route (List UpstreamWord) = (u.name, u.words) in r) c.upstreams.yielded c.in-Some.upstream in
    (tt, tt, c.in_ok-add.ensures ∙ (ap (λ us. us ++ (c.in-Some.upstream.name, c.in-Some.upstream.words) ∷ []) c.upstreams.invariant.2 ∙ sym more))

pub returns : goal.returns
returns c =
    let given = c.into_iter-upstream-iterator.ensures.into_iter_gives in
    let items : c.into_iter-upstream-iterator.result.rest.items ≡ c.into_vec-upstream-items.result.items = given.0 in
    let many : c.into_iter-upstream-iterator.result.rest.len ≡ length c.into_vec-upstream-items.result.items = omega (arith, given.1, c.into_vec-upstream-items.result.ok) in
    let ends = YieldsList-end (YieldsList-from_vec c.args.upstreams (items ∙ c.into_vec-upstream-items.ensures) (many ∙ ap length c.into_vec-upstream-items.ensures)) c.upstreams.yielded c.upstreams.upstream-iterator c.upstreams.yielded_by c.next.result c.next.new.self c.in-None.is c.next.ensures.steps in
    let all : c.upstreams.yielded ≡ c.args.upstreams = sym (map-id c.upstreams.yielded) ∙ ends.0 in
    rw all at c.upstreams.invariant.2

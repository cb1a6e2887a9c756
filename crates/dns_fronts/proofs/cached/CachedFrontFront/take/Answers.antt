-- The layers decide, and the cache answers a request that they pass on if it has a young reply.
use Rattle.std.proofs.Common.{◌∙◌, ap, subst, sym}
use Rattle.std.proofs.lemmas.Result.{IfOk-weaker}
use Rattle.dns_service.specs.Req.{Req}
use Rattle.dns_middleware.specs.declared.wrap_post.WrapPost.{WrapPost}
use Rattle.dns_middleware.specs.WrappedStreams.{wrap_by}
use Rattle.dns_proxy.specs.declared.front.Taken.{Taken}
use Rattle.dns_proxy.specs.Fronts.{IsTaken}
use Rattle.dns_fronts.specs.Caching.{cached_asks, cached_over, looked_up, taken_by}
use Rattle.dns_fronts.specs.Layered.{sendable}
use Rattle.dns_fronts.specs.Passed.{IsDecided, passed_unless}
use Rattle.dns_fronts.specs.Required.{settings_for}
use Rattle.dns_fronts.proofs.LayersOverCache.{behind-passed, on-ok, on-passed, own-behind, own-cached}
use Rattle.dns_fronts.proofs.cached.CachedFrontFront.take.Goals as goal

pub returns-in-Own-clause-taken : goal.returns-in-Own-clause-taken
returns-in-Own-clause-taken c =
    let f = c.args.self.now in
    let r = c.args.request.now in
    let s = settings_for f.front r in
    own-cached s f.cache r c.in-Own.item (subst (IsDecided s r) c.in-Own.is c.in_ok-decided.ensures.taken)

pub returns-in-Own-clause-after : goal.returns-in-Own-clause-after
returns-in-Own-clause-after c =
    let f = c.args.self.now in
    let r = c.args.request.now in
    let s = settings_for f.front r in
    let behind = own-behind s f.cache r c.in-Own.item (subst (IsDecided s r) c.in-Own.is c.in_ok-decided.ensures.taken) in
    λ i. record { front = f.front; cache = behind i }

pub returns-in-Passed-clause-taken : goal.returns-in-Passed-clause-taken
returns-in-Passed-clause-taken c =
    let f = c.args.self.now in
    let r = c.args.request.now in
    let s = settings_for f.front r in
    let taken = on-passed s f.cache r c.in-Passed.rule (sendable r.octets) (subst (IsDecided s r) c.in-Passed.is c.in_ok-decided.ensures.taken) in
    IfOk-weaker c.passed.result _ _ (λ t is.
    subst (λ (x : Taken WrapPost). IsTaken wrap_by (λ i. cached_over s f.cache i r) (cached_asks s f.cache r) x)
    (sym (is ∙ ap (λ (q : Req (Unit {0})). passed_unless c.in-Passed.rule (sendable q.octets) (looked_up f.cache q).cached) c.in_ok-decided.ensures.kept)) taken) c.passed.ensures.taken

pub returns-in-Passed-clause-after : goal.returns-in-Passed-clause-after
returns-in-Passed-clause-after c =
    let f = c.args.self.now in
    let r = c.args.request.now in
    let s = settings_for f.front r in
    let behind = behind-passed s f.cache r c.in-Passed.rule (sendable r.octets) (subst (IsDecided s r) c.in-Passed.is c.in_ok-decided.ensures.taken) in
    let kept = ap (λ (q : Req (Unit {0})). taken_by (sendable q.octets) f.cache (looked_up f.cache q).behind) c.in_ok-decided.ensures.kept ∙ behind in
    IfOk-weaker c.passed.result _ _ (λ _ is. is ∙ (λ i. record { front = f.front; cache = kept i })) c.passed.ensures.cache

pub returns-in-Passed-clause-kept : goal.returns-in-Passed-clause-kept
returns-in-Passed-clause-kept c = on-ok c.passed.result c.in_ok-decided.ensures.kept

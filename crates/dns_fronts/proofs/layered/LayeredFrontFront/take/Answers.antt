-- What the layers decide, and what is asked for a request that they pass on.
use Rattle.std.proofs.Common.{◌∙◌, ap, subst, sym}
use Rattle.std.proofs.lemmas.Result.{IfOk-weaker}
use Rattle.dns_service.specs.Req.{Req}
use Rattle.dns_middleware.specs.declared.wrap_post.WrapPost.{WrapPost}
use Rattle.dns_middleware.specs.WrappedStreams.{wrap_by}
use Rattle.dns_proxy.specs.declared.front.Taken.{Taken}
use Rattle.dns_proxy.specs.Fronts.{IsTaken}
use Rattle.dns_fronts.specs.Layered.{asked_message, layered, sendable}
use Rattle.dns_fronts.specs.Passed.{IsDecided, passed_to}
use Rattle.dns_fronts.specs.Required.{settings_for}
use Rattle.dns_fronts.proofs.layered.LayeredFrontFront.take.Goals as goal

pub returns-in-Own-clause-taken : goal.returns-in-Own-clause-taken
returns-in-Own-clause-taken c =
    let r = c.args.request.now in
    subst (IsDecided (settings_for c.args.self.now r) r) c.in-Own.is c.in_ok-decided.ensures.taken

pub returns-in-Passed-clause-taken : goal.returns-in-Passed-clause-taken
returns-in-Passed-clause-taken c =
    let r = c.args.request.now in
    let s = settings_for c.args.self.now r in
    let taken = subst (IsDecided s r) c.in-Passed.is c.in_ok-decided.ensures.taken in
    IfOk-weaker c.pass.result _ _ (λ t is.
    subst (λ (x : Taken WrapPost). IsTaken wrap_by (λ i. layered s i r) (asked_message s r) x)
    (sym (is ∙ ap (λ (q : Req (Unit {0})). passed_to c.in-Passed.post (sendable q.octets)) c.in_ok-decided.ensures.kept)) taken) c.pass.ensures

-- The layers take a request by what they decide.
use Rattle.std.proofs.Common.{◌≡◌, Ok, subst, sym}
use Rattle.std.proofs.lemmas.Result.{IfOk-weaker}
use Rattle.dns_layers.specs.declared.no_secondaries.NoSecondaries.{NoSecondaries}
use Rattle.dns_middleware.specs.Wrapped.{gate}
use Rattle.dns_middleware.specs.WrappedStreams.{wrap_by}
use Rattle.dns_decide.specs.declared.decision.Decision.{Decision}
use Rattle.dns_decide.specs.Decided.{AnswersReplies, is_pass, is_passed}
use Rattle.dns_proxy.specs.declared.front.Taken.TheVariants.{Own}
use Rattle.dns_service.specs.declared.service.CallResult.{CallResult}
use Rattle.dns_proxy.specs.Fronts.{IsTaken}
use Rattle.dns_fronts.specs.Layered.{asked_message, layered, no_verdict, no_zones}
use Rattle.dns_fronts.specs.Passed.{IsDecided}
use Rattle.dns_fronts.proofs.LayerDecisions.{notice-taken, own-taken, pass-taken}
use Rattle.dns_fronts.proofs.layered.decided_by.Goals as goal

pub returns-in-Ok-Own-clause-taken : goal.returns-in-Ok-Own-clause-taken
returns-in-Ok-Own-clause-taken c =
    let s = c.args.settings.now in
    let r = c.args.request.now in
    let taken = own-taken s r c.in-Ok-Own.reply
    (subst (λ (d : Decision NoSecondaries). AnswersReplies no_verdict s no_zones r d) c.in-Ok-Own.field-0-is c.in-Ok-Own.ensures.answers)
    (subst (λ (d : Decision NoSecondaries). is_passed d ≡ is_pass (gate s r)) c.in-Ok-Own.field-0-is c.in-Ok-Own.ensures.passes) in
    subst (λ (x : CallResult). IsTaken wrap_by (λ i. layered s i r) (asked_message s r) (Own (Ok x))) (sym c.new.ensures) taken

pub returns-in-Ok-Asking-clause-taken : goal.returns-in-Ok-Asking-clause-taken
returns-in-Ok-Asking-clause-taken c =
    let s = c.args.settings.now in
    let r = c.args.request.now in
    let taken = notice-taken s r c.in-Ok-Asking.stream c.in-Ok-Asking.post
    (subst (λ (d : Decision NoSecondaries). AnswersReplies no_verdict s no_zones r d) c.in-Ok-Asking.field-0-is c.in-Ok-Asking.ensures.answers)
    (subst (λ (d : Decision NoSecondaries). is_passed d ≡ is_pass (gate s r)) c.in-Ok-Asking.field-0-is c.in-Ok-Asking.ensures.passes) in
    IfOk-weaker c.refused_notice.result _ _ (λ d is. subst (IsDecided s r) (sym is) taken) c.refused_notice.ensures

pub returns-in-Ok-Passed-clause-taken : goal.returns-in-Ok-Passed-clause-taken
returns-in-Ok-Passed-clause-taken c =
    let s = c.args.settings.now in
    let r = c.args.request.now in
    pass-taken s r c.in-Ok-Passed.post
    (subst (λ (d : Decision NoSecondaries). AnswersReplies no_verdict s no_zones r d) c.in-Ok-Passed.field-0-is c.in-Ok-Passed.ensures.answers)
    (subst (λ (d : Decision NoSecondaries). is_passed d ≡ is_pass (gate s r)) c.in-Ok-Passed.field-0-is c.in-Ok-Passed.ensures.passes)

use Rattle.std.proofs.Common.{◌≡◌, ℕ, List, Some, ap, sym, subst, ◌∙◌}
use Rattle.dns_message.specs.declared.header.Header.{Header}
use Rattle.dns_base.specs.Header.{header_of}
use Rattle.dns_base.specs.Wire.{wire}
use Rattle.dns_fronts.specs.Layered.{AsksAlone, lone_question}
use Rattle.dns_fronts.proofs.LoneQuestions.{sent_alone}
use Rattle.dns_fronts.proofs.sendable.sendable.Goals as goal

pub returns-in_ok-sent-in-Some : goal.returns-in_ok-sent-in-Some
returns-in_ok-sent-in-Some c =
    let o = c.args.request.now.octets in
    let q = c.in-Some.question in
    let asks : AsksAlone o q = subst (λ (m : List ℕ). AsksAlone m q) (c.deref.ensures ∙ c.message-message.ensures) c.in-Some.ensures in
    let says = c.in_ok-sent-in-Some.ensures in
    ap (λ (m : List ℕ). Some m)
    (says.value ∙ ap (λ (h : Header). wire (lone_question h q)) (c.header.ensures ∙ ap header_of (c.deref-in-Some.ensures ∙ c.message-message.ensures)))
    ∙ sym (sent_alone o q asks says.named)

use Rattle.std.proofs.Common.{[], sym}
use Rattle.std.proofs.lemmas.Result.{IfOk-weaker}
use Rattle.dns_forward.specs.Asked.{Inquiry}
use Rattle.dns_script.proofs.script_upstream.asked.Goals as goal

pub returns : goal.returns
returns c =
    let q : Inquiry = record { message = c.args.message; id = c.args.id; tries = 2; timeout = 1; at = 0 } in
    IfOk-weaker c.ask_all.result _ _ (λ os heard. sym (heard q [] c.in_ok-asking.ensures)) c.ask_all.ensures

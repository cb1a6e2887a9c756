use Rattle.std.proofs.Common.{◌≡◌, [], ◌∷◌, ◌++◌, ap, ◌∙◌}
use Rattle.dns_signed_reply.proofs.StepLaws.{denied_is}
use Rattle.dns_signed_reply.proofs.plain.denied.Goals as goal

pub returns : goal.returns
returns c =
    let e : c.push.new.self.items ≡ c.in_ok-copy.copy ∷ [] = c.in_ok-push.ensures.items ∙ ap (λ l. l ++ c.in_ok-copy.copy ∷ []) c.new-authority.ensures.items in
    denied_is c.args.zone.now c.args.rcode c.negative-negative.result.now c.in_ok-copy.copy c.new-answers.result.items c.push.new.self.items c.new-additional.result.items c.negative-negative.ensures.value c.in_ok-copy.ensures.value e c.new-answers.ensures.items c.new-additional.ensures.items

use Rattle.std.proofs.Common.{◌≡◌, Some, ap, sym, ◌∙◌}
use Rattle.std.specs.Arc.{arc_value}
use Rattle.dns_signing.proofs.Followed.{said_by}
use Rattle.dns_key_access.specs.Access.{access_refusal}
use Rattle.dns_key_access.specs.Layer.{answer_by}
use Rattle.dns_key_access.proofs.layer.KeyAccessSvcServiceOptionUsize.call.Goals as goal

pub returns-in-Some-clause-answers : goal.returns-in-Some-clause-answers
returns-in-Some-clause-answers g c =
    let r = c.args.request.now in
    let found : Some c.in-Some.code ≡ access_refusal (arc_value c.args.self.now.access) r = sym c.in-Some.is ∙ (c.refusal.ensures ∙ ap (λ a. access_refusal a r) c.deref.ensures) in
    said_by _ _ _ _ (ap (λ x k. answer_by (g.S.Service.answer c.args.self.now.next) r k x) found) c.refuse.ensures

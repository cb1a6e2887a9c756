use Rattle.std.proofs.Common.{◌≡◌, [], Some, ap, sym, ◌∙◌}
use Rattle.std.specs.Arc.{arc_value}
use Rattle.dns_tsig.specs.Verdicts.{message_refusal}
use Rattle.dns_signing.specs.Layer.{clock, policy, refusal_of, sole, verified}
use Rattle.dns_signing.specs.Refused.{refusal_reply}
use Rattle.dns_signing.proofs.Followed.{said_by}
use Rattle.dns_signing.proofs.tsig_layer.TsigMiddlewareSvc.judge.Goals as goal

pub returns-in-Err : goal.returns-in-Err
returns-in-Err g c =
    let p = policy c.args.self.now.keys c.args.self.now.least c.args.self.now.fudge in
    let r = c.args.request.now in
    let s = c.args.signed.now in
    let key = arc_value c.args.key.now in
    let error = c.in-Err.error in
    let found : message_refusal key p.least (clock r) [] s ≡ Some error =
    ap (λ x. message_refusal x p.least (clock r) [] s) (sym c.deref.ensures) ∙ (ap (λ x. message_refusal c.deref.result.now p.least x [] s) (sym c.clock.ensures.value) ∙ c.in-Err.ensures) in
    let own = ap (λ x. sole (refusal_reply (refusal_of p.fudge r s) x error)) c.deref-in-Err.ensures in
    let e = ap (λ x. verified (g.S.Service.answer c.args.self.now.next) (g.S.Service.hint c.args.self.now.next) p r s c.args.number key x) (sym found) in
    said_by _ _ _ _ (own ∙ e) c.refuse.ensures

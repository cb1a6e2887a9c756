use Rattle.std.proofs.Common.{◌≡◌, ap, sym, ◌∙◌}
use Rattle.dns_tsig.specs.Found.{found}
use Rattle.dns_signing.specs.Layer.{by_octets, policy}
use Rattle.dns_signing.proofs.Followed.{said_by}
use Rattle.dns_signing.proofs.tsig_layer.TsigMiddlewareSvc.answered.Goals as goal

pub returns-in-Ok : goal.returns-in-Ok
returns-in-Ok g c =
    let p = policy c.args.self.now.keys c.args.self.now.least c.args.self.now.fudge in
    let o : c.as_slice.result.now ≡ c.args.request.now.octets = c.as_slice.ensures.value ∙ (c.deref.ensures ∙ c.message.ensures) in
    let e = ap (λ x. by_octets (g.S.Service.answer c.args.self.now.next) (g.S.Service.hint c.args.self.now.next) p c.args.request.now x) (sym c.in-Ok.is ∙ (c.find.ensures ∙ ap found o)) in
    said_by _ _ _ _ e c.given.ensures

pub returns-in-Err : goal.returns-in-Err
returns-in-Err g c =
    let p = policy c.args.self.now.keys c.args.self.now.least c.args.self.now.fudge in
    let o : c.as_slice.result.now ≡ c.args.request.now.octets = c.as_slice.ensures.value ∙ (c.deref.ensures ∙ c.message.ensures) in
    let e = ap (λ x. by_octets (g.S.Service.answer c.args.self.now.next) (g.S.Service.hint c.args.self.now.next) p c.args.request.now x) (sym c.in-Err.is ∙ (c.find.ensures ∙ ap found o)) in
    said_by _ _ _ _ e c.plain.ensures

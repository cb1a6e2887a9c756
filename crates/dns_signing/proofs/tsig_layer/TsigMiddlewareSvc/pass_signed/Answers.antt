use Rattle.std.proofs.Common.{◌≡◌, ℕ, ap, ◌∙◌}
use Rattle.std.specs.Arc.{arc_value}
use Rattle.dns_service.specs.Transport.{hint_of, hinted}
use Rattle.dns_signing.specs.Layer.{policy, signer_of, taken_off}
use Rattle.dns_signing.proofs.Followed.{carried}
use Rattle.dns_signing.proofs.Hints.{signer_kept}
use Rattle.dns_signing.proofs.tsig_layer.TsigMiddlewareSvc.pass_signed.Goals as goal

pub returns : goal.returns
returns g c =
    let next = c.args.self.now.next in
    let r = c.args.request.now in
    let sg = c.args.signed.now in
    let n = c.args.number in
    let key = arc_value c.args.key.now in
    let p = policy c.args.self.now.keys c.args.self.now.least c.args.self.now.fudge in
    let inner = c.in_ok-inner.inner in
    let i : inner ≡ taken_off r sg n = c.in_ok-inner.ensures in
    let h : (k : ℕ) → g.S.Future.ReplyFuture.answer c.in_ok-future.future k ≡ g.S.Service.answer next (taken_off r sg n) k = λ k. c.in_ok-future.ensures.answers k ∙ ap (λ x. g.S.Service.answer next x k) i in
    let x : c.hint-hint.result ≡ hint_of (hinted (g.S.Service.hint next inner) inner.transport) = c.hint-hint.ensures ∙ ap hint_of (c.transport_ctx.ensures ∙ ap (λ q. q.transport) c.in_ok-future.ensures.kept) in
    let s = c.in_ok-signer.ensures ∙ (signer_kept p key r sg c.hint-hint.result (g.S.Service.hint next inner) inner.transport x (ap (λ q. q.transport) i) ∙ ap (λ q. signer_of p key r sg (g.S.Service.hint next q)) i) in
    carried _ (g.S.Future.ReplyFuture.answer c.in_ok-future.future) _ c.in_ok-signer.signer _ c.new.ensures.answers h s

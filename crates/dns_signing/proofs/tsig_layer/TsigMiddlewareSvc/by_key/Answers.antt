use Rattle.std.proofs.Common.{◌≡◌, Some, None, ap, ◌∙◌}
use Rattle.std.specs.Arc.{arc_value}
use Rattle.dns_tsig.specs.Keys.{key_for}
use Rattle.dns_signing.specs.Layer.{by_key, policy}
use Rattle.dns_signing.proofs.Followed.{said_by}
use Rattle.dns_signing.proofs.tsig_layer.TsigMiddlewareSvc.by_key.Goals as goal

pub returns-in-Some : goal.returns-in-Some
returns-in-Some g c =
    let p = policy c.args.self.now.keys c.args.self.now.least c.args.self.now.fudge in
    let s = c.args.signed.now in
    let found : Some (c.in-Some.number, arc_value c.in-Some.key.now) ≡ key_for p.keys s.tsig = (rw c.in-Some.is at c.get.ensures) ∙ ap (key_for p.keys) c.tsig.ensures in
    let e = ap (λ x. by_key (g.S.Service.answer c.args.self.now.next) (g.S.Service.hint c.args.self.now.next) p c.args.request.now s x) found in
    said_by _ _ _ _ e c.judge.ensures

pub returns-in-None : goal.returns-in-None
returns-in-None g c =
    let p = policy c.args.self.now.keys c.args.self.now.least c.args.self.now.fudge in
    let s = c.args.signed.now in
    let found : None ≡ key_for p.keys s.tsig = (rw c.in-None.is at c.get.ensures) ∙ ap (key_for p.keys) c.tsig.ensures in
    let e = ap (λ x. by_key (g.S.Service.answer c.args.self.now.next) (g.S.Service.hint c.args.self.now.next) p c.args.request.now s x) found in
    said_by _ _ _ _ e c.unknown.ensures

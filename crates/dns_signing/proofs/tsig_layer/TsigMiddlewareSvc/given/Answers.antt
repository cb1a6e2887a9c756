use Rattle.std.proofs.Common.{Ok, ap, sym}
use Rattle.dns_signing.specs.Layer.{by_octets, policy}
use Rattle.dns_signing.proofs.Followed.{said_by}
use Rattle.dns_signing.proofs.tsig_layer.TsigMiddlewareSvc.given.Goals as goal

pub returns-in-Some : goal.returns-in-Some
returns-in-Some g c =
    let p = policy c.args.self.now.keys c.args.self.now.least c.args.self.now.fudge in
    let e = ap (λ x. by_octets (g.S.Service.answer c.args.self.now.next) (g.S.Service.hint c.args.self.now.next) p c.args.request.now (Ok x)) (sym c.in-Some.is) in
    said_by _ _ _ _ e c.by_key.ensures

pub returns-in-None : goal.returns-in-None
returns-in-None g c =
    let p = policy c.args.self.now.keys c.args.self.now.least c.args.self.now.fudge in
    let e = ap (λ x. by_octets (g.S.Service.answer c.args.self.now.next) (g.S.Service.hint c.args.self.now.next) p c.args.request.now (Ok x)) (sym c.in-None.is) in
    said_by _ _ _ _ e c.pass.ensures

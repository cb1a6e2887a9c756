use Rattle.std.proofs.Common.{Bool, true, subst}
use Rattle.dns_route.specs.declared.reply.Source.{Source}
use Rattle.dns_route.specs.ReplyMessage.{ReplyState}
use Rattle.dns_route.specs.Sources.{KeepsBuilt}
use Rattle.dns_route.proofs.reply.ReplyMessage.into_builder.Goals as goal

pub returns-in-Built : goal.returns-in-Built
returns-in-Built c =
    let i = c.self.inside in
    let kept = subst (λ (r : ReplyState). KeepsBuilt r i.source i.is_built) c.self.view_is c.self.invariant in
    let whole = subst (λ (b : Bool). KeepsBuilt c.args.self i.source b) c.if-not-self.false kept in
    subst (λ (s : Source). KeepsBuilt c.args.self s true) c.in-Built.is whole

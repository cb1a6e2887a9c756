use Rattle.std.proofs.Common.{◌≡◌, Ok, ap, sym, subst, ◌∙◌}
use Rattle.std.specs.Prelude.{IfOk}
use Rattle.dns_base.specs.Msg.{Msg}
use Rattle.dns_base.specs.Sections.{message_of}
use Rattle.dns_service.specs.LastOpt.{and_opt}
use Rattle.dns_route.specs.ReplyMessage.{ReplyState, reply_message}
use Rattle.dns_cache.specs.Aged.{aged}
use Rattle.dns_cache.specs.AskedCache.{KeptReply, bare_octets}
use Rattle.dns_cache.proofs.cached_reply.CachedReply.reply.Goals as goal

pub returns-in-None-clause-message : goal.returns-in-None-clause-message
returns-in-None-clause-message c =
    let i = c.self.inside in
    let m : message_of i.message ≡ c.args.self.now.message = ap (and_opt (message_of i.message)) (sym c.in-None.is) ∙ ap (λ (r : KeptReply). r.message) c.self.view_is in
    subst (λ (x : Msg). IfOk c.built_reply.result (λ (r : ReplyState). reply_message r ≡ Ok (aged x c.args.request.now c.args.age))) m c.built_reply.ensures.message

pub returns-in-None-clause-octets : goal.returns-in-None-clause-octets
returns-in-None-clause-octets c =
    let i = c.self.inside in
    let m : message_of i.message ≡ c.args.self.now.message = ap (and_opt (message_of i.message)) (sym c.in-None.is) ∙ ap (λ (r : KeptReply). r.message) c.self.view_is in
    subst (λ (x : Msg). IfOk c.built_reply.result (λ (r : ReplyState). r.octets ≡ bare_octets (aged x c.args.request.now c.args.age))) m c.built_reply.ensures.octets

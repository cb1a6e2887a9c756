use Rattle.std.proofs.Common.{◌≡◌, ap, sym, ◌∙◌}
use Rattle.std.proofs.lemmas.Result.{IfOk-weaker}
use Rattle.dns_base.specs.Built.{Built}
use Rattle.dns_base.specs.Msg.{Msg}
use Rattle.dns_base.specs.Sections.{message_of}
use Rattle.dns_service.specs.LastOpt.{and_opt}
use Rattle.dns_cache.specs.Aged.{aged}
use Rattle.dns_cache.specs.AskedCache.{KeptReply}
use Rattle.dns_cache.proofs.ReplyLaws.{composes_short, same_message}
use Rattle.dns_cache.proofs.cached_reply.CachedReply.message_for.Goals as goal

pub composed-requires : goal.composed-requires
composed-requires c = composes_short _ (aged c.args.self.now.message c.args.request.now c.args.age) c.in_ok-reply-in-Some.ensures.message c.requires.fits

pub returns-in_ok-reply-in-Some : goal.returns-in_ok-reply-in-Some
returns-in_ok-reply-in-Some c =
    IfOk-weaker c.composed.result _ _ (λ b is. same_message b.message (aged c.args.self.now.message c.args.request.now c.args.age) _ is c.in_ok-reply-in-Some.ensures.message) c.composed.ensures

pub returns-in-None : goal.returns-in-None
returns-in-None c =
    let i = c.self.inside in
    let m : message_of i.message ≡ c.args.self.now.message = ap (and_opt (message_of i.message)) (sym c.in-None.is) ∙ ap (λ (r : KeptReply). r.message) c.self.view_is in
    IfOk-weaker c.built_message.result _ _ (λ b is. ap (λ (x : Built). x.message) is ∙ ap (λ (x : Msg). aged x c.args.request.now c.args.age) m) c.built_message.ensures

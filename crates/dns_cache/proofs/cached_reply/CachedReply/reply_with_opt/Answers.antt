use Rattle.std.proofs.Common.{◌≡◌, Option, Ok, ap, ◌∙◌}
use Rattle.dns_base.specs.Msg.{Msg}
use Rattle.dns_base.specs.Sections.{message_of}
use Rattle.dns_base.specs.Wire.{wire}
use Rattle.dns_opt.specs.OptRecords.{OptState}
use Rattle.dns_service.specs.LastOpt.{and_opt}
use Rattle.dns_route.specs.ReplyMessage.{ReplyState, reply_message}
use Rattle.dns_cache.specs.Aged.{aged}
use Rattle.dns_cache.specs.AskedCache.{KeptReply, bare_octets}
use Rattle.dns_cache.proofs.ReplyLaws.{bare_aged, reply_aged}
use Rattle.dns_cache.proofs.cached_reply.CachedReply.reply_with_opt.Goals as goal

pub returns-clause-message : goal.returns-clause-message
returns-clause-message c =
    let i = c.self.inside in
    let request = c.args.request.now in
    let age = c.args.age in
    let o : c.in_ok-opt.opt ≡ i.opt = c.in_ok-opt.ensures ∙ c.as_ref.ensures.value in
    let e : c.of.result ≡ wire (aged (message_of i.message) request age) = c.of.ensures ∙ c.in_ok-octets.ensures.octets in
    let m : and_opt (message_of i.message) i.opt ≡ c.args.self.now.message = ap (λ (r : KeptReply). r.message) c.self.view_is in
    ap reply_message c.of-2.ensures
    ∙ (ap (λ (x : Option OptState). reply_message (record { octets = c.of.result; opt = x })) o
    ∙ (reply_aged i.message i.start i.marks.items c.self.invariant.0 i.opt request age c.of.result e c.in_ok-octets.ensures.lawful
    ∙ ap (λ (x : Msg). Ok (aged x request age)) m))

pub returns-clause-octets : goal.returns-clause-octets
returns-clause-octets c =
    let i = c.self.inside in
    let request = c.args.request.now in
    let age = c.args.age in
    let e : c.of.result ≡ wire (aged (message_of i.message) request age) = c.of.ensures ∙ c.in_ok-octets.ensures.octets in
    let m : and_opt (message_of i.message) i.opt ≡ c.args.self.now.message = ap (λ (r : KeptReply). r.message) c.self.view_is in
    ap (λ (r : ReplyState). r.octets) c.of-2.ensures
    ∙ (e ∙ (bare_aged i.message i.start i.marks.items c.self.invariant.0 i.opt request age c.in_ok-octets.ensures.lawful
    ∙ ap (λ (x : Msg). bare_octets (aged x request age)) m))

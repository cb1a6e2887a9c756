use Rattle.std.proofs.Common.{◌≡◌, ℕ, ◌+◌, ◌-◌, List, length, ap, ◌∙◌}
use Rattle.dns_base.specs.Msg.{Msg}
use Rattle.dns_base.specs.Sections.{message_of}
use Rattle.dns_base.specs.Wire.{question_octets, wire}
use Rattle.dns_service.specs.LastOpt.{and_opt}
use Rattle.dns_cache.specs.Aged.{aged}
use Rattle.dns_cache.specs.AskedCache.{KeptReply}
use Rattle.dns_cache.proofs.ReplyLaws.{size_kept}
use Rattle.dns_cache.proofs.cached_reply.CachedReply.size_with.Goals as goal

pub returns : goal.returns
returns c = λ request age e.
    let i = c.self.inside in
    let q = c.args.question.now in
    let m : and_opt (message_of i.message) i.opt ≡ c.args.self.now.message = ap (λ (r : KeptReply). r.message) c.self.view_is in
    ap (λ (n : ℕ). 12 + n + (length c.as_slice.result.now - i.start) + c.opt_size.result) c.compose_len.ensures.value
    ∙ (ap (λ (x : List ℕ). 12 + length (question_octets q) + (length x - i.start) + c.opt_size.result) c.as_slice.ensures.value
    ∙ (ap (λ (n : ℕ). 12 + length (question_octets q) + (length i.message - i.start) + n) c.opt_size.ensures.value
    ∙ (size_kept i.message i.start i.marks.items c.self.invariant.0 i.opt q request age e ∙ ap (λ (x : Msg). length (wire (aged x request age))) m)))

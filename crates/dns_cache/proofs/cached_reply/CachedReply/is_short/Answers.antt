use Rattle.std.proofs.Common.{◌≡◌, ℕ, ◌+◌, ◌-◌, ◌≤◌, true, List, length, ap, subst, ◌∙◌}
use Rattle.std.specs.Prelude.{is_ok}
use Rattle.std.proofs.lemmas.Bool.{leb-true}
use Rattle.dns_base.specs.Msg.{Msg}
use Rattle.dns_base.specs.Sections.{message_of}
use Rattle.dns_base.specs.Wire.{wire}
use Rattle.dns_service.specs.Copied.{copied}
use Rattle.dns_service.specs.LastOpt.{and_opt}
use Rattle.dns_cache.specs.Aged.{aged}
use Rattle.dns_cache.specs.AskedCache.{KeptReply, fits_frame}
use Rattle.dns_cache.specs.Marks.{opt_size}
use Rattle.dns_cache.proofs.ReplyLaws.{readable_kept, short_kept}
use Rattle.dns_cache.proofs.cached_reply.CachedReply.is_short.Goals as goal

pub returns-clause-fits : goal.returns-clause-fits
returns-clause-fits c = λ short q request age n e.
    let i = c.self.inside in
    let m : and_opt (message_of i.message) i.opt ≡ c.args.self.now.message = ap (λ (r : KeptReply). r.message) c.self.view_is in
    let size : (length c.as_slice.result.now - i.start) + c.opt_size.result ≡ (length i.message - i.start) + opt_size i.opt =
    ap (λ (x : List ℕ). (length x - i.start) + c.opt_size.result) c.as_slice.ensures.value ∙ ap (λ (k : ℕ). (length i.message - i.start) + k) c.opt_size.ensures.value in
    let few : (length i.message - i.start) + opt_size i.opt ≤ 65264 = subst (λ (k : ℕ). k ≤ 65264) size (leb-true _ _ short) in
    subst (λ (x : Msg). fits_frame (aged x request age) ≡ true) m (short_kept i.message i.start i.marks.items c.self.invariant.0 i.opt q request age n e few)

pub returns-clause-readable : goal.returns-clause-readable
returns-clause-readable c = λ q request age n e h.
    let i = c.self.inside in
    let m : and_opt (message_of i.message) i.opt ≡ c.args.self.now.message = ap (λ (r : KeptReply). r.message) c.self.view_is in
    subst (λ (x : Msg). is_ok (copied (wire (aged x request age))) ≡ true) m (readable_kept i.message i.start i.marks.items c.self.invariant.0 i.opt q request age c.opt_size.ensures.listed n e h)

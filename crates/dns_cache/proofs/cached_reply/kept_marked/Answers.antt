use Rattle.std.proofs.Common.{◌≡◌, ◌<◌, Option, arith, ap, sym, ◌∙◌}
use Rattle.dns_base.specs.Sections.{message_of}
use Rattle.dns_opt.specs.OptRecords.{OptState}
use Rattle.dns_service.specs.LastOpt.{and_opt}
use Rattle.dns_cache.specs.AskedCache.{KeptReply, may_keep, where_kept}
use Rattle.dns_cache.specs.Marks.{marked_ttls}
use Rattle.dns_cache.specs.Ttls.{least_ttl, smallest}
use Rattle.dns_cache.proofs.KeptLaws.{least_built, message_built, octets_kept}
use Rattle.dns_cache.proofs.ReplyLaws.{may_keep_by, never_keep, not_kept}
use Rattle.dns_cache.proofs.cached_reply.kept_marked.Goals as goal

pub returns-then-least-eq0 : goal.returns-then-least-eq0
returns-then-least-eq0 c =
    let l : c.least_of-least.result ≡ least_ttl c.args.built.message = c.least_of-least.ensures ∙ (ap (λ ks. smallest (marked_ttls ks)) c.as_slice.ensures.value ∙ least_built c.args.reply.now c.args.built c.args.marks.items c.requires.message c.requires.marked) in
    not_kept c.args.request.now c.args.built.message (never_keep c.args.built.message c.least_of-least.result l c.if-least-eq0.true)

pub of-requires-clause-kept : goal.of-requires-clause-kept
of-requires-clause-kept c =
    octets_kept c.args.reply.now c.args.built c.args.marks.items c.requires.message c.requires.marked c.messages_read_back.ensures.same c.bare.result c.bare.ensures.value c.bare.ensures.lawful (record { same = c.typed_messages_are_copied.ensures }) c.bare.ensures.short

pub of-requires-clause-least : goal.of-requires-clause-least
of-requires-clause-least c =
    let l : c.least_of-least.result ≡ least_ttl c.args.built.message = c.least_of-least.ensures ∙ (ap (λ ks. smallest (marked_ttls ks)) c.as_slice.ensures.value ∙ least_built c.args.reply.now c.args.built c.args.marks.items c.requires.message c.requires.marked) in
    let o : c.in_ok-opt.opt ≡ c.args.reply.now.opt = c.in_ok-opt.ensures ∙ c.opt.ensures in
    let m : and_opt (message_of c.bare.result) c.in_ok-opt.opt ≡ c.args.built.message = ap (λ (x : Option OptState). and_opt (message_of c.bare.result) x) o ∙ message_built c.args.reply.now c.args.built c.args.marks.items c.requires.message c.requires.marked c.messages_read_back.ensures.same c.bare.result c.bare.ensures.value c.bare.ensures.lawful in
    l ∙ ap least_ttl (sym m)

pub kept_where-requires-clause-message : goal.kept_where-requires-clause-message
kept_where-requires-clause-message c =
    let l : c.least_of-least.result ≡ least_ttl c.args.built.message = c.least_of-least.ensures ∙ (ap (λ ks. smallest (marked_ttls ks)) c.as_slice.ensures.value ∙ least_built c.args.reply.now c.args.built c.args.marks.items c.requires.message c.requires.marked) in
    let o : c.in_ok-opt.opt ≡ c.args.reply.now.opt = c.in_ok-opt.ensures ∙ c.opt.ensures in
    let m : and_opt (message_of c.bare.result) c.in_ok-opt.opt ≡ c.args.built.message = ap (λ (x : Option OptState). and_opt (message_of c.bare.result) x) o ∙ message_built c.args.reply.now c.args.built c.args.marks.items c.requires.message c.requires.marked c.messages_read_back.ensures.same c.bare.result c.bare.ensures.value c.bare.ensures.lawful in
    let k : c.of.result.message ≡ c.args.built.message = ap (λ (x : KeptReply). x.message) c.of.ensures ∙ m in
    let p : 0 < c.least_of-least.result = omega (arith, c.if-least-eq0.false) in
    ap may_keep k ∙ may_keep_by c.args.built.message c.least_of-least.result c.requires.whole l p

pub returns : goal.returns
returns c =
    let o : c.in_ok-opt.opt ≡ c.args.reply.now.opt = c.in_ok-opt.ensures ∙ c.opt.ensures in
    let m : and_opt (message_of c.bare.result) c.in_ok-opt.opt ≡ c.args.built.message = ap (λ (x : Option OptState). and_opt (message_of c.bare.result) x) o ∙ message_built c.args.reply.now c.args.built c.args.marks.items c.requires.message c.requires.marked c.messages_read_back.ensures.same c.bare.result c.bare.ensures.value c.bare.ensures.lawful in
    let k : c.of.result.message ≡ c.args.built.message = ap (λ (x : KeptReply). x.message) c.of.ensures ∙ m in
    c.kept_where.ensures ∙ ap (where_kept c.args.request.now) k

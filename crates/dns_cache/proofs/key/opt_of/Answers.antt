use Rattle.std.proofs.Common.{◌∙◌, ap, sym}
use Rattle.dns_message.specs.declared.header.HeaderCounts.{HeaderCounts}
use Rattle.dns_cache.proofs.BareRequests.{no_opt}
use Rattle.dns_cache.proofs.key.opt_of.Goals as goal

pub returns-then-header_counts-eq0 : goal.returns-then-header_counts-eq0
returns-then-header_counts-eq0 c =
    sym (no_opt c.args.request.now (sym (ap (λ (n : HeaderCounts). n.arcount) c.header_counts.ensures) ∙ c.if-header_counts-eq0.true))

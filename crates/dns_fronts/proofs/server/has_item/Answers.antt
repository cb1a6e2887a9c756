use Rattle.std.proofs.Common.{◌∙◌, ap, sym}
use Rattle.dns_message.specs.declared.header.HeaderCounts.{HeaderCounts}
use Rattle.dns_base.specs.Sections.{counts_of}
use Rattle.dns_fronts.proofs.LoneQuestions.{no_item}
use Rattle.dns_fronts.proofs.server.has_item.Goals as goal

pub returns-then-header_counts-eq0 : goal.returns-then-header_counts-eq0
returns-then-header_counts-eq0 c =
    let counts = c.header_counts.ensures ∙ ap counts_of (c.deref.ensures ∙ c.message.ensures) in
    sym (no_item c.args.request.now.octets (sym (ap (λ (n : HeaderCounts). n.arcount) counts) ∙ c.if-header_counts-eq0.true))

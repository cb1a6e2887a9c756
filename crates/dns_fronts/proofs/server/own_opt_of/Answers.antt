use Rattle.std.proofs.Common.{◌∙◌, ap, sym, Option}
use Rattle.dns_message.specs.declared.header.HeaderCounts.{HeaderCounts}
use Rattle.dns_base.specs.Sections.{counts_of}
use Rattle.dns_opt.specs.OptRecords.{OptState}
use Rattle.dns_own_opt.specs.OwnOpts.{asks_dnssec}
use Rattle.dns_own_opt.specs.declared.rule.OwnOpt.{OwnOpt}
use Rattle.dns_fronts.proofs.LoneQuestions.{no_record}
use Rattle.dns_fronts.proofs.server.own_opt_of.Goals as goal

pub returns-then-header_counts-eq0 : goal.returns-then-header_counts-eq0
returns-then-header_counts-eq0 c =
    let counts = c.header_counts.ensures ∙ ap counts_of (c.deref.ensures ∙ c.message-message.ensures) in
    let none = no_record c.args.request.now.octets (sym (ap (λ (n : HeaderCounts). n.arcount) counts) ∙ c.if-header_counts-eq0.true) in
    ap (λ (x : Option OptState). let p : OwnOpt = record { size = c.args.size; dnssec_ok = asks_dnssec x } in p) (sym none)

use Rattle.std.proofs.Common.{◌∙◌}
use Rattle.dns_base.proofs.Pushed.{counts_are}
use Rattle.dns_base.proofs.draft.Draft.counts.Goals as goal

pub returns : goal.returns
returns c = c.header_counts.ensures ∙ counts_are c.args.self.now.message c.as_message.result c.as_message.ensures.value

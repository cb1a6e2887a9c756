use Rattle.std.proofs.Common.{◌∙◌, ap}
use Rattle.dns_base.specs.Header.{header_of}
use Rattle.dns_message.proofs.Written.{header_written}
use Rattle.dns_base.proofs.draft.Draft.header.Goals as goal

pub returns : goal.returns
returns c = c.header.ensures ∙ (ap header_of c.as_message.ensures.value ∙ header_written c.args.self.now.message c.as_message.ensures.lawful)

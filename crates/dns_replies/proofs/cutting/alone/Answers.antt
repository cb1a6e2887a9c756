use Rattle.std.proofs.Common.{◌∙◌, refl}
use Rattle.dns_base.specs.Records.{record_of}
use Rattle.dns_replies.specs.OptIn.{minimal}
use Rattle.dns_replies.proofs.CutLaws.{alone_added}
use Rattle.dns_replies.proofs.cutting.alone.Goals as goal

pub returns : goal.returns
returns c =
    alone_added c.args.message.now.message (record_of c.args.opt.now) (minimal (record_of c.args.opt.now)) c.in_ok-minimal_added.field-0 c.additional-shorter.result c.minimal_added.new.message
    (c.additional-shorter.ensures ∙ (c.question.ensures ∙ c.in_ok-bare.ensures)) refl c.in_ok-minimal_added.ensures

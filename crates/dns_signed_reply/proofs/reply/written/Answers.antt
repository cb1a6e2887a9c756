use Rattle.std.proofs.Common.{List, ◌++◌, map, ap, ◌∙◌}
use Rattle.dns_base.specs.Msg.{ResourceRecord}
use Rattle.dns_base.specs.Records.{record_of}
use Rattle.dns_signed_reply.proofs.reply.written.Goals as goal

pub returns : goal.returns
returns c = c.in_ok-add_written.ensures ∙ ap (λ (l : List ResourceRecord). l ++ map record_of c.args.records.now) c.new-all.ensures

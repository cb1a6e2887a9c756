use Rattle.std.proofs.Common.{List, ◌++◌, ap, sym, ◌∙◌, append-nil}
use Rattle.dns_message.specs.declared.record.Record.{Record}
use Rattle.dns_zone_tree.proofs.KeptLaws.{on_ok}
use Rattle.dns_hashed_reply.specs.HashedReplies.{group_or_none}
use Rattle.dns_hashed_reply.proofs.reply.add_group.Goals as goal

pub returns-in-Some : goal.returns-in-Some
returns-in-Some c = on_ok c.add_records.result c.add_records.ensures (λ e. e ∙ ap (λ (l : List Record). c.args.into.now.items ++ l) (ap group_or_none c.in-Some.ensures))

pub returns-in-None : goal.returns-in-None
returns-in-None c = sym (append-nil c.args.into.now.items) ∙ ap (λ (l : List Record). c.args.into.now.items ++ l) (ap group_or_none c.in-None.ensures)

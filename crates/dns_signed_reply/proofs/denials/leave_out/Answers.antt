use Rattle.std.proofs.Common.{rules}
use Rattle.std.specs.Prelude.{not}
use Rattle.std.specs.List.{list_any}
use Rattle.std.proofs.lemmas.Fn.{filter_same}
use Rattle.dns_message.specs.declared.record.Record.{Record}
use Rattle.dns_denial.specs.Signed.{is_beside}
use Rattle.dns_signed_reply.proofs.denials.leave_out.Goals as goal

pub returns : goal.returns
returns c = filter_same _ (λ (r : Record). not (list_any (is_beside r) c.args.given.now)) _ (λ x b f' k. search rules) _ _ c.retain.ensures.filtered

use Rattle.std.proofs.Common.{nat_eq, rules, ◌∙◌}
use Rattle.std.specs.Prelude.{not}
use Rattle.std.proofs.lemmas.Fn.{filter_same}
use Rattle.dns_base.specs.Msg.{ResourceRecord}
use Rattle.dns_service.proofs.CopyLaws.{others_filtered}
use Rattle.dns_service.proofs.copied.drop_opts.Goals as goal

pub returns : goal.returns
returns c = filter_same _ (λ (r : ResourceRecord). not (nat_eq r.rtype 41)) _ (λ x b f' k. search rules) _ _ c.retain.ensures.filtered ∙ others_filtered 41 c.args.records.now.items

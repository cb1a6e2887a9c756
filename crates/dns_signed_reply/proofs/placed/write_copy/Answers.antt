use Rattle.std.proofs.Common.{◌∷◌, [], ◌++◌, ap, sym, subst, ◌∙◌}
use Rattle.dns_base.specs.Records.{IsLawful, record_of}
use Rattle.dns_message.specs.declared.record.Record.{Record}
use Rattle.dns_signed_reply.proofs.placed.write_copy.Goals as goal

pub push-requires : goal.push-requires
push-requires c = subst (λ (r : Record). IsLawful r.rdata) (sym c.in_ok-copy.ensures) c.requires

pub returns : goal.returns
returns c = c.in_ok-push.ensures.ok ∙ ap (λ (r : Record). c.args.into.now ++ record_of r ∷ []) c.in_ok-copy.ensures

use Rattle.std.proofs.Common.{◌∙◌, ap, sym}
use Rattle.std.proofs.lemmas.Result.{IfOk-weaker}
use Rattle.dns_message.specs.declared.header.Header.{Header}
use Rattle.dns_lookup.proofs.Stepped.{truncated-is}
use Rattle.dns_lookup.proofs.lookup.Lookup.answered.Goals as goal

pub returns-then-header-clause-ok : goal.returns-then-header-clause-ok
returns-then-header-clause-ok c =
    IfOk-weaker c.connect.result _ _ (λ o h.
    truncated-is c.args.self.now c.connect.new.self c.args.at c.args.answer o (ap (λ (x : Header). x.tc) (sym c.header.ensures) ∙ c.if-header.true) h) c.connect.ensures.ok

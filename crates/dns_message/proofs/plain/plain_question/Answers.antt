use Rattle.std.proofs.Common.{arith, sym, ◌∙◌}
use Rattle.dns_message.proofs.Plains.{refused_none, short_none, stands_here}
use Rattle.dns_message.proofs.plain.plain_question.Goals as goal

pub returns-in-Ok-clause-stands : goal.returns-in-Ok-clause-stands
returns-in-Ok-clause-stands c =
    stands_here c.args.octets.now c.args.at c.in-Ok.field-0-0 c.in-Ok.end (λ k. let h = c.type_inv.octets k in omega arith) (sym c.in-Ok.ensures.value) (let h = c.in-Ok.ensures.within in omega arith)

pub returns-in_default-clause-stands : goal.returns-in_default-clause-stands
returns-in_default-clause-stands c =
    short_none c.args.octets.now c.args.at c.in-Ok.field-0-0 c.in-Ok.end (sym c.in-Ok.ensures.value) (let h = c.in-Ok.ensures.within in omega arith)

pub returns-in_default-2-clause-stands : goal.returns-in_default-2-clause-stands
returns-in_default-2-clause-stands c =
    refused_none c.args.octets.now c.args.at c.in_default.field-0 (sym c.at.ensures.value ∙ c.in_default.is)

use Rattle.std.proofs.Common.{◌≡◌, ◌+◌, ◌≤◌, ℕ, length, ◌∙◌, ◌++◌, ◌∷◌, [], refl, arith, ap, sym}
use Rattle.dns_base.specs.Records.{record_of}
use Rattle.dns_base.proofs.RecordsInWireForm.{spelt_few, spelt_more}
use Rattle.dns_base.proofs.wire_records.WireRecords.push.Goals as goal

pub overflow_add-self : goal.overflow_add-self
overflow_add-self c =
    omega (arith, spelt_few c.self.inside.octets.items c.self.inside.count c.self.invariant, c.compose.ensures)

pub invariant_of-self-2 : goal.invariant_of-self-2
invariant_of-self-2 c =
    (spelt_more c.self.inside.octets.items c.compose.new.target.items c.self.inside.count _ (record_of c.args.added.now) c.self.invariant c.compose_len-size.ensures.named c.in_ok-compose.ensures.ok refl).0

pub returns-clause-ok : goal.returns-clause-ok
returns-clause-ok c =
    (spelt_more c.self.inside.octets.items c.compose.new.target.items c.self.inside.count _ (record_of c.args.added.now) c.self.invariant c.compose_len-size.ensures.named c.in_ok-compose.ensures.ok refl).1 ∙ ap (λ t. t ++ record_of c.args.added.now ∷ []) c.self.view_is

use Rattle.std.proofs.Common.{◌≡◌, ◌∷◌, ◌++◌, arith, length}
use Rattle.std.proofs.lemmas.Grind.{common_steps}
use Rattle.dns_presentation.proofs.PlainLabels.{label_named, label_reads}
use Rattle.dns_presentation.proofs.names.label_under.Goals as goal

pub returns-in-Ok : goal.returns-in-Ok
returns-in-Ok c =
    let octets : c.extend_from_slice-2.new.self.items ≡ length c.args.label.now ∷ (c.args.label.now ++ c.as_slice-behind.result.now) = grind (arith, common_steps) in
    label_named c.args.label.now c.extend_from_slice-2.new.self.items c.as_slice-behind.result.now c.args.origin.now c.in-Ok.name c.as_slice-behind.ensures.named c.as_slice-behind.ensures.value octets c.requires.some c.requires.few (omega arith) c.in-Ok.ensures

pub returns-in-Err : goal.returns-in-Err
returns-in-Err c =
    let octets : c.extend_from_slice-2.new.self.items ≡ length c.args.label.now ∷ (c.args.label.now ++ c.as_slice-behind.result.now) = grind (arith, common_steps) in
    absurd (label_reads c.args.label.now c.extend_from_slice-2.new.self.items c.as_slice-behind.result.now c.args.origin.now _ c.as_slice-behind.ensures.named c.as_slice-behind.ensures.value octets c.requires.some c.requires.few (omega arith) c.in-Err.ensures)

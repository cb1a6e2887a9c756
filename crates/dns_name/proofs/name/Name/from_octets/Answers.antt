use Rattle.std.proofs.Common.{sym, ◌∙◌, ap}
use Rattle.dns_name.specs.Names.{uncompressed}
use Rattle.dns_name.proofs.Whole.{read_spelt}
use Rattle.dns_name.proofs.name.Name.from_octets.Goals as goal

pub invariant_of-result : goal.invariant_of-result
invariant_of-result c = read_spelt c.args.octets.items c.in_ok-from_slice.field-0 (ap uncompressed (sym c.as_slice.ensures.value) ∙ sym c.in_ok-from_slice.ensures)

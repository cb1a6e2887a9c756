use Rattle.std.proofs.Common.{Ok, ap, sym, ◌∙◌}
use Rattle.dns_name.proofs.Spelt.{labels_alone, is_spelt}
use Rattle.dns_name.proofs.name.Name.from_text_octets.Goals as goal

pub invariant_of-result : goal.invariant_of-result
invariant_of-result c =
    let s = c.in_ok-octets.ensures in
    is_spelt s.labels c.in_ok-octets.octets.items s.written s.name

pub returns : goal.returns
returns c =
    let s = c.in_ok-octets.ensures in
    s.read_as ∙ ap Ok (sym (labels_alone s.labels c.in_ok-octets.octets.items s.written s.name))

use Rattle.dns_name.proofs.Spelt.{is_spelt, labels_alone}
use Rattle.dns_name.proofs.Whole.{spelt_on}
use Rattle.dns_name.proofs.parsed.ParsedName.of.Goals as goal

pub invariant_of-result : goal.invariant_of-result
invariant_of-result c =
    let o = c.as_slice-message.result.now in
    spelt_on o (is_spelt c.args.name.now o c.as_slice-message.ensures.value c.as_slice-message.ensures.named)

pub returns : goal.returns
returns c = labels_alone c.args.name.now c.as_slice-message.result.now c.as_slice-message.ensures.value c.as_slice-message.ensures.named

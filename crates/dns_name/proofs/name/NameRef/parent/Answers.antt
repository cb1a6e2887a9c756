use Rattle.std.proofs.Common.{◌+◌, length, sym, ap, ◌∙◌, Some}
use Rattle.std.proofs.lemmas.List.{take_rest}
use Rattle.dns_name.specs.Labels.{parent_of}
use Rattle.dns_name.proofs.Parents.{label_within, parent_spelt}
use Rattle.dns_name.proofs.name.NameRef.parent.Goals as goal

pub slice_bounds-behind-start : goal.slice_bounds-behind-start
slice_bounds-behind-start c =
    label_within c.as_slice-octets.result.now c.in-Some.label.now c.args.self.now c.next.new.self c.as_slice-octets.ensures.value (sym c.labels.ensures.value ∙ c.in-Some.ensures.steps)

pub invariant_of-result : goal.invariant_of-result
invariant_of-result c =
    (parent_spelt c.as_slice-octets.result.now _ c.in-Some.label.now c.args.self.now c.next.new.self c.as_slice-octets.ensures.value c.as_slice-octets.ensures.named (sym c.labels.ensures.value ∙ c.in-Some.ensures.steps) (take_rest c.as_slice-octets.result.now (length c.in-Some.label.now + 1))).0

pub returns : goal.returns
returns c =
    let first = sym c.labels.ensures.value ∙ c.in-Some.ensures.steps in
    ap Some (parent_spelt c.as_slice-octets.result.now _ c.in-Some.label.now c.args.self.now c.next.new.self c.as_slice-octets.ensures.value c.as_slice-octets.ensures.named first (take_rest c.as_slice-octets.result.now (length c.in-Some.label.now + 1))).1
    ∙ sym (ap parent_of first)

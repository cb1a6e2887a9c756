use Rattle.std.proofs.Common.{◌≡◌, Some, None, ap, sym, ◌∙◌}
use Rattle.std.specs.Prelude.{IsTrue}
use Rattle.std.specs.Str.{bytes_eq}
use Rattle.dns_message.specs.declared.record.Record.{Record}
use Rattle.dns_order.specs.Keys.{canonical_key}
use Rattle.dns_zone_tree.specs.Names.{IsHeaded}
use Rattle.dns_zone_tree.specs.TypedPlaces.{head_record}
use Rattle.dns_zone_tree.proofs.HeadLaws.{same_some}
use Rattle.dns_zone_tree.proofs.KeptLaws.{if_ok}
use Rattle.dns_zone_tree.proofs.heads.is_headed.Goals as goal

pub returns-in-Some : goal.returns-in-Some
returns-in-Some c =
    let o = c.args.octets.now in
    let rs = c.args.records.now in
    let n = c.args.node.now in
    if_ok (λ b. b ≡ bytes_eq c.key_of.result.now (canonical_key c.for_ref.result)) (λ b. IsTrue b → IsHeaded o rs n) c.has_key.result c.has_key.ensures
    (λ b e t r h.
    let k : c.in-Some.first.now ≡ r = same_some c.in-Some.first.now r (c.in-Some.ensures ∙ (ap (head_record rs) c.as_slice.ensures ∙ sym h)) in
    let p = ap (λ (x : Record). x.owner) (sym k) ∙ sym c.for_ref.ensures.value in
    (λ i. bytes_eq (sym c.key_of.ensures i) (canonical_key (p i))) ∙ (sym e ∙ t))

pub returns-in-None : goal.returns-in-None
returns-in-None c = λ t r h.
    let k : None ≡ Some r = c.in-None.ensures ∙ (ap (head_record c.args.records.now) c.as_slice.ensures ∙ sym h) in
    absurd (cc)

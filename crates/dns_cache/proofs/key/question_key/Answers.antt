use Rattle.std.proofs.Common.{◌≡◌, Some, ap, sym, subst, ◌∙◌}
use Rattle.dns_name.specs.Labels.{IsName, folded}
use Rattle.dns_name.specs.Names.{labels_of, uncompressed_at}
use Rattle.dns_name.proofs.Spelt.{is_spelt, labels_alone}
use Rattle.dns_cache.proofs.KeyLaws.{folded_name}
use Rattle.dns_cache.proofs.key.question_key.Goals as goal

pub invariant_of-result : goal.invariant_of-result
invariant_of-result c =
    let ls = c.labels.result in
    let named : IsName ls = subst IsName (sym c.labels.ensures.value) c.labels.ensures.named in
    is_spelt (folded ls) c.in_ok-octets.octets.items c.in_ok-octets.ensures (folded_name ls named)

pub returns : goal.returns
returns c =
    let ls = c.labels.result in
    let named : IsName ls = subst IsName (sym c.labels.ensures.value) c.labels.ensures.named in
    let name : labels_of (uncompressed_at c.in_ok-octets.octets.items 0) ≡ folded c.args.question.now.qname =
    labels_alone (folded ls) c.in_ok-octets.octets.items c.in_ok-octets.ensures (folded_name ls named) ∙ ap folded (c.labels.ensures.value ∙ c.qname.ensures) in
    λ i. Some (record { name = name i; qtype = c.qtype.ensures i; qclass = c.qclass.ensures i; dnssec_ok = c.args.dnssec_ok })

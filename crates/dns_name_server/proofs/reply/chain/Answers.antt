use Rattle.std.proofs.Common.{ap, subst, sym, ◌∙◌}
use Rattle.dns_name.specs.Labels.{IsName, spell}
use Rattle.dns_name_server.proofs.FrontLaws.{spelt_named, spelt_never}
use Rattle.dns_name_server.proofs.reply.chain.Goals as goal

pub spelt-octets-requires : goal.spelt-octets-requires
spelt-octets-requires c = subst IsName (sym c.labels.ensures.value) c.labels.ensures.named

pub chain_from-requires-clause-name : goal.chain_from-requires-clause-name
chain_from-requires-clause-name c =
    let q = c.qname.result in
    let e = c.as_slice.ensures.value ∙ (c.spelt-octets.ensures ∙ ap spell c.labels.ensures.value) in
    spelt_named q c.in-Ok.name c.as_slice.result.now c.labels.ensures.named e c.in-Ok.ensures ∙ c.qname.ensures

pub unreachable-requires : goal.unreachable-requires
unreachable-requires c =
    let q = c.qname.result in
    let e = c.as_slice.ensures.value ∙ (c.spelt-octets.ensures ∙ ap spell c.labels.ensures.value) in
    spelt_never q c.as_slice.result.now _ c.labels.ensures.named e c.in-Err.ensures

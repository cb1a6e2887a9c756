-- What is decided about the query that was read is done about the datagram.
use Rattle.std.proofs.Common.{◌≤◌, ◌∙◌, List, ℕ, length, sym, subst}
use Rattle.dns_session.specs.Datagrams.{cut_datagram}
use Rattle.dns_embed.proofs.Decides.{datagram-exchanged}
use Rattle.dns_embed.proofs.datagram.decide_datagram.Goals as goal

pub returns : goal.returns
returns c =
    let m = c.in-Ok.message in
    let long : 12 ≤ length m = subst (λ (x : List ℕ). 12 ≤ length x) (sym c.in-Ok.ensures.0) c.in-Ok.ensures.1 in
    datagram-exchanged c.args.settings.now c.args.verdict.verdict c.args.addr c.args.at c.args.secs c.new-context.result m (cut_datagram c.args.octets.now)
    c.header.result c.decide_query.result (c.new-context.ensures ∙ c.max_response_size.ensures.value) (c.in-Ok.ensures.0 ∙ c.in_ok-octets.ensures)
    c.header.ensures c.if-header.false long c.decide_query.ensures

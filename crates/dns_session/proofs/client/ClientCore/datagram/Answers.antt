use Rattle.std.proofs.Common.{ap, ◌∙◌}
use Rattle.std.proofs.lemmas.Result.{IfOk-weaker}
use Rattle.dns_session.specs.Slate.{Conf}
use Rattle.dns_session.proofs.client.ClientCore.datagram.Goals as goal

pub returns-clause-begun : goal.returns-clause-begun
returns-clause-begun g c =
    IfOk-weaker c.exchange.result _ _ (λ p begun s unused shown.
    let b = rw c.in_ok-octets.ensures at (c.in_ok-begun.ensures c.args.client s unused (ap (λ (x : Conf). x.dgram) shown)) in
    rw begun.0 (begun.1 ∙ b.0, b.1)) c.exchange.ensures

use Rattle.std.proofs.Common.{ap, ◌∙◌}
use Rattle.dns_session.specs.Slate.{Conf}
use Rattle.dns_session.proofs.client.ClientCore.admit.Goals as goal

pub returns-clause-begun : goal.returns-clause-begun
returns-clause-begun g c = λ answers s unused shown. c.in_ok-connection.ensures answers c.args.client s unused (ap (λ (x : Conf). x.over) shown ∙ c.requires) (ap (λ (x : Conf). x.stream) shown)

use Rattle.std.proofs.Common.{List, subst}
use Rattle.std.specs.Prelude.{true}
use Rattle.dns_base.specs.Builds.{Builds, unlimited}
use Rattle.dns_base.specs.Msg.{ResourceRecord}
use Rattle.dns_name_server.specs.Steps.{wire_message}
use Rattle.dns_name_server.proofs.compose.alone.Goals as goal

pub returns : goal.returns
returns c =
    subst (λ (l : List ResourceRecord). Builds (unlimited (wire_message c.args.query.now (record { aa = true; rcode = c.args.rcode; answers = c.args.given.now; authority = l; additional = l }))) c.built.result) c.new-none.ensures c.built.ensures

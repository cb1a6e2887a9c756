use Rattle.std.proofs.Common.{List, subst}
use Rattle.dns_script.specs.Upstreams.{PendFirst}
use Rattle.dns_script.specs.declared.upstream.UpstreamWord.{UpstreamWord}
use Rattle.dns_script.proofs.script_upstream.add.Goals as goal

pub invariant_of-relay : goal.invariant_of-relay
invariant_of-relay c = subst (λ (ws : List UpstreamWord). PendFirst ws c.pends_before-pends.result) c.as_slice.ensures c.pends_before-pends.ensures

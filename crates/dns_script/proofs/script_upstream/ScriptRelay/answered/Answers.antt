use Rattle.std.proofs.Common.{List, subst, sym}
use Rattle.dns_script.specs.Upstreams.{PendFirst}
use Rattle.dns_script.specs.declared.upstream.UpstreamWord.{UpstreamWord}
use Rattle.dns_script.proofs.Pends.{still_pending}
use Rattle.dns_script.proofs.script_upstream.ScriptRelay.answered.Goals as goal

pub returns-then-k-pends : goal.returns-then-k-pends
returns-then-k-pends c =
    let first = subst (λ (ws : List UpstreamWord). PendFirst ws c.self.inside.pends) c.self.view_is c.self.invariant in
    sym (still_pending c.args.self.now c.args.message c.self.inside.pends c.args.k first c.if-k-pends.true)

-- A request is answered at once, or an upstream is to be asked for it.
use Rattle.std.proofs.Common.{subst}
use Rattle.std.proofs.lemmas.Result.{IfOk-weaker}
use Rattle.dns_proxy.specs.declared.front.Taken.TheVariants.{Own, Passed}
use Rattle.dns_proxy.specs.Fronts.{fronting, IsTaken}
use Rattle.dns_proxy.proofs.ClientMessages.{asks_begins, sent_begins}
use Rattle.dns_proxy.proofs.beginning.take.Goals as goal

pub returns-in-Own-clause-taken : goal.returns-in-Own-clause-taken
returns-in-Own-clause-taken g c =
    let v = c.args.front.now in
    let f = fronting (g.F.Front.over v) (g.F.Front.hint v) (g.F.Front.asks v) in
    let r = c.args.request in
    let taken : IsTaken g.F.Rule.Rewrite.rewriting (λ i. f.over i r) (f.asks r) (Own c.in-Own.item) = subst (λ t. IsTaken g.F.Rule.Rewrite.rewriting (λ i. f.over i r) (f.asks r) t) c.in-Own.is c.in_ok-taken.ensures.taken in
    IfOk-weaker c.answer.result _ _ (λ t is dgram came e client asks.
    sent_begins g.F.Rule.Rewrite.rewriting f dgram came r c.take.new.request _ _ e asks c.in_ok-taken.ensures.kept c.limit_of-limit.ensures c.in-Own.item t taken.0 taken.1 is) c.answer.ensures

pub returns-in-Passed-clause-taken : goal.returns-in-Passed-clause-taken
returns-in-Passed-clause-taken g c =
    let v = c.args.front.now in
    let f = fronting (g.F.Front.over v) (g.F.Front.hint v) (g.F.Front.asks v) in
    let r = c.args.request in
    let taken : IsTaken g.F.Rule.Rewrite.rewriting (λ i. f.over i r) (f.asks r) (Passed c.in-Passed.rule c.in-Passed.message) = subst (λ t. IsTaken g.F.Rule.Rewrite.rewriting (λ i. f.over i r) (f.asks r) t) c.in-Passed.is c.in_ok-taken.ensures.taken in
    λ dgram came e client asks u id b is.
    asks_begins g.F.Rule.Rewrite.rewriting f dgram came r c.take.new.request _ _ e asks c.in_ok-taken.ensures.kept c.limit_of-limit.ensures c.args.client c.in-Passed.rule c.in-Passed.message u id b client taken.0 taken.1 is

use Rattle.std.proofs.Common.{◌++◌, ◌∷◌, [], subst, sym}
use Rattle.std.specs.List.{AllZip}
use Rattle.dns_listener.specs.RunningListeners.{IsOf}
use Rattle.dns_listener.proofs.Closed.{pairs_push}
use Rattle.dns_listener.proofs.closing.take_back.Goals as goal

pub each-preserved : goal.each-preserved
each-preserved g c = (
  tt,
  tt,
  subst (AllZip (IsOf {R = g.row.R.Denot}) (c.each.yielded ++ c.in-Some.one ∷ [])) (sym c.in_ok-push.ensures.items)
      (pairs_push (IsOf {R = g.row.R.Denot}) c.each.yielded c.each.listeners.items c.in-Some.one c.join-listener.result.0
      c.each.invariant.2 c.join-listener.ensures),
)

-- What is sent for a query over UDP fits.
use Rattle.dns_service.specs.Req.{Req}
use Rattle.dns_middleware.specs.Wrapped.{hint_left}
use Rattle.dns_fronts.proofs.ServerReplyLaws.{classic-limit, sent-fits}
use Rattle.dns_fronts.specs.Caching.{cached_asks, cached_over}
use Rattle.dns_fronts.specs.Required.{settings_for}
use Rattle.dns_fronts.specs.ServerReplies.{sized_request}
use Rattle.dns_fronts.proofs.server.replies_fit.Goals as goal

pub returns-clause-fits : goal.returns-clause-fits
returns-clause-fits c = λ f dgram came i is query.
    let s = λ (r : Req (Unit {0})). settings_for f.front.front r in
    sent-fits c.cut_fits.ensures.fits f.size f.secret (λ r. hint_left (s r) r) (λ j r k. cached_over (s r) f.front.cache j r k)
    (λ r. cached_asks (s (sized_request r)) f.front.cache (sized_request r)) dgram came i is query

pub returns-clause-classic : goal.returns-clause-classic
returns-clause-classic c = λ f r none. classic-limit (settings_for f.front.front (sized_request r)) r none

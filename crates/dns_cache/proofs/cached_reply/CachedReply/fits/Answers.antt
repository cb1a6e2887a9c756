use Rattle.std.proofs.Common.{subst, sym}
use Rattle.dns_name.specs.Labels.{IsName}
use Rattle.dns_base.specs.Msg.{HasName}
use Rattle.dns_cache.proofs.cached_reply.CachedReply.fits.Goals as goal

pub returns-then-is_short-clause-fits : goal.returns-then-is_short-clause-fits
returns-then-is_short-clause-fits c = λ request age e.
    let q = c.args.question.now in
    let named : HasName q = subst IsName c.qname.ensures c.labels-labels.ensures.named in
    sym (c.is_short.ensures.fits c.if-is_short.true q request age named e)

pub returns-then-is_short-clause-readable : goal.returns-then-is_short-clause-readable
returns-then-is_short-clause-readable c = λ request age e h.
    let q = c.args.question.now in
    let named : HasName q = subst IsName c.qname.ensures c.labels-labels.ensures.named in
    c.is_short.ensures.readable q request age named e h

pub returns-clause-readable : goal.returns-clause-readable
returns-clause-readable c = λ request age e h.
    let q = c.args.question.now in
    let named : HasName q = subst IsName c.qname.ensures c.labels-labels.ensures.named in
    c.is_short.ensures.readable q request age named e h

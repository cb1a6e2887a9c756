use Rattle.std.proofs.Common.{subst}
use Rattle.dns_zone_tree.specs.Walks.{EndsAt}
use Rattle.dns_signed_reply.proofs.chain.is_absent.Goals as goal

pub returns-in-Missing : goal.returns-in-Missing
returns-in-Missing c = λ t h. c.has_no_wildcard.ensures t (subst (EndsAt c.args.zone.now t c.args.name.now) c.in-Missing.is h)

use Rattle.std.proofs.Common.{◌≡◌, sym, subst}
use Rattle.dns_zone.specs.Owned.{AreLawful}
use Rattle.dns_zone.proofs.BuildLaws.{lawful_more}
use Rattle.dns_incoming.proofs.incoming.IncomingTransfer.keep.Goals as goal

pub invariant_of-self-2 : goal.invariant_of-self-2
invariant_of-self-2 c = subst AreLawful (sym c.in_ok-push.ensures.items) (lawful_more c.self.inside.records.items c.args.added c.self.invariant c.requires)

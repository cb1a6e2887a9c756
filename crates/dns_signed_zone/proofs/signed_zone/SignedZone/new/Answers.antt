use Rattle.dns_signed_zone.proofs.signed_zone.SignedZone.new.Goals as goal

pub invariant_of-result : goal.invariant_of-result
invariant_of-result c = record { zone = c.requires; chain = c.in-Ok.ensures }

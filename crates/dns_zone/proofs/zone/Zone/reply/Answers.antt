use Rattle.dns_zone.proofs.zone.Zone.reply.Goals as goal

pub reply_at-requires-clause-path : goal.reply_at-requires-clause-path
reply_at-requires-clause-path c = cc (c.in_ok-path.ensures, c.labels.ensures.value, c.qname.ensures)

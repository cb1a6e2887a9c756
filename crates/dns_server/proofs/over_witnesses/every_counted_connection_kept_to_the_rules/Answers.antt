use Rattle.dns_account.proofs.CloseReasons.{end_seen}
use Rattle.dns_account.proofs.Lawful.{lawful}
use Rattle.dns_server.proofs.over_witnesses.every_counted_connection_kept_to_the_rules.Goals as goal

pub returns-clause-kept : goal.returns-clause-kept
returns-clause-kept g c = lawful _ c.ended.result.1 _ _ _ _ _ _ _ _ _ c.ended.ensures.observed

pub returns-clause-seen : goal.returns-clause-seen
returns-clause-seen g c = end_seen _ _ _ _ _ _ _ _ _ _ c.ended.result.1 c.ended.ensures.observed c.ended.ensures.shown

use Rattle.dns_dgram_driver.proofs.News.{tells_news}
use Rattle.dns_dgram_driver.proofs.looks.apply_news.Goals as goal

pub returns-clause-observed : goal.returns-clause-observed
returns-clause-observed g c = tells_news c.in_ok-note_version.ensures.observed c.in_ok-note_version.ensures.clock c.in_ok-note_shutdown.ensures.observed c.in_ok-note_shutdown.ensures.clock

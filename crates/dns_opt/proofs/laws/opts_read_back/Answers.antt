use Rattle.dns_opt.proofs.Opts.{opt_back}
use Rattle.dns_opt.proofs.laws.opts_read_back.Goals as goal

pub returns : goal.returns
returns c = opt_back c.messages_read_back.ensures.same c.messages_read_back.ensures.whole c.records_stand.ensures.additional

use Rattle.std.proofs.Common.{rules}
use Rattle.dns_options.specs.Pushes.{PushedRaw}
use Rattle.dns_options.specs.Writes.{Writes}
use Rattle.dns_opt.proofs.RawPushes.{raw_by}
use Rattle.dns_opt.proofs.record.OptRecord.push_raw_option.Goals as goal

pub returns-clause-options : goal.returns-clause-options
returns-clause-options g c =
    let raw : PushedRaw (Writes g.F.FnOnce c.args.write) c.args.code c.args.len c.self.inside.options c.push_raw_option.new.self c.push_raw_option.result = raw_by c.args.code c.args.len c.self.inside.options c.push_raw_option.new.self c.push_raw_option.result (λ d w. record { shown = w.shown; empty = w.empty; left = w.left; met = w.met; leaves = w.leaves }) c.push_raw_option.ensures in
    search rules

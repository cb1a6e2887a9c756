use Rattle.std.proofs.Common.{rules}
use Rattle.dns_opt.proofs.RawPushes.{raw_in}
use Rattle.dns_opt.proofs.builder.OptBuilder.push_raw_option.Goals as goal

pub returns-then-self-total : goal.returns-then-self-total
returns-then-self-total g c =
    rw (← c.self.view_is) (raw_in c.args.code c.args.len (record { head = c.self.inside.head; low = c.self.inside.low; options = c.self.inside.options; room = c.self.inside.room }) c.push_raw_option.new.self c.push_raw_option.result (λ d w. record { shown = w.shown; empty = w.empty; left = w.left; met = w.met; leaves = w.leaves }) (search rules) c.push_raw_option.ensures)

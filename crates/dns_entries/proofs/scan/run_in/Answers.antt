use Rattle.std.proofs.Common.{take, ap, ◌∙◌}
use Rattle.dns_entries.proofs.Runs.{run_taken}
use Rattle.dns_entries.proofs.scan.run_in.Goals as goal

pub returns-clause-value : goal.returns-clause-value
returns-clause-value c = ap (λ n. take n c.args.text.now) c.run_length-count.ensures.count ∙ run_taken c.args.mode c.args.text.now

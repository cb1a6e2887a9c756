use Rattle.std.proofs.Common.{◌-◌, drop, length, slice_index_or, take}
use Rattle.dns_zone_file.proofs.Runs.{nothing_left, octet_left, run_behind, run_ended}
use Rattle.dns_zone_file.proofs.read.run_and_step.Goals as goal

pub returns-in_default-clause-value : goal.returns-in_default-clause-value
returns-in_default-clause-value c =
    run_ended c.args.scan.now c.take_run.new.self c.args.draft.now c.args.text.now c.in_ok-run.run' c.in_ok-run.ensures.count c.in_ok-run.ensures.value (nothing_left c.in_ok-run.run' c.args.text.now c.in_default.len_below)

pub returns-clause-value : goal.returns-clause-value
returns-clause-value c =
    let n = c.in_ok-run.run' in
    let rest = take (length c.args.text.now - n) (drop n c.args.text.now) in
    run_behind c.args.scan.now c.take_run.new.self c.step.new.scan c.args.draft.now c.step.new.draft c.args.text.now (take (length rest - 1) (drop 1 rest)) n (slice_index_or rest 0 0) c.in_ok-run.ensures.count c.in_ok-run.ensures.value (octet_left n c.args.text.now c.in-len1-up.len_at_least) c.in_ok-step.ensures.value

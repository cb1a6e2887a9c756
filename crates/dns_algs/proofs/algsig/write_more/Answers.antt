use Rattle.std.proofs.Common.{rules, ◌∷◌, ◌++◌}
use Rattle.std.proofs.Output.{has_written_append}
use Rattle.std.specs.Fmt.{decimal}
use Rattle.dns_algs.proofs.Texts.{more_step}
use Rattle.dns_algs.proofs.algsig.write_more.Goals as goal

pub each-preserved : goal.each-preserved
each-preserved g c = λ plain.
    let so_far = c.each.invariant plain in (
      so_far.0 ++ (44 ∷ 32 ∷ decimal c.in-Some.number.now),
      has_written_append _ _ _ _ _ _ so_far.1 (search rules),
      more_step so_far.0 _ _ _ _ (search rules) so_far.2,
    )

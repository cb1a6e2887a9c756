use Rattle.std.proofs.Common.{rules, ◌∷◌, ◌++◌}
use Rattle.std.proofs.Output.{has_written_append}
use Rattle.dns_lists.specs.Texts.{hex}
use Rattle.dns_lists.proofs.Each.{one_more}
use Rattle.dns_lists.proofs.key_tag.write_more.Goals as goal

pub each-preserved : goal.each-preserved
each-preserved g c = λ plain.
    let so_far = c.each.invariant plain in (
      so_far.0 ++ (44 ∷ 32 ∷ hex c.in-Some.tag),
      has_written_append _ _ _ _ _ _ so_far.1 (search rules),
      one_more (λ x. 44 ∷ 32 ∷ hex x) so_far.0 _ _ _ c.in-Some.tag (search rules) so_far.2,
    )

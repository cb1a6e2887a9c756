use Rattle.std.proofs.Common.{rules, ◌++◌, ◌/◌, ◌%◌}
use Rattle.std.proofs.Output.{has_written_append}
use Rattle.dns_lists.specs.Texts.{hex}
use Rattle.dns_lists.proofs.Each.{one_more}
use Rattle.dns_lists.proofs.texts.write_plain.Goals as goal

pub each-preserved : goal.each-preserved
each-preserved g c = λ plain.
    let so_far = c.each.invariant plain in (
      so_far.0 ++ (hex (c.in-Some.octet.now / 16) ++ hex (c.in-Some.octet.now % 16)),
      has_written_append _ _ _ _ _ _ so_far.1 (search rules),
      one_more (λ x. hex (x / 16) ++ hex (x % 16)) so_far.0 _ _ _ c.in-Some.octet.now (search rules) so_far.2,
    )

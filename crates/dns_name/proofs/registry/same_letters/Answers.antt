use Rattle.std.proofs.Common.{map}
use Rattle.std.specs.Char.{to_ascii_lowercase}
use Rattle.std.proofs.lemmas.Bool.Decides.{same_from_decides}
use Rattle.std.proofs.lemmas.Slice.Eq.{bytes_eq-Decides}
use Rattle.dns_name.specs.Registries.{same_letters}
use Rattle.dns_name.proofs.registry.same_letters.Goals as goal

pub returns : goal.returns
returns c =
    same_from_decides c.eq_ignore_ascii_case.result (same_letters c.args.text.now c.args.other.now) c.eq_ignore_ascii_case.ensures.test
    (bytes_eq-Decides (map to_ascii_lowercase c.args.text.now) (map to_ascii_lowercase c.args.other.now))

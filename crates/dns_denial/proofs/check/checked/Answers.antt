use Rattle.std.proofs.Common.{ℕ, List, length, ap, subst, sym, ◌∙◌}
use Rattle.std.specs.List.{position}
use Rattle.dns_denial.specs.Checks.{AreLinked, is_unlisted}
use Rattle.dns_denial.proofs.StartLaws.{starts}
use Rattle.dns_denial.proofs.WholeLaws.{whole_by}
use Rattle.dns_denial.proofs.check.checked.Goals as goal

pub returns-in-None : goal.returns-in-None
returns-in-None c =
    let z = c.args.zone.now in
    let ns = c.args.nsecs.now in
    whole_by z ns (starts z c.requires.zone) c.requires.sorted (ap (position (is_unlisted z ns)) (sym c.records.ensures.value) ∙ sym (sym c.in_default.is ∙ c.in_ok-index.ensures)) (sym (sym c.in_default-2.is ∙ c.in_ok-index-2.ensures))
    (subst (λ (a : List (List ℕ)). AreLinked a ns (length ns)) c.apex.ensures c.in-None.ensures)

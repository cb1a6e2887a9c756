use Rattle.std.proofs.Common.{◌≡◌, ℕ, List, ap, sym, ◌∙◌}
use Rattle.dns_name.specs.Canonical.{same_name}
use Rattle.dns_zone.proofs.PathLaws.{second_true}
use Rattle.dns_authority.proofs.AnswerLaws.{same_apex}
use Rattle.dns_authority.proofs.authority.Authority.transferred.Goals as goal

pub transfer-requires : goal.transfer-requires
transfer-requires g c = second_true _ _ (sym c.allows.ensures ∙ c.if-allows.true)

pub returns-then-allows : goal.returns-then-allows
returns-then-allows g c =
    rw (ap (same_name c.args.question.now.qname) (same_apex c.args.zone.now.zone c.args.zone.now.signing), sym c.allows.ensures, c.if-allows.true) c.in_ok-transfer.ensures

pub returns : goal.returns
returns g c = rw (ap (same_name c.args.question.now.qname) (same_apex c.args.zone.now.zone c.args.zone.now.signing), sym c.allows.ensures, c.if-allows.false) c.coded.ensures

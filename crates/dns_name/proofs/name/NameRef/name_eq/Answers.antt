use Rattle.dns_name.proofs.Sames.{same_by_octets, is_same_name}
use Rattle.dns_name.proofs.name.NameRef.name_eq.Goals as goal

pub returns-clause-equal : goal.returns-clause-equal
returns-clause-equal c =
    same_by_octets c.eq_ignore_ascii_case.result c.as_slice.result.now c.as_slice-2.result.now c.args.self.now c.args.other.now c.as_slice.ensures.value c.as_slice-2.ensures.value c.as_slice.ensures.named c.as_slice-2.ensures.named c.eq_ignore_ascii_case.ensures.test

pub returns-clause-same : goal.returns-clause-same
returns-clause-same c =
    is_same_name c.eq_ignore_ascii_case.result c.args.self.now c.args.other.now
    (same_by_octets c.eq_ignore_ascii_case.result c.as_slice.result.now c.as_slice-2.result.now c.args.self.now c.args.other.now c.as_slice.ensures.value c.as_slice-2.ensures.value c.as_slice.ensures.named c.as_slice-2.ensures.named c.eq_ignore_ascii_case.ensures.test)

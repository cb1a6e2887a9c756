use Rattle.std.proofs.Common.{◌≡◌, ◌∙◌, ap, refl}
use Rattle.std.specs.Arc.{arc_value}
use Rattle.dns_notifier.specs.Signings.{SigningParts}
use Rattle.dns_notifier.proofs.SignedOnce.{is_signed}
use Rattle.dns_notifier.proofs.signing.Signing.sign.Goals as goal

pub returns-in-Some-clause-signed : goal.returns-in-Some-clause-signed
returns-in-Some-clause-signed c =
    let kept : arc_value c.self.inside.key ≡ c.args.self.now.key = ap (λ (s : SigningParts). s.key) c.self.view_is in
    is_signed c.args.self.now _ c.args.secs c.args.octets.now c.in-Ok.message c.deref.result.now c.in_ok-octets.field-0 c.in-Some.field-0 (c.deref.ensures ∙ kept) kept refl (c.in-Ok.ensures.0 ∙ c.in_ok-from_slice.ensures.items) c.in-Some.is c.in_ok-octets.ensures

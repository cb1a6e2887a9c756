use Rattle.std.proofs.Common.{◌≡◌, ◌∙◌, Option, Some, ap, option_map, sym}
use Rattle.dns_hmac.specs.Macs.{octets_of}
use Rattle.dns_hmac.specs.declared.mac.Mac.{Mac}
use Rattle.dns_notifier.specs.Signings.{SigningParts}
use Rattle.dns_notifier.proofs.SignedOnce.{is_verified}
use Rattle.dns_notifier.proofs.signing.Signing.verified.Goals as goal

pub returns-in-Ok-verified_reply : goal.returns-in-Ok-verified_reply
returns-in-Ok-verified_reply c =
    let key_is : c.deref.result.now ≡ c.args.self.now.key = c.deref.ensures ∙ ap (λ (s : SigningParts). s.key) c.self.view_is in
    let known : c.args.self.now.mac ≡ Some (octets_of c.in-Some.mac) =
    sym (ap (λ (s : SigningParts). s.mac) c.self.view_is) ∙ ap (λ (o : Option Mac). option_map octets_of o) c.in-Some.is in
    is_verified c.args.self.now c.args.secs c.args.octets.now c.into_octets.result.items (octets_of c.in-Some.mac) c.in-Ok.message c.in-Ok-verified_reply.message c.deref.result.now key_is known (c.in-Ok.ensures.0 ∙ c.in_ok-from_slice.ensures.items) c.in-Ok-verified_reply.ensures.ok c.into_octets.ensures.value

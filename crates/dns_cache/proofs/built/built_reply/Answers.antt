use Rattle.std.proofs.Common.{◌≡◌, ◌≤◌, ℕ, List, length, Ok, ap, subst, ◌∙◌}
use Rattle.std.proofs.lemmas.Result.{IfOk-weaker}
use Rattle.dns_base.specs.Built.{Built}
use Rattle.dns_base.specs.Wire.{wire}
use Rattle.dns_service.specs.Copied.{copied}
use Rattle.dns_route.specs.ReplyMessage.{ReplyState, reply_message}
use Rattle.dns_cache.specs.AskedCache.{bare_octets}
use Rattle.dns_cache.proofs.BuiltLaws.{built_copied, whole_bare, whole_reply}
use Rattle.dns_cache.proofs.built.built_reply.Goals as goal

pub from_typed-requires : goal.from_typed-requires
from_typed-requires c =
    let b = c.in_ok-built.built in
    let copy : copied (wire b.message) ≡ Ok b.message =
    built_copied c.args.message.now c.args.start c.args.marks.now c.args.request.now c.args.age b c.requires.kept c.in_ok-built.ensures c.as_slice-octets.ensures.lawful in (
      whole_reply b.message copy,
      ap (λ (x : Built). x.limit) c.in_ok-built.ensures,
      subst (λ (o : List ℕ). length o ≤ 65535) c.as_slice-octets.ensures.value c.as_slice-octets.ensures.short,
    )

pub returns-clause-message : goal.returns-clause-message
returns-clause-message c =
    let b = c.in_ok-built.built in
    let copy : copied (wire b.message) ≡ Ok b.message =
    built_copied c.args.message.now c.args.start c.args.marks.now c.args.request.now c.args.age b c.requires.kept c.in_ok-built.ensures c.as_slice-octets.ensures.lawful in
    IfOk-weaker c.from_typed.result _ _ (λ r i. ap reply_message i ∙ (whole_reply b.message copy ∙ ap (λ (x : Built). Ok x.message) c.in_ok-built.ensures)) c.from_typed.ensures

pub returns-clause-octets : goal.returns-clause-octets
returns-clause-octets c =
    let b = c.in_ok-built.built in
    let copy : copied (wire b.message) ≡ Ok b.message =
    built_copied c.args.message.now c.args.start c.args.marks.now c.args.request.now c.args.age b c.requires.kept c.in_ok-built.ensures c.as_slice-octets.ensures.lawful in
    IfOk-weaker c.from_typed.result _ _ (λ r i. ap (λ (x : ReplyState). x.octets) i ∙ (whole_bare b.message copy ∙ ap (λ (x : Built). bare_octets x.message) c.in_ok-built.ensures)) c.from_typed.ensures

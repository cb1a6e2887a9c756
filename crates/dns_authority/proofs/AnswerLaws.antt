-- What an authority answers to a query for a transfer.
use Rattle.std.proofs.Common.{◌≡◌, ℕ, Bool, true, false, List, refl, ap, ◌∙◌}
use Rattle.std.specs.Prelude.{◌&&◌, ◌||◌, if◌then◌else◌, nat_eq, Option}
use Rattle.dns_message.specs.declared.question.Question.{Question}
use Rattle.dns_service.specs.Once.{once}
use Rattle.dns_service.specs.Req.{Req}
use Rattle.dns_transfer.specs.Transfers.{transfer}
use Rattle.dns_zone.proofs.PathLaws.{true_eq}
use Rattle.dns_name.specs.Canonical.{same_name}
use Rattle.dns_zone.specs.Owned.{ZoneState}
use Rattle.dns_authority.specs.ServedZones.{Signing, Bare, WithNsecs, WithNsec3s, sent_of}
use Rattle.dns_authority.specs.Authorities.{AsksTransfer, AuthorityState, ServedState, TransfersAreAnswered, by_opcode, by_question, by_zone, coded, asked_zone, asks_transfer, may_transfer, zone_item, transferred, zone_for, zone_for_ds}

-- a transfer isn't asked for by DS
no_ds : (a b : Bool) (t : ℕ) → nat_eq t 252 ≡ a → nat_eq t 251 ≡ b → (a || b) ≡ true → nat_eq t 43 ≡ false
no_ds true b t e f h = ap (λ (n : ℕ). nat_eq n 43) (true_eq t 252 e)
no_ds false true t e f h = ap (λ (n : ℕ). nat_eq n 43) (true_eq t 251 f)
no_ds false false t e f h = absurd (cc)

asked_plain : (q : Question) (zs : List ServedState) → asks_transfer q ≡ true → asked_zone q zs ≡ zone_for q.qname zs
asked_plain q zs h = ap (λ (b : Bool). if b then zone_for_ds q.qname zs else zone_for q.qname zs) (no_ds (nat_eq q.qtype 252) (nat_eq q.qtype 251) q.qtype refl refl h)

-- with all its records a zone begins at its apex too
pub same_apex : (z : ZoneState) (g : Signing) → (sent_of z g).apex ≡ z.apex
same_apex z Bare = refl
same_apex z (WithNsecs ns) = refl
same_apex z (WithNsec3s h ns gs) = refl

pub transfers_are_answered : {Meta : Type 0} → TransfersAreAnswered Meta
transfers_are_answered a r q s h =
    let o = r.octets in
    let refused = once (coded o 5) in
    let all = sent_of s.zone s.signing in
    let apex : same_name q.qname all.apex ≡ true = ap (same_name q.qname) (same_apex s.zone s.signing) ∙ h.apex in
    ap (λ (k : ℕ). by_opcode a.zones r k) h.query
    ∙ (ap (λ (x : Option Question). by_question a.zones r x) h.question
    ∙ (ap (λ (k : ℕ). if nat_eq k 1 then by_zone r q (asked_zone q a.zones) else refused) h.internet
    ∙ (ap (λ (x : Option ServedState). by_zone r q x) (asked_plain q a.zones h.asked ∙ h.zone)
    ∙ (ap (λ (b : Bool). if b then transferred s.allowed r q all else once (zone_item r q s)) h.asked
    ∙ ap (λ (b : Bool). if b && may_transfer s.allowed r then transfer all o else refused) apex))))

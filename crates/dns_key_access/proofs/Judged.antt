-- Requests that are judged by rules.
use Rattle.std.proofs.Common.{◌≡◌, ℕ, Bool, true, false, ◌&&◌, List, [], ◌∷◌, nat_eq, Option, Some, None, refl, ap, ◌∙◌, if◌then◌else◌}
use Rattle.std.specs.Prelude.{Contains}
use Rattle.std.proofs.lemmas.List.Folds.{list_any-from_Any}
use Rattle.dns_base.specs.Header.{header_of}
use Rattle.dns_base.specs.Sections.{first_of, questions_of}
use Rattle.dns_message.specs.declared.question.Question.{Question}
use Rattle.dns_name.specs.Canonical.{same_name}
use Rattle.dns_service.specs.Codes.{notauth, notify_opcode, query_opcode, refused_code}
use Rattle.dns_service.specs.Req.{Req}
use Rattle.dns_authority.specs.Authorities.{asks_transfer}
use Rattle.dns_key_access.specs.Access.{access_refusal, asked_refusal, asker_of, forbids, is_forbidden, is_permitted, notify_refusal, question_refusal, refusal_at, transfer_refusal}
use Rattle.dns_key_access.specs.declared.access.Asker.{Asker}
use Rattle.dns_key_access.specs.Laws.{AsksWithout}
use Rattle.dns_key_access.specs.declared.access.KeyAccess.{KeyAccess}
use Rattle.dns_key_access.specs.declared.access.ZoneAccess.{ZoneAccess}

either : {A : Type 0} (b : Bool) (x y z : A) → x ≡ z → y ≡ z → (if b then x else y) ≡ z
either true x y z h g = h
either false x y z h g = g

no_question : (k : KeyAccess) (opcode : ℕ) (q : Question) (a : Asker) → k.transfers.items ≡ [] → k.notifies.items ≡ [] → question_refusal k opcode q a ≡ None
no_question k opcode q a t n =
    either (nat_eq opcode notify_opcode) (notify_refusal k q.qname a) (if nat_eq opcode query_opcode && asks_transfer q then transfer_refusal k q.qname a else None) None
    (ap (λ zs. refusal_at notauth (is_forbidden zs q.qname a)) n)
    (either (nat_eq opcode query_opcode && asks_transfer q) (transfer_refusal k q.qname a) None None (ap (λ zs. refusal_at refused_code (is_forbidden zs q.qname a)) t) refl)

pub unjudged : (k : KeyAccess) (opcode : ℕ) (o : Option Question) (a : Asker) → k.transfers.items ≡ [] → k.notifies.items ≡ [] → asked_refusal k opcode o a ≡ None
unjudged k opcode None a t n = refl
unjudged k opcode (Some q) a t n = no_question k opcode q a t n

-- a zone that none of its rules permits is forbidden among others
one_forbids : (zones : List ZoneAccess) (z : ZoneAccess) (name : List (List ℕ)) (a : Asker) → Contains zones z → same_name name z.apex ≡ true → is_permitted z.allowed.items a ≡ false → is_forbidden zones name a ≡ true
one_forbids zones z name a h e g =
    let forbidden : forbids name a z ≡ true = rw (e, g) refl in
    list_any-from_Any (forbids name a) zones (h.0, z, h.1, h.2, forbidden)

asked : (k : KeyAccess) (r : Req (Option ℕ)) (q : Question) (opcode : ℕ) → first_of (questions_of r.octets).0 ≡ Some q → (header_of r.octets).opcode ≡ opcode → access_refusal k r ≡ question_refusal k opcode q (asker_of r)
asked k r q opcode e g = ap (λ o. asked_refusal k (header_of r.octets).opcode o (asker_of r)) e ∙ ap (λ n. question_refusal k n q (asker_of r)) g

pub transfer_judged : (k : KeyAccess) (z : ZoneAccess) (r : Req (Option ℕ)) (q : Question) → AsksWithout k.transfers.items z r q → (header_of r.octets).opcode ≡ 0 → asks_transfer q ≡ true → access_refusal k r ≡ Some 5
transfer_judged k z r q h g t =
    asked k r q 0 h.question g ∙
    (ap (λ b. if b then transfer_refusal k q.qname (asker_of r) else None) t ∙
    ap (refusal_at 5) (one_forbids k.transfers.items z q.qname (asker_of r) h.zone h.apex h.forbidden))

pub notify_judged : (k : KeyAccess) (z : ZoneAccess) (r : Req (Option ℕ)) (q : Question) → AsksWithout k.notifies.items z r q → (header_of r.octets).opcode ≡ 4 → access_refusal k r ≡ Some 9
notify_judged k z r q h g = asked k r q 4 h.question g ∙ ap (refusal_at 9) (one_forbids k.notifies.items z q.qname (asker_of r) h.zone h.apex h.forbidden)

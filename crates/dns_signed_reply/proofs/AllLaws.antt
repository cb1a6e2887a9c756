-- Signing adds all.
use Rattle.std.proofs.Common.{◌≡◌, zero, suc, Bool, true, false, List, [], ◌∷◌, ◌++◌, refl, sym, subst, ◌∙◌, arith, inl, inr}
use Rattle.std.specs.Prelude.{◌⊎◌, if◌then◌else◌, nat_eq}
use Rattle.std.specs.List.{Contains, list_any}
use Rattle.std.proofs.lemmas.Bool.{and_from, and_parts, eq-eqb, eqb-true}
use Rattle.dns_base.specs.Records.{data_type}
use Rattle.dns_name.specs.Canonical.{same_name}
use Rattle.dns_message.specs.declared.question.Question.{Question}
use Rattle.dns_message.specs.declared.record.Record.{Record}
use Rattle.dns_name_server.specs.NameServerReplies.{name_server_reply}
use Rattle.dns_zone.specs.Owned.{ZoneState}
use Rattle.dns_zone.specs.ZoneReply.{ZoneReply}
use Rattle.dns_zone.specs.ZoneTurns.{zone_message}
use Rattle.dns_denial.specs.Signed.{is_beside}
use Rattle.dns_denial.proofs.ListLaws.{found}
use Rattle.dns_denial.proofs.NameLaws.{same_itself, same_trans}
use Rattle.dns_signed_zone.specs.SignedZones.{SignedState}
use Rattle.dns_signed_reply.proofs.MemberLaws.{in_left, in_right}
use Rattle.dns_signed_reply.specs.SignedReplies.{as_room, do_reply, has_room, proved_authority, rrsigs, rrsigs_of, with_rrsigs}
use Rattle.dns_signed_reply.specs.ReplyLaws.{HasAll, HasSignatures, SigningAddsAll}

-- ---- records of one RRset

beside_itself : (r : Record) → is_beside r r ≡ true
beside_itself r = and_from (same_name r.owner r.owner) (nat_eq (data_type r.rdata) (data_type r.rdata)) (same_itself r.owner) (eq-eqb (data_type r.rdata) (data_type r.rdata) refl)

beside_trans : (a b c : Record) → is_beside a b ≡ true → is_beside b c ≡ true → is_beside a c ≡ true
beside_trans a b c h k =
    let p = and_parts (same_name a.owner b.owner) (nat_eq (data_type a.rdata) (data_type b.rdata)) h in
    let q = and_parts (same_name b.owner c.owner) (nat_eq (data_type b.rdata) (data_type c.rdata)) k in
    and_from (same_name a.owner c.owner) (nat_eq (data_type a.rdata) (data_type c.rdata)) (same_trans a.owner b.owner c.owner p.0 q.0)
    (eq-eqb (data_type a.rdata) (data_type c.rdata) (eqb-true (data_type a.rdata) (data_type b.rdata) p.1 ∙ eqb-true (data_type b.rdata) (data_type c.rdata) q.1))

-- ---- RRSIGs of a record of a list

module _ (z : ZoneState) (all : List Record) where
  -- a record of the RRset, which was seen before, or whose RRSIGs are given
  record Pick (seen rs : List Record) (r : Record) : Type 0 where
    one : Record
    beside : is_beside r one ≡ true
    place : Contains seen one ⊎ (Contains rs one × ((g : Record) → Contains (rrsigs_of z all one) g → Contains (rrsigs z all seen rs) g))

  head : (seen : List Record) (y : Record) (ys : List Record) (b : Bool) → list_any (is_beside y) seen ≡ b → Pick seen (y ∷ ys) y
  head seen y ys true e = let f = found (is_beside y) seen e in record { one = f.one; beside = f.passes; place = inl f.there }
  head seen y ys false e = record {
    one = y;
    beside = beside_itself y;
    place = inr (
      (zero, omega arith, refl),
      λ g c. subst (λ (b : Bool). Contains ((if b then [] else rrsigs_of z all y) ++ rrsigs z all (y ∷ seen) ys) g) (sym e) (in_left (rrsigs_of z all y) (rrsigs z all (y ∷ seen) ys) g c),
    );
  }

  behind : (seen : List Record) (y : Record) (ys : List Record) (r : Record) → Pick (y ∷ seen) ys r → Pick seen (y ∷ ys) r
  behind seen y ys r p = by_place p.one p.beside p.place
    where
      by_place : (one : Record) → is_beside r one ≡ true → Contains (y ∷ seen) one ⊎ (Contains ys one × ((g : Record) → Contains (rrsigs_of z all one) g → Contains (rrsigs z all (y ∷ seen) ys) g)) → Pick seen (y ∷ ys) r
      by_place one b (inr (c, f)) = record {
        one = one;
        beside = b;
        place = inr ((suc c.0, omega (arith, c.1), c.2), λ g k. in_right (if list_any (is_beside y) seen then [] else rrsigs_of z all y) (rrsigs z all (y ∷ seen) ys) g (f g k));
      }
      by_place one b (inl (zero, l, e)) =
          let h = head seen y ys (list_any (is_beside y) seen) refl in
          record { one = h.one; beside = beside_trans r y h.one (subst (λ (x : Record). is_beside r x ≡ true) (sym e) b) h.beside; place = h.place }
      by_place one b (inl (suc k, l, e)) = record { one = one; beside = b; place = inl (k, omega (arith, l), e) }

  picked : (seen rs : List Record) (r : Record) → Contains rs r → Pick seen rs r
  picked seen [] r c = absurd (omega (arith, c.1))
  picked seen (y ∷ ys) r (zero, l, e) = subst (Pick seen (y ∷ ys)) e (head seen y ys (list_any (is_beside y) seen) refl)
  picked seen (y ∷ ys) r (suc k, l, e) = behind seen y ys r (picked (y ∷ seen) ys r (k, omega (arith, l), e))

-- records with their RRSIGs have those of each
pub has_signatures : (z : ZoneState) (rs : List Record) (r : Record) → Contains rs r → HasSignatures z rs (with_rrsigs z rs) r
has_signatures z rs r c = let p = picked z rs [] rs r c in by_place p.one p.beside p.place
  where
    by_place : (one : Record) → is_beside r one ≡ true → Contains [] one ⊎ (Contains rs one × ((g : Record) → Contains (rrsigs_of z rs one) g → Contains (rrsigs z rs [] rs) g)) → HasSignatures z rs (with_rrsigs z rs) r
    by_place one b (inl k) = absurd (omega (arith, k.1))
    by_place one b (inr (k, f)) = record { one = one; there = k; beside = b; signatures = λ g h. in_right rs (rrsigs z rs [] rs) g (f g h) }

all_signed : (s : SignedState) (q : Question) (r : ZoneReply) → HasAll s q r (do_reply s q r)
all_signed s q r = record { answers = has_signatures s.zone r.answers; authority = has_signatures s.zone (proved_authority s q r) }

as_room_keeps : (b : Bool) (s : SignedState) (q : Question) (r x : ZoneReply) → HasAll s q r x → HasAll s q r (if b then x else record x { additional = r.additional })
as_room_keeps true s q r x h = h
as_room_keeps false s q r x h = record { answers = h.answers; authority = h.authority }

pub signing_adds_all : SigningAddsAll
signing_adds_all s room o q e =
    let r = name_server_reply s.zone q in
    let x = do_reply s q r in
    subst (λ (b : Bool). HasAll s q r (if b then as_room room o r.additional x else r)) (sym e) (as_room_keeps (has_room room (zone_message o x)) s q r x (all_signed s q r))

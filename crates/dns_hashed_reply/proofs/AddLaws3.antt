-- Signing adds, and adds all; nothing is added without DO.
use Rattle.std.proofs.Common.{◌≡◌, ℕ, zero, suc, Bool, true, false, List, [], ◌∷◌, ◌++◌, refl, sym, ap, subst, ◌∙◌, arith, inl, inr, append_assoc}
use Rattle.std.specs.Prelude.{◌||◌, ◌⊎◌, if◌then◌else◌, nat_eq}
use Rattle.std.specs.List.{AllByRecursion, Contains, filter, flat_map, slice_get}
use Rattle.std.specs.List.Sorted.{IsPermutation}
use Rattle.std.proofs.lemmas.Bool.{and_parts, cases_Bool, or_left, or_right, true≢false}
use Rattle.std.proofs.lemmas.List.Sorted.{Contains-permutation, IsPermutation-sym}
use Rattle.dns_message.specs.declared.question.Question.{Question}
use Rattle.dns_message.specs.declared.record.Record.{Record}
use Rattle.dns_name_server.specs.NameServerReplies.{name_server_reply}
use Rattle.dns_zone.specs.Owned.{ZoneState, is_of}
use Rattle.dns_zone.specs.ZoneReply.{ZoneReply}
use Rattle.dns_zone.specs.ZoneTurns.{zone_message}
use Rattle.dns_denial.specs.Signed.{AddsOnly, is_added, is_signature, type_covered}
use Rattle.dns_signed_reply.specs.ReplyLaws.{HasSignatures}
use Rattle.dns_signed_reply.specs.SignedReplies.{as_room, asks_do, ds_of, has_room, rrsigs, with_rrsigs}
use Rattle.dns_signed_reply.proofs.AddLaws.{AreAdded, as_room_adds, both_added, ds_added, grown, rrsigs_added, same_reply}
use Rattle.dns_signed_reply.proofs.AllLaws.{has_signatures}
use Rattle.dns_signed_reply.proofs.MemberLaws.{from_filter, in_flat, in_left, in_right}
use Rattle.dns_hashed_zone.specs.HashedStates.{HashedState, hashed_records, is_hashed, joined}
use Rattle.dns_hashed_zone.specs.MadeHashed.{IsMadeOf3}
use Rattle.dns_hashed_reply.specs.HashedLaws.{HasAll3, NothingWithoutDo3, SigningAddsAll3, SigningAddsOnly3}
use Rattle.dns_hashed_reply.specs.HashedReplies.{failure, fails, group_at, group_or_none, hashed_do_reply, places, with_proofs}

-- ---- NSEC3 records and their RRSIGs are added

hashed_added : (r : Record) → is_hashed r ≡ true → is_added r ≡ true
hashed_added r h = by_test (cases_Bool (is_of 50 r))
  where
    second : (a b : Bool) → (a || b) ≡ true → a ≡ false → b ≡ true
    second true b k l = absurd (true≢false l)
    second false b k l = k

    by_test : (is_of 50 r ≡ true) ⊎ (is_of 50 r ≡ false) → is_added r ≡ true
    by_test (inl k) = or_right (is_of 46 r || is_of 47 r) (is_of 50 r || is_of 43 r) (or_left (is_of 50 r) (is_of 43 r) k)
    by_test (inr k) =
        or_left (is_of 46 r || is_of 47 r) (is_of 50 r || is_of 43 r)
        (or_left (is_of 46 r) (is_of 47 r) (and_parts (is_of 46 r) (nat_eq (type_covered r.rdata) 50) (second (is_of 50 r) (is_signature 50 r) h k)).0)

all_added : (rs : List Record) → ((r : Record) → Contains rs r → is_added r ≡ true) → AreAdded rs
all_added [] h = tt
all_added (x ∷ xs) h = (h x (zero, omega arith, refl), all_added xs (λ r c. h r (suc c.0, omega (arith, c.1), c.2)))

joined_added : (z : ZoneState) (s : HashedState) → IsMadeOf3 z s → AreAdded (joined s.groups)
joined_added z s m = all_added (joined s.groups) (λ r c.
    hashed_added r (from_filter is_hashed z.records r (Contains-permutation (joined s.groups) (hashed_records z.records) r (IsPermutation-sym (hashed_records z.records) (joined s.groups) m.groups_) c)).1)

front_added : (xs ys : List Record) → AreAdded (xs ++ ys) → AreAdded xs
front_added [] ys h = tt
front_added (x ∷ xs) ys h = (h.0, front_added xs ys h.1)

back_added : (xs ys : List Record) → AreAdded (xs ++ ys) → AreAdded ys
back_added [] ys h = h
back_added (x ∷ xs) ys h = back_added xs ys h.1

one_added : (gs : List (List Record)) (k : ℕ) → AreAdded (joined gs) → AreAdded (group_or_none (slice_get gs k))
one_added [] k h = tt
one_added (g ∷ gs) zero h = front_added g (joined gs) h
one_added (g ∷ gs) (suc k) h = one_added gs k (back_added g (joined gs) h)

groups_added : (s : HashedState) → AreAdded (joined s.groups) → (ks : List ℕ) → AreAdded (flat_map (group_at s) ks)
groups_added s h [] = tt
groups_added s h (k ∷ ks) = both_added (group_at s k) (flat_map (group_at s) ks) (one_added s.groups k h) (groups_added s h ks)

-- ---- the reply

signed3 : (s : HashedState) (q : Question) (r : ZoneReply) → AreAdded (joined s.groups) → AddsOnly r (hashed_do_reply s q r)
signed3 s q r h =
    let z = s.zone in
    let ds = ds_of z r.authority in
    let all = r.authority ++ ds in
    let last = rrsigs z all [] all in
    let ns = flat_map (group_at s) (places s q r.answers) in
    record {
      aa = refl;
      rcode = refl;
      answers = grown r.answers (rrsigs z r.answers [] r.answers) (rrsigs_added z r.answers [] r.answers);
      authority = record {
        more = ds ++ (last ++ ns);
        whole = append_assoc all last ns ∙ append_assoc r.authority ds (last ++ ns);
        added = both_added ds (last ++ ns) (ds_added z r.authority) (both_added last ns (rrsigs_added z all [] all) (groups_added s h (places s q r.answers)));
      };
      additional = grown r.additional (rrsigs z r.additional [] r.additional) (rrsigs_added z r.additional [] r.additional);
    }

module _ (s : HashedState) (room : ℕ) (o : List ℕ) (q : Question) where
  abbrev plain : ZoneReply
  plain = name_server_reply s.zone q

  abbrev cases : Bool → Bool → ZoneReply
  cases b f = if b then (if f then failure else as_room room o plain.additional (hashed_do_reply s q plain)) else plain

  by_do : AreAdded (joined s.groups) → (b : Bool) → AddsOnly plain (cases b false)
  by_do h true = as_room_adds (has_room room (zone_message o (hashed_do_reply s q plain))) plain (hashed_do_reply s q plain) (signed3 s q plain h)
  by_do h false = same_reply plain

  as_room_keeps : (b : Bool) (x : ZoneReply) → HasAll3 s q plain x → HasAll3 s q plain (if b then x else record x { additional = plain.additional })
  as_room_keeps true x h = h
  as_room_keeps false x h = record { answers = h.answers; authority = h.authority; nsec3s = h.nsec3s }

  all_signed : HasAll3 s q plain (hashed_do_reply s q plain)
  all_signed =
      let z = s.zone in
      let all = plain.authority ++ ds_of z plain.authority in
      let ks = places s q plain.answers in
      record {
        answers = has_signatures z plain.answers;
        authority = λ r c.
            let h = has_signatures z all r c in
            record { one = h.one; there = h.there; beside = h.beside; signatures = λ g k. in_left (with_rrsigs z all) (flat_map (group_at s) ks) g (h.signatures g k) };
        nsec3s = λ k c g d. in_right (with_rrsigs z all) (flat_map (group_at s) ks) g (in_flat (group_at s) ks k g c d);
      }

  pub only_added : AreAdded (joined s.groups) → fails s q plain.answers ≡ false → AddsOnly plain (cases (asks_do o) (fails s q plain.answers))
  only_added h f = subst (λ (b : Bool). AddsOnly plain (cases (asks_do o) b)) (sym f) (by_do h (asks_do o))

  pub all_added3 : asks_do o ≡ true → fails s q plain.answers ≡ false → HasAll3 s q plain (cases (asks_do o) (fails s q plain.answers))
  all_added3 e f =
      subst (λ (b : Bool). HasAll3 s q plain (cases b (fails s q plain.answers))) (sym e) (subst (λ (b : Bool). HasAll3 s q plain (cases true b)) (sym f)
      (as_room_keeps (has_room room (zone_message o (hashed_do_reply s q plain))) (hashed_do_reply s q plain) all_signed))

pub signing_adds_only3 : SigningAddsOnly3
signing_adds_only3 z s room o q m f = only_added s room o q (joined_added z s m) f

pub signing_adds_all3 : SigningAddsAll3
signing_adds_all3 s room o q e f = all_added3 s room o q e f

pub nothing_without_do3 : NothingWithoutDo3
nothing_without_do3 s room o q h = ap (λ (b : Bool). if b then with_proofs s room o q (name_server_reply s.zone q) else name_server_reply s.zone q) h

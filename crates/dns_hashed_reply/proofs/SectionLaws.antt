-- The sections of a reply with NSEC3 records.
use Rattle.std.proofs.Common.{◌≡◌, ℕ, zero, suc, ◌+◌, ◌≤◌, ◌<◌, Bool, true, false, List, [], ◌∷◌, ◌++◌, length, take, get_or, refl, ap, sym, subst, ◌∙◌, arith, append-nil}
use Rattle.std.specs.Prelude.{if◌then◌else◌, Option, Some, None, Result}
use Rattle.std.specs.List.{flat_map, slice_get}
use Rattle.std.proofs.lemmas.List.{take_all, take_more}
use Rattle.std.proofs.lemmas.List.Concat.{flat_map-append}
use Rattle.dns_base.specs.declared.error.PushError.{PushError}
use Rattle.dns_base.specs.Built.{Built}
use Rattle.dns_base.specs.Builds.{Builds, unlimited}
use Rattle.dns_message.specs.declared.question.Question.{Question}
use Rattle.dns_message.specs.declared.record.Record.{Record}
use Rattle.dns_zone.specs.Owned.{AreLawful, ZoneState}
use Rattle.dns_zone.specs.ZoneReply.{ZoneReply}
use Rattle.dns_zone.specs.ZoneTurns.{zone_message}
use Rattle.dns_name_server.specs.NameServerReplies.{name_server_reply}
use Rattle.dns_signed_reply.specs.PlainReplies.{AreAllLawful, said}
use Rattle.dns_signed_reply.specs.SignedReplies.{as_room, asks_do, ds_of, has_room, with_rrsigs}
use Rattle.dns_signed_reply.specs.declared.plain.PlainReply.{PlainReply}
use Rattle.dns_signed_reply.proofs.LawfulLaws.{both_lawful, ds_lawful, reply_lawful, with_lawful}
use Rattle.dns_hashed_zone.specs.HashedStates.{HashedState, joined}
use Rattle.dns_hashed_reply.specs.HashedReplies.{failure, fails, group_at, group_or_none, hashed_do_reply, hashed_reply, places, proved_authority3, proved_reply, with_proofs}

-- ---- the records of places

pub group_next : (s : HashedState) (ks : List ℕ) (i : ℕ) (now new : List Record) → i < length ks → now ≡ flat_map (group_at s) (take i ks) → new ≡ now ++ group_at s (get_or ks i 0) → new ≡ flat_map (group_at s) (take (i + 1) ks)
group_next s ks i now new l f g =
    let k = get_or ks i 0 in
    let j : flat_map (group_at s) (take (i + 1) ks) ≡ flat_map (group_at s) (take i ks) ++ group_at s k =
    ap (flat_map (group_at s)) (take_more ks i 0 l)
    ∙ (flat_map-append (group_at s) (take i ks) (k ∷ []) ∙ ap (λ (rs : List Record). flat_map (group_at s) (take i ks) ++ rs) (append-nil (group_at s k))) in
    g ∙ (ap (λ (rs : List Record). rs ++ group_at s k) f ∙ sym j)

pub group_all : (s : HashedState) (ks : List ℕ) (i : ℕ) (now : List Record) → length ks ≤ i → now ≡ flat_map (group_at s) (take i ks) → now ≡ flat_map (group_at s) ks
group_all s ks i now l e = e ∙ ap (flat_map (group_at s)) (take_all i ks l)

-- ---- sections

pub proved_is : (s : HashedState) (ks : List ℕ) (p : PlainReply) (z : ZoneState) (answers authority additional : List Record) → z ≡ s.zone → answers ≡ with_rrsigs z p.answers.items
    → authority ≡ with_rrsigs s.zone (p.authority.items ++ ds_of s.zone p.authority.items) ++ flat_map (group_at s) ks → additional ≡ with_rrsigs z p.additional.items
    → record { aa = p.aa; rcode = p.rcode; answers = answers; authority = authority; additional = additional } ≡ proved_reply s ks (said p)
proved_is s ks p z answers authority additional y e f g =
    let w : List Record → List Record → List Record → ZoneReply = λ l m n. record { aa = p.aa; rcode = p.rcode; answers = l; authority = m; additional = n } in
    let a : answers ≡ with_rrsigs s.zone p.answers.items = e ∙ ap (λ (x : ZoneState). with_rrsigs x p.answers.items) y in
    let d : additional ≡ with_rrsigs s.zone p.additional.items = g ∙ ap (λ (x : ZoneState). with_rrsigs x p.additional.items) y in
    λ i. w (a i) (f i) (d i)

pub failure_is : (answers authority additional : List Record) → answers ≡ [] → authority ≡ [] → additional ≡ [] → record { aa = false; rcode = 2; answers = answers; authority = authority; additional = additional } ≡ failure
failure_is answers authority additional e f g =
    let w : List Record → List Record → List Record → ZoneReply = λ l m n. record { aa = false; rcode = 2; answers = l; authority = m; additional = n } in
    λ i. w (e i) (f i) (g i)

-- ---- their data can be written

front_lawful : (xs ys : List Record) → AreLawful (xs ++ ys) → AreLawful xs
front_lawful [] ys h = tt
front_lawful (x ∷ xs) ys h = (h.0, front_lawful xs ys h.1)

back_lawful : (xs ys : List Record) → AreLawful (xs ++ ys) → AreLawful ys
back_lawful [] ys h = h
back_lawful (x ∷ xs) ys h = back_lawful xs ys h.1

one_lawful : (gs : List (List Record)) (k : ℕ) → AreLawful (joined gs) → AreLawful (group_or_none (slice_get gs k))
one_lawful [] k h = tt
one_lawful (g ∷ gs) zero h = front_lawful g (joined gs) h
one_lawful (g ∷ gs) (suc k) h = one_lawful gs k (back_lawful g (joined gs) h)

groups_lawful : (s : HashedState) → AreLawful (joined s.groups) → (ks : List ℕ) → AreLawful (flat_map (group_at s) ks)
groups_lawful s h [] = tt
groups_lawful s h (k ∷ ks) = both_lawful (group_at s k) (flat_map (group_at s) ks) (one_lawful s.groups k h) (groups_lawful s h ks)

pub failure_lawful : AreAllLawful failure
failure_lawful = record { answers = tt; authority = tt; additional = tt }

pub proved_lawful : (s : HashedState) (ks : List ℕ) (q : Question) → AreLawful s.zone.records → AreLawful (joined s.groups) → AreAllLawful (proved_reply s ks (name_server_reply s.zone q))
proved_lawful s ks q h g =
    let z = s.zone in
    let r = name_server_reply z q in
    let l = reply_lawful z h q in
    record {
      answers = with_lawful z h r.answers l.answers;
      authority = both_lawful (with_rrsigs z (r.authority ++ ds_of z r.authority)) (flat_map (group_at s) ks)
          (with_lawful z h (r.authority ++ ds_of z r.authority) (both_lawful r.authority (ds_of z r.authority) l.authority (ds_lawful z h r.authority))) (groups_lawful s g ks);
      additional = with_lawful z h r.additional l.additional;
    }

-- ---- the reply

module _ (s : HashedState) (room : ℕ) (o : List ℕ) (q : Question) (given : Result Built PushError) where
  abbrev plain : ZoneReply
  plain = name_server_reply s.zone q

  abbrev cases : Bool → ZoneReply
  cases b = if b then failure else as_room room o plain.additional (hashed_do_reply s q plain)

  no_room : (b : Bool) → (if b then failure else record failure { additional = [] }) ≡ failure
  no_room true = refl
  no_room false = refl

  -- where a hash collides
  pub as_failed : (r : ZoneReply) (unsigned : List Record) → r ≡ failure → unsigned ≡ [] → fails s q plain.answers ≡ true → Builds (unlimited (zone_message o (as_room room o unsigned r))) given → Builds (unlimited (zone_message o (with_proofs s room o q plain))) given
  as_failed r unsigned e u f h =
      let k : as_room room o unsigned r ≡ failure = (λ i. as_room room o (u i) (e i)) ∙ no_room (has_room room (zone_message o failure)) in
      subst (λ (b : Bool). Builds (unlimited (zone_message o (cases b))) given) (sym f) (subst (λ (x : ZoneReply). Builds (unlimited (zone_message o x)) given) k h)

  pub as_proved : (r : ZoneReply) (unsigned : List Record) (ks : List ℕ) → r ≡ proved_reply s ks plain → unsigned ≡ plain.additional → ks ≡ places s q plain.answers → fails s q plain.answers ≡ false
      → Builds (unlimited (zone_message o (as_room room o unsigned r))) given → Builds (unlimited (zone_message o (with_proofs s room o q plain))) given
  as_proved r unsigned ks e u k f h =
      let j : as_room room o unsigned r ≡ cases false = λ i. as_room room o (u i) ((e ∙ ap (λ (l : List ℕ). proved_reply s l plain) k) i) in
      subst (λ (b : Bool). Builds (unlimited (zone_message o (cases b))) given) (sym f) (subst (λ (x : ZoneReply). Builds (unlimited (zone_message o x)) given) j h)

  -- by DO
  pub with_do3 : asks_do o ≡ true → Builds (unlimited (zone_message o (with_proofs s room o q plain))) given → Builds (unlimited (zone_message o (hashed_reply s room o q))) given
  with_do3 e h = subst (λ (b : Bool). Builds (unlimited (zone_message o (if b then with_proofs s room o q plain else plain))) given) (sym e) h

  pub without_do3 : (z : ZoneState) → z ≡ s.zone → asks_do o ≡ false → Builds (unlimited (zone_message o (name_server_reply z q))) given → Builds (unlimited (zone_message o (hashed_reply s room o q))) given
  without_do3 z y e h =
      subst (λ (b : Bool). Builds (unlimited (zone_message o (if b then with_proofs s room o q plain else plain))) given) (sym e) (subst (λ (x : ZoneState). Builds (unlimited (zone_message o (name_server_reply x q))) given) y h)

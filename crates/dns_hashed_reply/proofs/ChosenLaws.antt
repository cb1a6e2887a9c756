-- The NSEC3s of the places that are chosen.
use Rattle.std.proofs.Common.{◌≡◌, ℕ, zero, suc, ◌<◌, Bool, true, false, List, [], ◌∷◌, ◌++◌, length, map, get_or, nat_eq, refl, ap, sym, subst, ◌∙◌, arith, inl, inr}
use Rattle.std.specs.Prelude.{◌⊎◌, Some, if◌then◌else◌, Option, None}
use Rattle.std.specs.List.{Contains, filter, flat_map, list_any, slice_get}
use Rattle.std.proofs.lemmas.Bool.{true≢false, cases_Bool, false_from_ne_true}
use Rattle.std.proofs.lemmas.Bool.Decides.{nat_tests}
use Rattle.std.proofs.lemmas.Option.{slice_get_read}
use Rattle.dns_message.specs.declared.question.Question.{Question}
use Rattle.dns_message.specs.declared.record.Record.{Record}
use Rattle.dns_name_server.specs.NameServerReplies.{name_server_reply}
use Rattle.dns_route.specs.Routes.{ends_name}
use Rattle.dns_zone.specs.ZoneReply.{exists, follows}
use Rattle.dns_denial.specs.Accepted3.{IsProvable, is_accepted3}
use Rattle.dns_denial.specs.Denials.{CanBeDenied}
use Rattle.dns_denial.specs.Hashes.{AreSorted3}
use Rattle.dns_denial.specs.Nsec3.{Hashing, IsNear, IsWhole3, Nsec3State, hash_of}
use Rattle.dns_denial.proofs.HashedChoice.{no_chain}
use Rattle.dns_denial.proofs.ListLaws.{found, present}
use Rattle.dns_signed_reply.specs.SignedReplies.{asked_names, led_to}
use Rattle.dns_signed_reply.proofs.MemberLaws.{from_filter, from_flat, in_flat, in_left}
use Rattle.dns_hashed_zone.specs.HashedStates.{HashedState}
use Rattle.dns_hashed_zone.specs.Searches.{near_place}
use Rattle.dns_hashed_zone.proofs.PlaceLaws.{nearest_at, within}
use Rattle.dns_hashed_reply.specs.HashedReplies.{behind_once, chosen3, fails, fails_at, nsec3_or_none, places, places_of, proved_names}
use Rattle.dns_hashed_reply.specs.HashedLaws.{HashedRepliesAreAccepted}
use Rattle.dns_hashed_reply.proofs.HashedAccept.{accepted3}

-- ---- places, each once

same_number : (i j : ℕ) → nat_eq i j ≡ true → i ≡ j
same_number i j e = grind (arith, nat_tests)

kept_seen : (seen ks : List ℕ) (k : ℕ) → Contains seen k → Contains (behind_once seen ks) k
kept_seen seen [] k c = c
kept_seen seen (j ∷ js) k c = by_test (kept_seen seen js k c) (kept_seen (seen ++ j ∷ []) js k (in_left seen (j ∷ []) k c)) (list_any (nat_eq j) seen)
  where
    by_test : Contains (behind_once seen js) k → Contains (behind_once (seen ++ j ∷ []) js) k → (b : Bool) → Contains (if b then behind_once seen js else behind_once (seen ++ j ∷ []) js) k
    by_test f g true = f
    by_test f g false = g

at_end : (xs : List ℕ) (k : ℕ) → Contains (xs ++ k ∷ []) k
at_end [] k = (zero, omega arith, refl)
at_end (x ∷ xs) k = let i = at_end xs k in (suc i.0, omega (arith, i.1), i.2)

pub kept_once : (seen ks : List ℕ) (k : ℕ) → Contains ks k → Contains (behind_once seen ks) k
kept_once seen [] k c = absurd (omega (arith, c.1))
kept_once seen (j ∷ js) k (suc i, l, e) = by_test (kept_once seen js k (i, omega (arith, l), e)) (kept_once (seen ++ j ∷ []) js k (i, omega (arith, l), e)) (list_any (nat_eq j) seen)
  where
    by_test : Contains (behind_once seen js) k → Contains (behind_once (seen ++ j ∷ []) js) k → (b : Bool) → Contains (if b then behind_once seen js else behind_once (seen ++ j ∷ []) js) k
    by_test f g true = f
    by_test f g false = g
kept_once seen (j ∷ js) k (zero, l, e) = by_test (list_any (nat_eq j) seen) refl
  where
    by_test : (b : Bool) → list_any (nat_eq j) seen ≡ b → Contains (if b then behind_once seen js else behind_once (seen ++ j ∷ []) js) k
    by_test true t = let f = found (nat_eq j) seen t in kept_seen seen js k (subst (λ (x : ℕ). Contains seen x) (sym (same_number j f.one f.passes) ∙ e) f.there)
    by_test false t = kept_seen (seen ++ j ∷ []) js k (subst (λ (x : ℕ). Contains (seen ++ j ∷ []) x) e (at_end seen j))

-- ---- what is at a place

in_map : {X Y : Type 0} (f : X → Y) (xs : List X) (x : X) → Contains xs x → Contains (map f xs) (f x)
in_map f [] x c = absurd (omega (arith, c.1))
in_map {Y = Y} f (y ∷ ys) x (zero, l, e) = subst (λ (v : _). Contains (f y ∷ map f ys) (f v)) e (zero, omega arith, refl)
in_map f (y ∷ ys) x (suc k, l, e) = let i = in_map f ys x (k, omega (arith, l), e) in (suc i.0, omega (arith, i.1), i.2)

one_there : (ns : List Nsec3State) (k : ℕ) → k < length ns → (n : Nsec3State) × (slice_get ns k ≡ Some n) × (n ≡ get_or ns k n)
one_there [] k l = absurd (omega (arith, l))
one_there (n ∷ ns) zero l = (n, refl, refl)
one_there (n ∷ ns) (suc k) l = one_there ns k (omega (arith, l))

of_list : (ns : List Nsec3State) (k : ℕ) (n : Nsec3State) → Contains (nsec3_or_none (slice_get ns k)) n → Contains ns n
of_list [] k n c = absurd (omega (arith, c.1))
of_list (m ∷ ns) zero n (zero, l, e) = (zero, omega arith, e)
of_list (m ∷ ns) zero n (suc i, l, e) = absurd (omega (arith, l))
of_list (m ∷ ns) (suc k) n c = let i = of_list ns k n c in (suc i.0, omega (arith, i.1), i.2)

module _ (s : HashedState) (q : Question) (answers : List Record) (w : IsWhole3 s.zone s.hashing s.nsec3s) (sorted : AreSorted3 s.nsec3s) (name : List (List ℕ)) (inside : ends_name name s.zone.apex ≡ true) (c : Contains (asked_names s.zone q answers) name) where
  some : 0 < length s.nsec3s
  some = by_list s.nsec3s refl
    where
      by_list : (ns : List Nsec3State) → s.nsec3s ≡ ns → 0 < length s.nsec3s
      by_list [] e = absurd (no_chain s.hashing s.nsec3s name e s.zone w inside)
      by_list (n ∷ ns) e = omega (arith, ap length e)

  of_chain : (n : Nsec3State) → Contains (chosen3 s q answers) n → Contains s.nsec3s n
  of_chain n k = let f = from_flat (λ (i : ℕ). nsec3_or_none (slice_get s.nsec3s i)) (places s q answers) n k in of_list s.nsec3s f.0 n f.2

  all : (x : List (List ℕ)) → Contains (proved_names s q.qtype name) x → (n : Nsec3State) × Contains (chosen3 s q answers) n × IsNear s.hashing s.nsec3s x n
  all x k =
      let p = near_place s.hashing s.nsec3s x in
      let o = one_there s.nsec3s p (within s.nsec3s (hash_of s.hashing x) some sorted) in
      let here : Contains (places_of s q.qtype name) p = in_map (near_place s.hashing s.nsec3s) (proved_names s q.qtype name) x k in
      let there : Contains (places s q answers) p = kept_once [] (flat_map (places_of s q.qtype) (asked_names s.zone q answers)) p (in_flat (places_of s q.qtype) (asked_names s.zone q answers) name p c here) in (
        o.0,
        in_flat (λ (i : ℕ). nsec3_or_none (slice_get s.nsec3s i)) (places s q answers) p o.0 there (subst (λ (r : Option Nsec3State). Contains (nsec3_or_none r) o.0) (sym o.1) (zero, omega arith, refl)),
        nearest_at s.nsec3s (hash_of s.hashing x) sorted some o.0 o.2,
      )

  fine : fails s q answers ≡ false → fails_at s q.qtype name ≡ false
  fine f = false_from_ne_true (fails_at s q.qtype name) (λ e. true≢false (sym (present (fails_at s q.qtype) (asked_names s.zone q answers) name c e) ∙ f))

  pub accepted : CanBeDenied s.zone name q.qtype → IsProvable s.zone s.hashing s.nsec3s q.qtype name → fails s q answers ≡ false → is_accepted3 s.zone s.hashing (chosen3 s q answers) q.qtype name ≡ true
  accepted d v f = accepted3 s (chosen3 s q answers) q.qtype name w inside d v of_chain (fine f) all

-- the names that a reply is asked for are in the zone
in_zone : (s : HashedState) (q : Question) (answers : List Record) (name : List (List ℕ)) → ends_name q.qname s.zone.apex ≡ true → Contains (asked_names s.zone q answers) name → ends_name name s.zone.apex ≡ true
in_zone s q answers name h (zero, l, e) = subst (λ (x : List (List ℕ)). ends_name x s.zone.apex ≡ true) e h
in_zone s q answers name h (suc k, l, e) = by_follow (follows q.qtype) (k, omega (arith, l), e)
  where
    by_follow : (b : Bool) → Contains (if b then filter (λ (x : List (List ℕ)). ends_name x s.zone.apex) (flat_map led_to answers) else []) name → ends_name name s.zone.apex ≡ true
    by_follow true c = (from_filter (λ (x : List (List ℕ)). ends_name x s.zone.apex) (flat_map led_to answers) name c).1
    by_follow false c = absurd (omega (arith, c.1))

pub hashed_replies_are_accepted : HashedRepliesAreAccepted
hashed_replies_are_accepted s q name w sorted h c d v f =
    let answers = (name_server_reply s.zone q).answers in
    accepted s q answers w sorted name (in_zone s q answers name h c) c d v f

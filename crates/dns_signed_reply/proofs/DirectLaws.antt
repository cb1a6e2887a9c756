-- Replies that give records of a name at once.
use Rattle.std.proofs.Common.{◌≡◌, ℕ, Bool, true, false, List, [], ◌∷◌, ◌++◌, length, cond, nat_eq, Some, None, refl, ap, sym, subst, ◌∙◌, arith, append-nil}
use Rattle.std.specs.Prelude.{◌||◌, ◌&&◌, ◌==◌, not, if◌then◌else◌}
use Rattle.std.specs.List.{AllByRecursion, filter, flat_map, list_any}
use Rattle.std.proofs.lemmas.Bool.{and_parts}
use Rattle.std.proofs.lemmas.Bool.Decides.{nat_tests}
use Rattle.dns_name.specs.Canonical.{same_name}
use Rattle.dns_base.specs.Records.{data_type}
use Rattle.dns_message.specs.declared.question.Question.{Question}
use Rattle.dns_message.specs.declared.record.Record.{Record}
use Rattle.dns_route.specs.Routes.{ends_name}
use Rattle.dns_zone.specs.Owned.{AreLawful, ZoneState, is_asked, is_of, is_owned, target}
use Rattle.dns_zone.specs.Places.{at_places}
use Rattle.dns_zone.specs.ZoneReply.{ZoneReply, authoritative, follows}
use Rattle.dns_zone.specs.ZoneTurns.{zone_message}
use Rattle.dns_zone_tree.specs.Kinds.{kind_places}
use Rattle.dns_zone_tree.specs.Walks.{ReachesNode}
use Rattle.dns_zone_tree.specs.declared.kinds.Kinds.{Kinds}
use Rattle.dns_denial.specs.Signed.{is_beside}
use Rattle.dns_denial.proofs.NameLaws.{same_back, same_trans}
use Rattle.dns_name_server.specs.NameServerReplies.{name_server_reply, reply_from}
use Rattle.dns_name_server.specs.Steps.{followed_alias}
use Rattle.dns_name_server.proofs.StepLaws.{own_found, own_records, reply_on}
use Rattle.dns_signed_zone.specs.SignedZones.{SignedState}
use Rattle.dns_signed_reply.specs.DirectReplies.{IsDirect, head_rrsigs}
use Rattle.dns_signed_reply.specs.PlainReplies.{gives}
use Rattle.dns_signed_reply.specs.SignedReplies.{as_room, asked_names, denials, denied, denied_names, do_reply, has_room, have_signatures, led_by, led_to, nearest, nsec_records_of, rrsigs, rrsigs_of, with_rrsigs}
use Rattle.dns_signed_reply.proofs.LawfulLaws.{of_lawful}
use Rattle.dns_signed_reply.proofs.NearLaws.{node_denied, not_zero}
use Rattle.dns_signed_reply.proofs.NodeLaws.{node_asked}
use Rattle.dns_signed_reply.proofs.RrsigLaws.{of_unsigned}

-- ---- tests

none_of_three : (a b c : Bool) → not (a || (b || c)) ≡ true → (a ≡ false) × ((b ≡ false) × (c ≡ false))
none_of_three true b c h = absurd (cc)
none_of_three false true c h = absurd (cc)
none_of_three false false true h = absurd (cc)
none_of_three false false false h = (refl, (refl, refl))

pub or_true : (b : Bool) → (b || true) ≡ true
or_true true = refl
or_true false = refl

pub none_either : {A : Type 0} (b : Bool) (x : A) → x ≡ (if b then x else x)
none_either true x = refl
none_either false x = refl

pub equal_of : (a t : ℕ) → nat_eq a t ≡ true → a ≡ t
equal_of a t h = grind (arith, nat_tests)

equal_to : (a b t : ℕ) → a ≡ t → b ≡ t → nat_eq a b ≡ true
equal_to a b t h k = grind (arith, nat_tests)

-- what a filter keeps passes its test
pub all_kept : (p : Record → Bool) (rs : List Record) → AllByRecursion (λ (r : Record). p r ≡ true) (filter p rs)
all_kept p [] = tt
all_kept p (r ∷ rs) = by_test (p r) refl (all_kept p rs)
  where
    by_test : (b : Bool) → p r ≡ b → AllByRecursion (λ (x : Record). p x ≡ true) (filter p rs) → AllByRecursion (λ (x : Record). p x ≡ true) (cond b (r ∷ filter p rs) (filter p rs))
    by_test true e w = (e, w)
    by_test false e w = w

-- ---- records of one RRset

-- a record of a name, of a type
pub record IsOwn (name : List (List ℕ)) (t : ℕ) (r : Record) : Type 0 where
  pub owner : same_name r.owner name ≡ true
  pub type_ : data_type r.rdata ≡ t

module _ (name : List (List ℕ)) (t : ℕ) (no_any : nat_eq t 255 ≡ false) where
  own_asked : (r : Record) → is_asked name t r ≡ true → IsOwn name t r
  own_asked r h =
      let p = and_parts (is_owned name r) (nat_eq t 255 || is_of t r) h in
      record { owner = p.0; type_ = equal_of (data_type r.rdata) t (sym (ap (λ (b : Bool). b || is_of t r) no_any) ∙ p.1) }

  pub all_own : (rs : List Record) → AllByRecursion (λ (r : Record). is_asked name t r ≡ true) rs → AllByRecursion (IsOwn name t) rs
  all_own [] w = tt
  all_own (r ∷ rs) w = (own_asked r w.0, all_own rs w.1)

pub beside_own : (name : List (List ℕ)) (t : ℕ) (r s : Record) → IsOwn name t r → IsOwn name t s → is_beside r s ≡ true
beside_own name t r s a b =
    λ i. same_trans r.owner name s.owner a.owner (same_back s.owner name b.owner) i && equal_to (data_type r.rdata) (data_type s.rdata) t a.type_ b.type_ i

-- after the first of them none has RRSIGs
module _ (z : ZoneState) (all : List Record) (name : List (List ℕ)) (t : ℕ) where
  none_more : (seen rest : List Record) → ((r : Record) → IsOwn name t r → list_any (is_beside r) seen ≡ true) → AllByRecursion (IsOwn name t) rest → rrsigs z all seen rest ≡ []
  none_more seen [] k w = refl
  none_more seen (r ∷ rest) k w =
      (λ i. (if k r w.0 i then [] else rrsigs_of z all r) ++ rrsigs z all (r ∷ seen) rest)
      ∙ none_more (r ∷ seen) rest (λ x o. ap (λ (b : Bool). is_beside x r || b) (k x o) ∙ or_true (is_beside x r)) w.1

none_signed : (owner name : List (List ℕ)) (t : ℕ) → nat_eq t 46 ≡ false → (rs : List Record) → AllByRecursion (IsOwn name t) rs → have_signatures rs owner ≡ false
none_signed owner name t n [] w = refl
none_signed owner name t n (r ∷ rs) w =
    let o : is_of 46 r ≡ false = ap (λ (x : ℕ). nat_eq x 46) w.0.type_ ∙ n in
    λ i. (o i && same_name r.owner owner) || none_signed owner name t n rs w.1 i

own_rrsigs : (z : ZoneState) (name : List (List ℕ)) (t : ℕ) → nat_eq t 46 ≡ false → (rs : List Record) → AllByRecursion (IsOwn name t) rs → rrsigs z rs [] rs ≡ head_rrsigs z rs
own_rrsigs z name t n [] w = refl
own_rrsigs z name t n (r ∷ rs) w =
    ap (λ (l : List Record). rrsigs_of z (r ∷ rs) r ++ l) (none_more z (r ∷ rs) name t (r ∷ []) rs (λ x o. ap (λ (b : Bool). b || false) (beside_own name t x r o w.0)) w.1)
    ∙ (append-nil (rrsigs_of z (r ∷ rs) r) ∙ of_unsigned z (r ∷ rs) [] r [] (none_signed r.owner name t n (r ∷ rs) w))

-- nor do they lead on
none_led : (name : List (List ℕ)) (t : ℕ) → nat_eq t 5 ≡ false → (rs : List Record) → AllByRecursion (IsOwn name t) rs → flat_map led_to rs ≡ []
none_led name t n [] w = refl
none_led name t n (r ∷ rs) w =
    let o : is_of 5 r ≡ false = ap (λ (x : ℕ). nat_eq x 5) w.0.type_ ∙ n in
    λ i. (if o i then led_by (target r.rdata) else []) ++ none_led name t n rs w.1 i

-- ---- the reply

module _ (s : SignedState) (q : Question) (m : Kinds) (h : ReachesNode s.zone q.qtype q.qname m) (d : IsDirect q.qtype m) where
  abbrev given : List Record
  given = at_places s.zone.records (kind_places q.qtype m)

  parts : (nat_eq q.qtype 5 ≡ false) × ((nat_eq q.qtype 46 ≡ false) × (nat_eq q.qtype 255 ≡ false))
  parts = none_of_three (nat_eq q.qtype 5) (nat_eq q.qtype 46) (nat_eq q.qtype 255) d.plain

  pub own_given : AllByRecursion (IsOwn q.qname q.qtype) given
  own_given =
      all_own q.qname q.qtype parts.1.1 given
      (subst (λ (l : List Record). AllByRecursion (λ (r : Record). is_asked q.qname q.qtype r ≡ true) l) (sym (node_asked s.zone q.qname q.qtype m h q.qtype)) (all_kept (is_asked q.qname q.qtype) s.zone.records))

  no_alias : None ≡ followed_alias q.qtype (at_places s.zone.records (kind_places 5 m))
  no_alias = none_either (follows q.qtype) None ∙ sym (ap (λ (js : List ℕ). followed_alias q.qtype (at_places s.zone.records js)) d.no_alias)

  reply_is : ends_name q.qname s.zone.apex ≡ true → name_server_reply s.zone q ≡ authoritative given
  reply_is w =
      reply_on s.zone q.qtype 128 127 [] q.qname refl (ap (λ (b : Bool). b && not (list_any (same_name q.qname) [])) w)
      ∙ (own_records s.zone q.qtype q.qname m h (reply_from s.zone q.qtype 127 (q.qname ∷ [])) no_alias ∙ sym (own_found s.zone q.qtype q.qname m h d.some))

  given_type : true ≡ gives q.qtype (Some m)
  given_type = sym (ap (λ (b : Bool). b || (follows q.qtype && not (length (kind_places 5 m) == 0))) (not_zero (length (kind_places q.qtype m)) d.some))

  none_denied : denials s q given ≡ []
  none_denied =
      let n : asked_names s.zone q given ≡ q.qname ∷ [] =
      ap (λ (l : List (List (List ℕ))). q.qname ∷ (if follows q.qtype then filter (λ (name : List (List ℕ)). ends_name name s.zone.apex) l else [])) (none_led q.qname q.qtype parts.0 given own_given)
      ∙ ap (λ (l : List (List (List ℕ))). q.qname ∷ l) (sym (none_either (follows q.qtype) [])) in
      let e : denied_names s.zone q given ≡ [] = ap (flat_map (denied s.zone q.qtype)) n ∙ (append-nil (denied s.zone q.qtype q.qname) ∙ node_denied s.zone q.qtype q.qname m true h given_type) in
      ap (λ (l : List (List (List ℕ))). nsec_records_of s.zone [] (flat_map (nearest s.nsecs) l)) e

  signed_is : do_reply s q (authoritative given) ≡ authoritative (given ++ head_rrsigs s.zone given)
  signed_is =
      let f : List Record → List Record → ZoneReply = λ l n. record (authoritative given) { answers = given ++ l; authority = with_rrsigs s.zone n } in
      λ i. f (own_rrsigs s.zone q.qname q.qtype parts.1.0 given own_given i) (none_denied i)

  pub direct_is : (o : List ℕ) (room : ℕ) → ends_name q.qname s.zone.apex ≡ true →
      authoritative (given ++ head_rrsigs s.zone given) ≡ as_room room o (name_server_reply s.zone q).additional (do_reply s q (name_server_reply s.zone q))
  direct_is o room w =
      let r : ZoneReply = authoritative (given ++ head_rrsigs s.zone given) in
      let e : do_reply s q (name_server_reply s.zone q) ≡ r = ap (do_reply s q) (reply_is w) ∙ signed_is in
      none_either (has_room room (zone_message o r)) r ∙ sym (λ i. as_room room o (reply_is w i).additional (e i))

-- ---- that can be written

pub head_lawful : (z : ZoneState) → AreLawful z.records → (rs : List Record) → AreLawful (head_rrsigs z rs)
head_lawful z h [] = tt
head_lawful z h (r ∷ rs) = of_lawful z h [] r

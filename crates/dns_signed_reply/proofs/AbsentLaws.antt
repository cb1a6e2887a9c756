-- Replies that a name doesn't exist: the NSEC records of two owners, and the RRSIGs of these.
use Rattle.std.proofs.Common.{◌≡◌, ℕ, Bool, true, false, List, [], ◌∷◌, ◌++◌, map, cond, nat_eq, Option, Some, None, refl, ap, sym, subst, ◌∙◌, append_assoc, append-nil}
use Rattle.std.specs.Prelude.{◌||◌, ◌&&◌, not, if◌then◌else◌}
use Rattle.std.specs.List.{AllByRecursion, Contains, filter, flat_map, list_any}
use Rattle.std.proofs.lemmas.Bool.{true≢false, false_from_ne_true, and_parts, not-true}
use Rattle.dns_name.specs.Canonical.{same_name}
use Rattle.std.proofs.lemmas.List.{map-append}
use Rattle.dns_base.specs.Msg.{ResourceRecord}
use Rattle.dns_base.specs.Records.{data_type, record_of}
use Rattle.dns_message.specs.declared.question.Question.{Question}
use Rattle.dns_message.specs.declared.record.Record.{Record}
use Rattle.dns_route.specs.Routes.{ends_name}
use Rattle.dns_zone.specs.Owned.{ZoneState, asked_records, is_asked, is_of, is_owned}
use Rattle.dns_zone.specs.Places.{at_places}
use Rattle.dns_zone.specs.ZoneReply.{ZoneReply, denied as negative, exists, follows, negative_soa}
use Rattle.dns_zone.specs.ZoneTurns.{zone_message}
use Rattle.dns_zone_tree.proofs.DownLaws.{asked_same, exists_same}
use Rattle.dns_zone_tree.specs.Kinds.{kind_places}
use Rattle.dns_zone_tree.specs.Regions.{Region, Within, BelowCut, BelowDname, asked_region}
use Rattle.dns_zone_tree.specs.Walks.{ReachesNode}
use Rattle.dns_zone_tree.specs.Wildcards.{had_records, wildcard}
use Rattle.dns_zone_tree.specs.declared.kinds.Kinds.{Kinds}
use Rattle.dns_denial.specs.Chains.{IsWhole, is_below_cut}
use Rattle.dns_denial.specs.Nsecs.{AreSorted, NsecState}
use Rattle.dns_denial.specs.Signed.{is_beside}
use Rattle.dns_denial.proofs.ListLaws.{found}
use Rattle.dns_denial.proofs.NameLaws.{ends_trans, same_back, same_ends, same_trans}
use Rattle.dns_denial.proofs.RegionLaws.{asked_below, reached}
use Rattle.dns_denial.proofs.SameLaws.{below_as, dname_as}
use Rattle.dns_denial.proofs.StartLaws.{starts, within_all}
use Rattle.dns_name_server.specs.NameServerReplies.{name_server_reply}
use Rattle.dns_name_server.specs.Steps.{head_of}
use Rattle.dns_signed_zone.specs.SignedZones.{SignedState}
use Rattle.dns_signed_reply.specs.DirectReplies.{AreOwners, IsAbsent, IsReached, absent_authority, covering, first_covering, head_rrsigs, negatives, nsec_rrsigs_of, owner_nsecs, owner_rrsigs}
use Rattle.dns_signed_reply.specs.SignedReplies.{as_room, asked_names, denials, denied, denied_names, do_reply, ds_of, has_room, have_signatures, if_within, nearest, nsec_records_of, others, owned_records, reached_records, rrsigs, rrsigs_of, with_rrsigs}
use Rattle.dns_signed_reply.proofs.DirectLaws.{IsOwn, all_kept, all_own, beside_own, equal_of, none_either, or_true}
use Rattle.dns_signed_reply.proofs.GivenLaws.{sole}
use Rattle.dns_signed_reply.proofs.NearLaws.{asked_dname}
use Rattle.dns_signed_reply.proofs.NodeLaws.{inside_is, node_asked, own_had}
use Rattle.dns_signed_reply.proofs.RrsigLaws.{any_back, back, of_unsigned}
use Rattle.dns_signed_reply.proofs.StepLaws.{absent_is}

-- ---- tests of lists

or_assoc : (a b c : Bool) → (a || (b || c)) ≡ ((a || b) || c)
or_assoc true b c = refl
or_assoc false b c = refl

or_comm : (a b : Bool) → (a || b) ≡ (b || a)
or_comm true b = sym (or_true b)
or_comm false true = refl
or_comm false false = refl

any_join : (p : Record → Bool) (xs ys : List Record) → list_any p (xs ++ ys) ≡ (list_any p xs || list_any p ys)
any_join p [] ys = refl
any_join p (x ∷ xs) ys = ap (λ (b : Bool). p x || b) (any_join p xs ys) ∙ or_assoc (p x) (list_any p xs) (list_any p ys)

-- what holds of all holds of those that are kept
kept_all : (P : Record → Type 0) (p : Record → Bool) (rs : List Record) → AllByRecursion P rs → AllByRecursion P (filter p rs)
kept_all P p [] w = tt
kept_all P p (r ∷ rs) w = by_test (p r) (kept_all P p rs w.1)
  where
    by_test : (b : Bool) → AllByRecursion P (filter p rs) → AllByRecursion P (cond b (r ∷ filter p rs) (filter p rs))
    by_test true k = (w.0, k)
    by_test false k = k

joined_all : (P : Record → Type 0) (xs ys : List Record) → AllByRecursion P xs → AllByRecursion P ys → AllByRecursion P (xs ++ ys)
joined_all P [] ys w v = v
joined_all P (x ∷ xs) ys w v = (w.0, joined_all P xs ys w.1 v)

mapped_all : (P Q : Record → Type 0) → ((r : Record) → P r → Q r) → (rs : List Record) → AllByRecursion P rs → AllByRecursion Q rs
mapped_all P Q f [] w = tt
mapped_all P Q f (r ∷ rs) w = (f r w.0, mapped_all P Q f rs w.1)

kept_none : (p : Record → Bool) (rs : List Record) → AllByRecursion (λ (r : Record). p r ≡ false) rs → filter p rs ≡ []
kept_none p [] w = refl
kept_none p (r ∷ rs) w = λ i. cond (w.0 i) (r ∷ filter p rs) (kept_none p rs w.1 i)

kept_whole : (p : Record → Bool) (rs : List Record) → AllByRecursion (λ (r : Record). p r ≡ true) rs → filter p rs ≡ rs
kept_whole p [] w = refl
kept_whole p (r ∷ rs) w = ap (λ (b : Bool). cond b (r ∷ filter p rs) (filter p rs)) w.0 ∙ ap (λ (l : List Record). r ∷ l) (kept_whole p rs w.1)

any_none : (p : Record → Bool) (rs : List Record) → AllByRecursion (λ (r : Record). p r ≡ false) rs → list_any p rs ≡ false
any_none p [] w = refl
any_none p (r ∷ rs) w = λ i. w.0 i || any_none p rs w.1 i

-- ---- the NSEC records that a name owns

module _ (z : ZoneState) (name : List (List ℕ)) where
  within_own : (g : Region) (rs : List Record) → AllByRecursion (IsOwn name 47) rs → AllByRecursion (IsOwn name 47) (if_within g rs)
  within_own Within rs w = w
  within_own (BelowCut ss) rs w = tt
  within_own (BelowDname ds) rs w = tt

  either_own : (b : Bool) (rs : List Record) → AllByRecursion (IsOwn name 47) rs → AllByRecursion (IsOwn name 47) (if b then rs else [])
  either_own true rs w = w
  either_own false rs w = tt

  pub owned_own : AllByRecursion (IsOwn name 47) (owned_records z name 47)
  owned_own =
      either_own (ends_name name z.apex) (if_within (asked_region z 43 name) (asked_records z name 47))
      (within_own (asked_region z 43 name) (asked_records z name 47) (all_own name 47 refl (asked_records z name 47) (all_kept (is_asked name 47) z.records)))

-- ---- RRSIGs by RRset, if none are there yet

module _ (z : ZoneState) (all : List Record) (none : (owner : List (List ℕ)) → have_signatures all owner ≡ false) where
  -- after the first of an RRset none has any
  passed : (name : List (List ℕ)) (t : ℕ) (seen rs rest : List Record) → ((r : Record) → IsOwn name t r → list_any (is_beside r) seen ≡ true) → AllByRecursion (IsOwn name t) rs → rrsigs z all seen (rs ++ rest) ≡ rrsigs z all (back rs seen) rest
  unfolding back
  passed name t seen [] rest k w = refl
  passed name t seen (r ∷ rs) rest k w =
      (λ i. (if k r w.0 i then [] else rrsigs_of z all r) ++ rrsigs z all (r ∷ seen) (rs ++ rest))
      ∙ passed name t (r ∷ seen) rs rest (λ x o. ap (λ (b : Bool). is_beside x r || b) (k x o) ∙ or_true (is_beside x r)) w.1

  -- the first has its own
  group : (name : List (List ℕ)) (t : ℕ) (seen rs rest : List Record) → AllByRecursion (λ (r : Record). list_any (is_beside r) seen ≡ false) rs → AllByRecursion (IsOwn name t) rs →
      rrsigs z all seen (rs ++ rest) ≡ head_rrsigs z rs ++ rrsigs z all (back rs seen) rest
  unfolding back
  group name t seen [] rest k w = refl
  group name t seen (r ∷ rs) rest k w =
      ap (λ (b : Bool). (if b then [] else rrsigs_of z all r) ++ rrsigs z all (r ∷ seen) (rs ++ rest)) k.0
      ∙ (λ i. of_unsigned z all [] r [] (none r.owner) i ++ passed name t (r ∷ seen) rs rest (λ x o. ap (λ (b : Bool). b || list_any (is_beside x) seen) (beside_own name t x r o w.0)) w.1 i)

-- ---- the NSEC records of NSECs, one after another

-- those that are added to some
fresh : ZoneState → List Record → List NsecState → List Record
fresh z given [] = []
fresh z given (n ∷ ns) = others given (owned_records z n.owner 47) ++ fresh z (given ++ others given (owned_records z n.owner 47)) ns

fresh_join : (z : ZoneState) (given : List Record) (ns : List NsecState) → nsec_records_of z given ns ≡ given ++ fresh z given ns
unfolding fresh
fresh_join z given [] = sym (append-nil given)
fresh_join z given (n ∷ ns) =
    let o = others given (owned_records z n.owner 47) in
    fresh_join z (given ++ o) ns ∙ append_assoc given o (fresh z (given ++ o) ns)

fresh_typed : (z : ZoneState) (given : List Record) (ns : List NsecState) → AllByRecursion (λ (r : Record). data_type r.rdata ≡ 47) (fresh z given ns)
unfolding fresh
fresh_typed z given [] = tt
fresh_typed z given (n ∷ ns) =
    let o = others given (owned_records z n.owner 47) in
    joined_all (λ (r : Record). data_type r.rdata ≡ 47) o (fresh z (given ++ o) ns)
    (mapped_all (IsOwn n.owner 47) (λ (r : Record). data_type r.rdata ≡ 47) (λ r w. w.type_) o (kept_all (IsOwn n.owner 47) (λ (r : Record). not (list_any (is_beside r) given)) (owned_records z n.owner 47) (owned_own z n.owner))) (fresh_typed z (given ++ o) ns)

-- records that have the RRsets of NSEC records which others have
Alike : List Record → List Record → Type 0
Alike seen given = (r : Record) → data_type r.rdata ≡ 47 → list_any (is_beside r) seen ≡ list_any (is_beside r) given

more_alike : (seen given rs : List Record) → Alike seen given → Alike (back rs seen) (given ++ rs)
unfolding Alike
more_alike seen given rs h r e =
    any_back (is_beside r) rs seen
    ∙ (ap (λ (b : Bool). list_any (is_beside r) rs || b) (h r e) ∙ (or_comm (list_any (is_beside r) rs) (list_any (is_beside r) given) ∙ sym (any_join (is_beside r) given rs)))

unseen : (seen given : List Record) (name : List (List ℕ)) → Alike seen given → (rs : List Record) → AllByRecursion (IsOwn name 47) rs → AllByRecursion (λ (r : Record). not (list_any (is_beside r) given) ≡ true) rs →
    AllByRecursion (λ (r : Record). list_any (is_beside r) seen ≡ false) rs
unfolding Alike
unseen seen given name h [] w v = tt
unseen seen given name h (r ∷ rs) w v = (h r w.0.type_ ∙ not-true (list_any (is_beside r) given) v.0, unseen seen given name h rs w.1 v.1)

groups : (z : ZoneState) (all : List Record) → ((owner : List (List ℕ)) → have_signatures all owner ≡ false) → (seen given : List Record) (ns : List NsecState) → Alike seen given → rrsigs z all seen (fresh z given ns) ≡ nsec_rrsigs_of z given ns
unfolding fresh
groups z all none seen given [] h = refl
groups z all none seen given (n ∷ ns) h =
    let found = owned_records z n.owner 47 in
    let p : Record → Bool = λ r. not (list_any (is_beside r) given) in
    let o = others given found in
    let w : AllByRecursion (IsOwn n.owner 47) o = kept_all (IsOwn n.owner 47) p found (owned_own z n.owner) in
    group z all none n.owner 47 seen o (fresh z (given ++ o) ns) (unseen seen given n.owner h o w (all_kept p found)) w
    ∙ ap (λ (l : List Record). head_rrsigs z o ++ l) (groups z all none (back o seen) (given ++ o) ns (more_alike seen given o h))

-- ---- the authority section

unsigned : (rs : List Record) → AllByRecursion (λ (r : Record). is_of 46 r ≡ false) rs → (owner : List (List ℕ)) → have_signatures rs owner ≡ false
unsigned [] w owner = refl
unsigned (r ∷ rs) w owner = λ i. (w.0 i && same_name r.owner owner) || unsigned rs w.1 owner i

negative_of : (rs : List Record) → AllByRecursion (λ (r : Record). is_of 6 r ≡ true) rs → AllByRecursion (λ (r : Record). is_of 6 r ≡ true) (map negative_soa rs)
negative_of [] w = tt
negative_of (r ∷ rs) w = (w.0, negative_of rs w.1)

module _ (z : ZoneState) (soa : Record) (e : negatives z ≡ soa ∷ []) (ns : List NsecState) where
  typed : data_type soa.rdata ≡ 6
  typed = equal_of (data_type soa.rdata) 6 (subst (λ (l : List Record). AllByRecursion (λ (r : Record). is_of 6 r ≡ true) l) e (negative_of (filter (is_of 6) z.records) (all_kept (is_of 6) z.records))).0

  all : List Record
  all = soa ∷ nsec_records_of z [] ns

  none : (owner : List (List ℕ)) → have_signatures all owner ≡ false
  unfolding all
  none =
      unsigned (soa ∷ nsec_records_of z [] ns)
      (ap (λ (t : ℕ). nat_eq t 46) typed, mapped_all (λ (r : Record). data_type r.rdata ≡ 47) (λ (r : Record). is_of 46 r ≡ false) (λ r k. ap (λ (t : ℕ). nat_eq t 46) k) (nsec_records_of z [] ns) (subst (λ (l : List Record). AllByRecursion (λ (r : Record). data_type r.rdata ≡ 47) l) (sym (fresh_join z [] ns)) (fresh_typed z [] ns)))

  apart : Alike (soa ∷ []) []
  unfolding Alike
  apart r k =
      let f : nat_eq (data_type r.rdata) (data_type soa.rdata) ≡ false = λ i. nat_eq (k i) (typed i) in
      ap (λ (b : Bool). (same_name r.owner soa.owner && b) || false) f ∙ none_and (same_name r.owner soa.owner)
    where
      none_and : (b : Bool) → ((b && false) || false) ≡ false
      none_and true = refl
      none_and false = refl

  pub all_signed : with_rrsigs z (soa ∷ nsec_records_of z [] ns) ≡ (soa ∷ nsec_records_of z [] ns) ++ (head_rrsigs z (soa ∷ []) ++ nsec_rrsigs_of z [] ns)
  unfolding all
  all_signed =
      let g : rrsigs z all (soa ∷ []) (nsec_records_of z [] ns) ≡ nsec_rrsigs_of z [] ns = ap (rrsigs z all (soa ∷ [])) (fresh_join z [] ns) ∙ groups z all none (soa ∷ []) [] ns apart in
      λ i. (soa ∷ nsec_records_of z [] ns) ++ (of_unsigned z all [] soa [] (none soa.owner) i ++ g i)

  pub no_ds : ds_of z (soa ∷ []) ≡ []
  no_ds = ap (λ (t : ℕ). if nat_eq t 2 then owned_records z soa.owner 43 else []) typed

-- ---- the reply

module _ (s : SignedState) (q : Question) (soa : Record) (e : negatives s.zone ≡ soa ∷ []) (a : IsAbsent s.zone q.qtype q.qname) where
  abbrev two : List NsecState
  two = flat_map (nearest s.nsecs) (q.qname ∷ wildcard s.zone q.qname ∷ [])

  denials_are : denials s q [] ≡ nsec_records_of s.zone [] two
  denials_are =
      let n : asked_names s.zone q [] ≡ q.qname ∷ [] = ap (λ (l : List (List (List ℕ))). q.qname ∷ l) (sym (none_either (follows q.qtype) [])) in
      let d : denied_names s.zone q [] ≡ q.qname ∷ wildcard s.zone q.qname ∷ [] = ap (flat_map (denied s.zone q.qtype)) n ∙ (append-nil (denied s.zone q.qtype q.qname) ∙ a.both) in
      ap (λ (l : List (List (List ℕ))). nsec_records_of s.zone [] (flat_map (nearest s.nsecs) l)) d

  authority_is : (x y : Option Kinds) → AreOwners s.zone two x y → with_rrsigs s.zone ((negatives s.zone ++ ds_of s.zone (negatives s.zone)) ++ denials s q []) ≡ absent_authority s.zone x y
  authority_is x y o =
      let z = s.zone in
      let recs = nsec_records_of z [] two in
      let f : (negatives z ++ ds_of z (negatives z)) ++ denials s q [] ≡ soa ∷ recs =
      λ i. ((e ∙ refl) i ++ (ap (ds_of z) e ∙ no_ds z soa e two) i) ++ denials_are i in
      let left : (soa ∷ recs) ++ (head_rrsigs z (soa ∷ []) ++ nsec_rrsigs_of z [] two) ≡ (negatives z ++ (owner_nsecs z x ++ owner_nsecs z y)) ++ (head_rrsigs z (negatives z) ++ (owner_rrsigs z x ++ owner_rrsigs z y)) =
      λ i. (sym e i ++ sym o.nsecs i) ++ (head_rrsigs z (sym e i) ++ sym o.rrsigs i) in
      ap (with_rrsigs z) f ∙ (all_signed z soa e two ∙ (left ∙ regrouped (negatives z) (owner_nsecs z x) (owner_nsecs z y) (head_rrsigs z (negatives z)) (owner_rrsigs z x) (owner_rrsigs z y)))
    where
      regrouped : (k l m n u v : List Record) → (k ++ (l ++ m)) ++ (n ++ (u ++ v)) ≡ ((((k ++ l) ++ m) ++ n) ++ u) ++ v
      regrouped k l m n u v =
          ap (λ (x : List Record). x ++ (n ++ (u ++ v))) (sym (append_assoc k l m))
          ∙ (sym (append_assoc ((k ++ l) ++ m) n (u ++ v)) ∙ sym (append_assoc (((k ++ l) ++ m) ++ n) u v))

  pub reply_is : (x y : Option Kinds) → AreOwners s.zone two x y → ends_name q.qname s.zone.apex ≡ true → (room : ℕ) (o : List ℕ) →
      record (negative s.zone 3) { authority = absent_authority s.zone x y } ≡ as_room room o (name_server_reply s.zone q).additional (do_reply s q (name_server_reply s.zone q))
  reply_is x y h w room o =
      let z = s.zone in
      let r : ZoneReply = record (negative z 3) { authority = absent_authority z x y } in
      let n : name_server_reply z q ≡ negative z 3 = sym (absent_is z q w a) in
      let d : do_reply s q (name_server_reply z q) ≡ r = ap (do_reply s q) n ∙ ap (λ (l : List Record). record (negative z 3) { authority = l }) (authority_is x y h) in
      none_either (has_room room (zone_message o r)) r ∙ sym (λ i. as_room room o (n i).additional (d i))

-- ---- the records of an owner

-- names that are the same are reached alike
module _ (z : ZoneState) (ns : List NsecState) (whole : IsWhole z ns) (a b : List (List ℕ)) (same : same_name a b ≡ true) where
  same_within : (t : ℕ) → asked_region z t a ≡ Within → asked_region z 43 b ≡ Within
  same_within t h = by_region (asked_region z 43 b) refl
    where
      back_same : same_name b a ≡ true
      back_same = same_back a b same

      by_region : (g : Region) → asked_region z 43 b ≡ g → g ≡ Within
      by_region Within k = refl
      by_region (BelowCut ss) k = absurd (true≢false (sym (below_as z b a back_same (asked_below z (starts z whole.zone) b ss k)) ∙ (reached z (starts z whole.zone) t a h).first))
      by_region (BelowDname ds) k = absurd (true≢false (sym (dname_as z b a back_same (asked_dname z 43 b ds k)) ∙ (reached z (starts z whole.zone) t a h).dname))

  asked_all : (t : ℕ) (rs : List Record) → filter (is_asked a t) rs ≡ filter (is_asked b t) rs
  asked_all t [] = refl
  asked_all t (r ∷ rs) = λ i. cond (asked_same z a b same t r i) (r ∷ asked_all t rs i) (asked_all t rs i)

  pub same_reached : (t : ℕ) (m : Kinds) → ends_name a z.apex ≡ true → ReachesNode z t a m → at_places z.records (kind_places 46 m) ≡ reached_records z b (had_records z b 46)
  same_reached t m i h =
      let inside : ends_name b z.apex ≡ true = ends_trans b a z.apex (same_ends b a (same_back a b same)) i in
      let there : exists z b ≡ true = exists_same z b a (same_back a b same) h.exists_ in
      node_asked z a t m h 46
      ∙ (asked_all 46 z.records
      ∙ (sym (own_had z b 46 there)
      ∙ (sym (ap (λ (g : Region). if_within g (had_records z b 46)) (same_within t h.region)) ∙ inside_is z b (had_records z b 46) inside)))

module _ (z : ZoneState) (ns : List NsecState) (whole : IsWhole z ns) (name : List (List ℕ)) where
  pub reached_nsecs : (o : Option Kinds) → IsReached z name o → owner_nsecs z o ≡ owned_records z name 47
  reached_nsecs None h = sym (h 47)
  reached_nsecs (Some m) h =
      node_asked z name 43 m h.1 47
      ∙ (sym (ap (λ (g : Region). if_within g (asked_records z name 47)) h.1.region) ∙ inside_is z name (asked_records z name 47) h.0)

  pub by_first : (t : ℕ) (m : Kinds) → ends_name name z.apex ≡ true → ReachesNode z t name m → (u : ℕ) (rs : List Record) → AllByRecursion (IsOwn name u) rs → first_covering rs (at_places z.records (kind_places 46 m)) ≡ head_rrsigs z rs
  by_first t m i h u [] w = refl
  by_first t m i h u (r ∷ rs) w = ap (covering r) (same_reached z ns whole name r.owner (same_back r.owner name w.0.owner) t m i h)

  pub reached_rrsigs : (o : Option Kinds) → IsReached z name o → owner_rrsigs z o ≡ head_rrsigs z (owned_records z name 47)
  reached_rrsigs None h = sym (ap (head_rrsigs z) (h 47))
  reached_rrsigs (Some m) h =
      let k = reached_nsecs (Some m) h in
      ap (λ (l : List Record). first_covering l (at_places z.records (kind_places 46 m))) k ∙ by_first 43 m h.0 h.1 47 (owned_records z name 47) (owned_own z name)

-- an NSEC's owner is in the zone
pub owner_inside : (z : ZoneState) (ns : List NsecState) → IsWhole z ns → (n : NsecState) → Contains ns n → ends_name n.owner z.apex ≡ true
owner_inside z ns w n c =
    let p = and_parts (list_any (is_owned n.owner) z.records) (not (is_below_cut z n.owner)) (w.chain.owed n c) in
    let f = found (is_owned n.owner) z.records p.0 in
    ends_trans n.owner f.one.owner z.apex (same_ends n.owner f.one.owner (same_back f.one.owner n.owner f.passes)) (within_all z.apex z.records (starts z w.zone).within f.one f.there)

-- ---- two owners

others_none : (rs : List Record) → others [] rs ≡ rs
others_none rs = kept_whole (λ (r : Record). not (list_any (is_beside r) [])) rs (all_true rs)
  where
    all_true : (xs : List Record) → AllByRecursion (λ (r : Record). not (list_any (is_beside r) []) ≡ true) xs
    all_true [] = tt
    all_true (x ∷ xs) = (refl, all_true xs)

-- none of an RRset are left out of its own
others_own : (name : List (List ℕ)) (rs : List Record) → AllByRecursion (IsOwn name 47) rs → others rs rs ≡ []
others_own name [] w = refl
others_own name (x ∷ xs) w =
    kept_none (λ (r : Record). not (list_any (is_beside r) (x ∷ xs))) (x ∷ xs)
    (mapped_all (IsOwn name 47) (λ (r : Record). not (list_any (is_beside r) (x ∷ xs)) ≡ false) (λ r o. ap (λ (b : Bool). not (b || list_any (is_beside r) xs)) (beside_own name 47 r x o w.0)) (x ∷ xs) w)

-- nor are any of another name's
others_apart : (a b : List (List ℕ)) → same_name a b ≡ false → (xs ys : List Record) → AllByRecursion (IsOwn a 47) xs → AllByRecursion (IsOwn b 47) ys → others xs ys ≡ ys
others_apart a b n xs ys w v =
    kept_whole (λ (r : Record). not (list_any (is_beside r) xs)) ys
    (mapped_all (IsOwn b 47) (λ (r : Record). not (list_any (is_beside r) xs) ≡ true) (λ r o. ap not (any_none (is_beside r) xs (mapped_all (IsOwn a 47) (λ (x : Record). is_beside r x ≡ false) (λ x k. not_beside r x o k) xs w))) ys v)
  where
    not_beside : (r x : Record) → IsOwn b 47 r → IsOwn a 47 x → is_beside r x ≡ false
    not_beside r x o k = false_from_ne_true (is_beside r x) (λ h.
        let p = and_parts (same_name r.owner x.owner) (nat_eq (data_type r.rdata) (data_type x.rdata)) h in
        true≢false (sym (same_trans a x.owner b (same_back x.owner a k.owner) (same_trans x.owner r.owner b (same_back r.owner x.owner p.0) o.owner)) ∙ n))

module _ (z : ZoneState) (ns : List NsecState) (whole : IsWhole z ns) (sorted : AreSorted ns) (n m : NsecState) (x : Option Kinds) (h : IsReached z n.owner x) where
  abbrev first : List Record
  first = owned_records z n.owner 47

  begun : nsec_records_of z [] (n ∷ m ∷ []) ≡ first ++ others first (owned_records z m.owner 47)
  begun = ap (λ (l : List Record). l ++ others l (owned_records z m.owner 47)) (others_none first)

  signed : nsec_rrsigs_of z [] (n ∷ m ∷ []) ≡ head_rrsigs z first ++ head_rrsigs z (others first (owned_records z m.owner 47))
  signed =
      ap (λ (l : List Record). head_rrsigs z l ++ (head_rrsigs z (others l (owned_records z m.owner 47)) ++ [])) (others_none first)
      ∙ ap (λ (l : List Record). head_rrsigs z first ++ l) (append-nil (head_rrsigs z (others first (owned_records z m.owner 47))))

  by_second : (second : List Record) (y : Option Kinds) → others first (owned_records z m.owner 47) ≡ second → owner_nsecs z y ≡ second → owner_rrsigs z y ≡ head_rrsigs z second → AreOwners z (n ∷ m ∷ []) x y
  by_second second y e f g = record {
    nsecs = (λ i. reached_nsecs z ns whole n.owner x h i ++ f i) ∙ sym (begun ∙ ap (λ (l : List Record). first ++ l) e);
    rrsigs = (λ i. reached_rrsigs z ns whole n.owner x h i ++ g i) ∙ sym (signed ∙ ap (λ (l : List Record). head_rrsigs z first ++ head_rrsigs z l) e);
  }

  pub one_owner : Contains ns n → Contains ns m → same_name n.owner m.owner ≡ true → AreOwners z (n ∷ m ∷ []) x None
  one_owner c d s =
      let k : m ≡ n = sym (sole ns sorted n m c d s) in
      by_second [] None (ap (λ (u : NsecState). others first (owned_records z u.owner 47)) k ∙ others_own n.owner first (owned_own z n.owner)) refl refl

  pub two_owners : (y : Option Kinds) → IsReached z m.owner y → same_name n.owner m.owner ≡ false → AreOwners z (n ∷ m ∷ []) x y
  two_owners y k s =
      let second = owned_records z m.owner 47 in
      by_second second y (others_apart n.owner m.owner s first second (owned_own z n.owner) (owned_own z m.owner)) (reached_nsecs z ns whole m.owner y k) (reached_rrsigs z ns whole m.owner y k)

-- ---- what covers the first of some records

pub first_some : (rs sigs : List Record) (r : Record) → Some r ≡ head_of rs → first_covering rs sigs ≡ covering r sigs
first_some [] sigs r e = absurd (cc)
first_some (x ∷ rs) sigs r e =
    let k : x ≡ r = cc in
    ap (λ (y : Record). covering y sigs) k

pub first_none : (rs sigs : List Record) → None ≡ head_of rs → first_covering rs sigs ≡ []
first_none [] sigs e = refl
first_none (x ∷ rs) sigs e = absurd (cc)

-- ---- the authority section as it is written

next_written : (xs ys : List Record) (w v : List ResourceRecord) → w ≡ map record_of xs → v ≡ w ++ map record_of ys → v ≡ map record_of (xs ++ ys)
next_written xs ys w v e f = f ∙ (ap (λ (l : List ResourceRecord). l ++ map record_of ys) e ∙ sym (map-append record_of xs ys))

pub written_is : (z : ZoneState) (x y : Option Kinds) (soa : Record) → negatives z ≡ soa ∷ [] → (w0 w1 w2 w3 w4 w5 w6 : List ResourceRecord) → w0 ≡ [] → w1 ≡ w0 ++ record_of soa ∷ [] → w2 ≡ w1 ++ map record_of (owner_nsecs z x) → w3 ≡ w2 ++ map record_of (owner_nsecs z y) →
    w4 ≡ w3 ++ map record_of (head_rrsigs z (negatives z)) → w5 ≡ w4 ++ map record_of (owner_rrsigs z x) → w6 ≡ w5 ++ map record_of (owner_rrsigs z y) → w6 ≡ map record_of (absent_authority z x y)
written_is z x y soa e w0 w1 w2 w3 w4 w5 w6 f0 f1 f2 f3 f4 f5 f6 =
    let k = negatives z in
    let g1 : w1 ≡ map record_of k = f1 ∙ (ap (λ (l : List ResourceRecord). l ++ record_of soa ∷ []) f0 ∙ ap (map record_of) (sym e)) in
    let g2 = next_written k (owner_nsecs z x) w1 w2 g1 f2 in
    let g3 = next_written (k ++ owner_nsecs z x) (owner_nsecs z y) w2 w3 g2 f3 in
    let g4 = next_written ((k ++ owner_nsecs z x) ++ owner_nsecs z y) (head_rrsigs z k) w3 w4 g3 f4 in
    let g5 = next_written (((k ++ owner_nsecs z x) ++ owner_nsecs z y) ++ head_rrsigs z k) (owner_rrsigs z x) w4 w5 g4 f5 in
    next_written ((((k ++ owner_nsecs z x) ++ owner_nsecs z y) ++ head_rrsigs z k) ++ owner_rrsigs z x) (owner_rrsigs z y) w5 w6 g5 f6

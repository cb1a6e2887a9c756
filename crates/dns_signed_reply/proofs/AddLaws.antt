-- Signing adds, and changes nothing.
use Rattle.std.proofs.Common.{◌≡◌, ℕ, Bool, true, false, List, [], ◌∷◌, ◌++◌, map, cond, refl, ap, sym, ◌∙◌, append_assoc, append-nil}
use Rattle.std.specs.Prelude.{◌||◌, not, if◌then◌else◌, nat_eq}
use Rattle.std.specs.List.{AllByRecursion, filter, list_any}
use Rattle.std.proofs.lemmas.Bool.{and_parts, or_left, or_right}
use Rattle.dns_base.specs.Records.{data_type}
use Rattle.dns_message.specs.declared.question.Question.{Question}
use Rattle.dns_message.specs.declared.record.Record.{Record}
use Rattle.dns_name_server.specs.NameServerReplies.{name_server_reply}
use Rattle.dns_route.specs.Routes.{ends_name}
use Rattle.dns_zone.specs.Owned.{ZoneState, asked_records, is_asked, is_of, is_owned}
use Rattle.dns_zone.specs.ZoneReply.{ZoneReply}
use Rattle.dns_zone.specs.ZoneTurns.{zone_message}
use Rattle.dns_zone_tree.specs.Regions.{Region, Within, BelowCut, BelowDname, asked_region}
use Rattle.dns_zone_tree.specs.Wildcards.{had_records}
use Rattle.dns_denial.specs.Nsecs.{NsecState}
use Rattle.dns_denial.specs.Signed.{AddsOnly, Grows, is_added, is_beside, is_signature, type_covered}
use Rattle.dns_signed_zone.specs.SignedZones.{SignedState}
use Rattle.dns_signed_reply.specs.SignedReplies.{as_room, asks_do, chosen, denials, do_reply, ds_of, has_room, have_signatures, if_within, nsec_records_of, others, owned_records, proved_authority, reached_records, rrsigs, rrsigs_of, timed}
use Rattle.dns_signed_reply.specs.ReplyLaws.{NothingWithoutDo, SigningAddsOnly}

abbrev pub AreAdded : List Record → Type 0
AreAdded rs = AllByRecursion (λ (r : Record). is_added r ≡ true) rs

-- ---- lists of records that are added

added_step : (p : Record → Bool) (r : Record) (rs : List Record) (b : Bool) → p r ≡ b → (p r ≡ true → is_added r ≡ true) → AreAdded (filter p rs) → AreAdded (cond b (r ∷ filter p rs) (filter p rs))
added_step p r rs true e h ih = (h e, ih)
added_step p r rs false e h ih = ih

added : (p : Record → Bool) → ((r : Record) → p r ≡ true → is_added r ≡ true) → (rs : List Record) → AreAdded (filter p rs)
added p h [] = tt
added p h (r ∷ rs) = added_step p r rs (p r) refl (h r) (added p h rs)

kept_step : (p : Record → Bool) (r : Record) (rs : List Record) (b : Bool) → is_added r ≡ true → AreAdded (filter p rs) → AreAdded (cond b (r ∷ filter p rs) (filter p rs))
kept_step p r rs true h ih = (h, ih)
kept_step p r rs false h ih = ih

-- a filter keeps some of them
kept : (p : Record → Bool) (rs : List Record) → AreAdded rs → AreAdded (filter p rs)
kept p [] h = tt
kept p (r ∷ rs) h = kept_step p r rs (p r) h.0 (kept p rs h.1)

pub both_added : (xs ys : List Record) → AreAdded xs → AreAdded ys → AreAdded (xs ++ ys)
both_added [] ys h k = k
both_added (x ∷ xs) ys h k = (h.0, both_added xs ys h.1 k)

either : (b : Bool) (xs : List Record) → AreAdded xs → AreAdded (if b then [] else xs)
either true xs h = tt
either false xs h = h

timed_added : (r : Record) (rs : List Record) → AreAdded rs → AreAdded (map (timed r) rs)
timed_added r [] h = tt
timed_added r (s ∷ rs) h = (h.0, timed_added r rs h.1)

within_added : (g : Region) (rs : List Record) → AreAdded rs → AreAdded (if_within g rs)
within_added Within rs h = h
within_added (BelowCut servers) rs h = tt
within_added (BelowDname ds) rs h = tt

reached_added : (b : Bool) (g : Region) (rs : List Record) → AreAdded rs → AreAdded (if b then if_within g rs else [])
reached_added true g rs h = within_added g rs h
reached_added false g rs h = tt

-- ---- RRSIGs

of_added : (z : ZoneState) (all : List Record) (r : Record) → AreAdded (rrsigs_of z all r)
of_added z all r =
    let t = data_type r.rdata in
    let had = reached_records z r.owner (had_records z r.owner 46) in
    either (have_signatures all r.owner) (map (timed r) (filter (is_signature t) had))
    (timed_added r (filter (is_signature t) had)
    (added (is_signature t) (λ s h. or_left (is_of 46 s || is_of 47 s) (is_of 50 s || is_of 43 s) (or_left (is_of 46 s) (is_of 47 s) (and_parts (is_of 46 s) (nat_eq (type_covered s.rdata) t) h).0)) had))

pub rrsigs_added : (z : ZoneState) (all seen rs : List Record) → AreAdded (rrsigs z all seen rs)
rrsigs_added z all seen [] = tt
rrsigs_added z all seen (r ∷ rs) =
    both_added (if list_any (is_beside r) seen then [] else rrsigs_of z all r) (rrsigs z all (r ∷ seen) rs) (either (list_any (is_beside r) seen) (rrsigs_of z all r) (of_added z all r)) (rrsigs_added z all (r ∷ seen) rs)

-- ---- DS and NSEC records

first_or_none : (b : Bool) (xs : List Record) → AreAdded xs → AreAdded (if b then xs else [])
first_or_none true xs h = h
first_or_none false xs h = tt

pub ds_added : (z : ZoneState) (rs : List Record) → AreAdded (ds_of z rs)
ds_added z [] = tt
ds_added z (r ∷ rs) =
    first_or_none (is_of 2 r) (owned_records z r.owner 43)
    (reached_added (ends_name r.owner z.apex) (asked_region z 43 r.owner) (asked_records z r.owner 43)
    (added (is_asked r.owner 43) (λ d h. or_right (is_of 46 d || is_of 47 d) (is_of 50 d || is_of 43 d) (or_right (is_of 50 d) (is_of 43 d) (and_parts (is_owned r.owner d) (is_of 43 d) h).1)) z.records))

nsec_added : (z : ZoneState) (name : List (List ℕ)) → AreAdded (owned_records z name 47)
nsec_added z name =
    reached_added (ends_name name z.apex) (asked_region z 43 name) (asked_records z name 47)
    (added (is_asked name 47) (λ r h. or_left (is_of 46 r || is_of 47 r) (is_of 50 r || is_of 43 r) (or_right (is_of 46 r) (is_of 47 r) (and_parts (is_owned name r) (is_of 47 r) h).1)) z.records)

nsecs_added : (z : ZoneState) (given : List Record) (ns : List NsecState) → AreAdded given → AreAdded (nsec_records_of z given ns)
nsecs_added z given [] h = h
nsecs_added z given (n ∷ ns) h =
    nsecs_added z (given ++ others given (owned_records z n.owner 47)) ns
    (both_added given (others given (owned_records z n.owner 47)) h (kept (λ (r : Record). not (list_any (is_beside r) given)) (owned_records z n.owner 47) (nsec_added z n.owner)))

-- ---- the reply

pub grown : (rs more : List Record) → AreAdded more → Grows rs (rs ++ more)
grown rs more h = record { more = more; whole = refl; added = h }

kept_as_is : (rs : List Record) → Grows rs rs
kept_as_is rs = record { more = []; whole = sym (append-nil rs); added = tt }

pub same_reply : (r : ZoneReply) → AddsOnly r r
same_reply r = record { aa = refl; rcode = refl; answers = kept_as_is r.answers; authority = kept_as_is r.authority; additional = kept_as_is r.additional }

signed : (s : SignedState) (q : Question) (r : ZoneReply) → AddsOnly r (do_reply s q r)
signed s q r =
    let z = s.zone in
    let all = proved_authority s q r in
    let ds = ds_of z r.authority in
    let ns = denials s q r.answers in
    let last = rrsigs z all [] all in
    record {
      aa = refl;
      rcode = refl;
      answers = grown r.answers (rrsigs z r.answers [] r.answers) (rrsigs_added z r.answers [] r.answers);
      authority = record {
        more = ds ++ (ns ++ last);
        whole = append_assoc (r.authority ++ ds) ns last ∙ append_assoc r.authority ds (ns ++ last);
        added = both_added ds (ns ++ last) (ds_added z r.authority) (both_added ns last (nsecs_added z [] (chosen s q r.answers) tt) (rrsigs_added z all [] all));
      };
      additional = grown r.additional (rrsigs z r.additional [] r.additional) (rrsigs_added z r.additional [] r.additional);
    }

pub as_room_adds : (b : Bool) (r x : ZoneReply) → AddsOnly r x → AddsOnly r (if b then x else record x { additional = r.additional })
as_room_adds true r x h = h
as_room_adds false r x h = record { aa = h.aa; rcode = h.rcode; answers = h.answers; authority = h.authority; additional = kept_as_is r.additional }

by_do : (b : Bool) (r x : ZoneReply) → AddsOnly r x → AddsOnly r (if b then x else r)
by_do true r x h = h
by_do false r x h = same_reply r

pub signing_adds_only : SigningAddsOnly
signing_adds_only s room o q =
    let r = name_server_reply s.zone q in
    let x = do_reply s q r in
    by_do (asks_do o) r (as_room room o r.additional x) (as_room_adds (has_room room (zone_message o x)) r x (signed s q r))

pub nothing_without_do : NothingWithoutDo
nothing_without_do s room o q e =
    let r = name_server_reply s.zone q in
    ap (λ (b : Bool). if b then as_room room o r.additional (do_reply s q r) else r) e

-- A zone's reply is a message of typed data, if its records have typed data.
use Rattle.std.proofs.Common.{◌≡◌, ℕ, zero, suc, ◌+◌, ◌<◌, Bool, true, false, List, [], ◌∷◌, ◌++◌, length, take, map, cond, get_or, nat_eq, Option, Some, None, refl, ap, sym, subst, ◌∙◌}
use Rattle.std.specs.Prelude.{◌&&◌, ◌||◌, if◌then◌else◌}
use Rattle.std.specs.List.{AllByRecursion, filter, list_any}
use Rattle.std.proofs.lemmas.List.{take_more}
use Rattle.dns_base.specs.Msg.{ResourceRecord}
use Rattle.dns_base.specs.Records.{data_type, record_of}
use Rattle.dns_message.specs.declared.question.Question.{Question}
use Rattle.dns_message.specs.TypedData.{HasNames}
use Rattle.dns_message.specs.declared.record.Record.{Record}
use Rattle.dns_route.specs.Typed.{AreTyped, IsTypedMessage}
use Rattle.dns_zone.specs.Aliases.{aliased, followed, gone_on, is_within, unaliased}
use Rattle.dns_zone.specs.Cuts.{cut_records, delegates, is_address_at, is_cut_off, is_glue, is_shortest}
use Rattle.dns_zone.specs.Owned.{AreLawful, HasNamedData, HasTypedData, ZoneState, asked_records, is_asked, is_of, is_owned, target}
use Rattle.dns_zone.specs.ZoneReply.{ZoneReply, authoritative, denied, exists, follows, negative_soa, referral, zone_reply}
use Rattle.dns_zone.specs.ZoneTurns.{zone_message}
use Rattle.dns_zone.proofs.KeepLaws.{passing}
use Rattle.dns_zone.proofs.PathLaws.{second_true, true_eq}
use Rattle.dns_zone.proofs.ReplyLaws.{by_tests}

abbrev pub AllTyped : List Record → Type 0
AllTyped rs = AllByRecursion HasTypedData rs

-- ---- lawful data whose names are names

named_behind : (rs : List Record) (r : Record) → AllByRecursion HasNamedData rs → HasNames r.rdata → AllByRecursion HasNamedData (rs ++ r ∷ [])
named_behind [] r h n = (n, tt)
named_behind (x ∷ rs) r h n = (h.0, named_behind rs r h.1 n)

-- one record more
pub next_named : (rs : List Record) (i : ℕ) (r : Record) → AllByRecursion HasNamedData (take i rs) → i < length rs → r ≡ get_or rs i r → HasNames r.rdata → AllByRecursion HasNamedData (take (i + 1) rs)
next_named rs i r h lt is n =
    let s : take (i + 1) rs ≡ take i rs ++ r ∷ [] = take_more rs i r lt ∙ ap (λ x. take i rs ++ x ∷ []) (sym is) in
    subst (AllByRecursion HasNamedData) (sym s) (named_behind (take i rs) r h n)

pub all_typed : (rs : List Record) → AreLawful rs → AllByRecursion HasNamedData rs → AllTyped rs
all_typed [] l n = tt
all_typed (r ∷ rs) l n = (record { lawful = l.0; names = n.0 }, all_typed rs l.1 n.1)

-- ---- records of a reply

written : (rs : List Record) → AllTyped rs → AreTyped (map record_of rs)
written [] h = tt
written (r ∷ rs) h = ((r, h.0, refl), written rs h.1)

some_typed : (p : Record → Bool) (rs : List Record) → AllTyped rs → AllTyped (filter p rs)
some_typed p [] h = tt
some_typed p (r ∷ rs) h = elim (p r) as (λ (b : Bool). AllTyped (cond b (r ∷ filter p rs) (filter p rs))) [ true ↦ (h.0, some_typed p rs h.1) | false ↦ some_typed p rs h.1 ]

negative_typed : (rs : List Record) → AllTyped rs → AllTyped (map negative_soa rs)
negative_typed [] h = tt
negative_typed (r ∷ rs) h = (h.0, negative_typed rs h.1)

-- ---- aliases

aliased_typed : (z : ZoneState) (go : List (List ℕ) → List Record) (cs found : List Record) → ((name : List (List ℕ)) → AllTyped (go name)) → AllTyped cs → AllTyped found → AllTyped (aliased z go cs found)
aliased_typed z go [] found g c f = f
aliased_typed z go (r ∷ cs) found g c f = (c.0, gone_typed (target r.rdata))
  where
    gone_typed : (n : Option (List (List ℕ))) → AllTyped (gone_on z go n)
    gone_typed None = tt
    gone_typed (Some name) = elim (is_within z name) as (λ (b : Bool). AllTyped (if b then go name else [])) [ true ↦ g name | false ↦ tt ]

unaliased_typed : (cs found : List Record) → AllTyped found → AllTyped (unaliased cs found)
unaliased_typed [] found f = f
unaliased_typed (c ∷ cs) found f = tt

followed_typed : (z : ZoneState) (t k : ℕ) (name : List (List ℕ)) → AllTyped z.records → AllTyped (followed z t k name)
unfolding followed
followed_typed z t zero name h = unaliased_typed (asked_records z name 5) (asked_records z name t) (some_typed (is_asked name t) z.records h)
followed_typed z t (suc k) name h =
    aliased_typed z (followed z t k) (asked_records z name 5) (asked_records z name t) (λ n. followed_typed z t k n h) (some_typed (is_asked name 5) z.records h) (some_typed (is_asked name t) z.records h)

-- ---- addresses are no OPT records

not_opt : (t : ℕ) → (nat_eq t 1 || nat_eq t 28) ≡ true → nat_eq t 41 ≡ false
not_opt t h = by_one (nat_eq t 1) refl h
  where
    by_one : (b : Bool) → nat_eq t 1 ≡ b → (b || nat_eq t 28) ≡ true → nat_eq t 41 ≡ false
    by_one true e h = ap (λ x. nat_eq x 41) (true_eq t 1 e)
    by_one false e h = ap (λ x. nat_eq x 41) (true_eq t 28 h)

address_not_opt : (host : Option (List (List ℕ))) (r : Record) → is_address_at host r ≡ true → nat_eq (data_type r.rdata) 41 ≡ false
address_not_opt None r h = absurd (cc)
address_not_opt (Some host) r h = not_opt (data_type r.rdata) (second_true (is_owned host r) (is_of 1 r || is_of 28 r) h)

glue_not_opt : (servers : List Record) (r : Record) → is_glue servers r ≡ true → nat_eq (data_type r.rdata) 41 ≡ false
glue_not_opt servers r h =
    let p = passing (λ (s : Record). is_address_at (target s.rdata) r) servers h in
    address_not_opt (target p.it.rdata) r p.passes

bare_step : (servers : List Record) (r : Record) (more : List Record) (b : Bool) → is_glue servers r ≡ b → list_any (λ (x : ResourceRecord). nat_eq x.rtype 41) (map record_of more) ≡ false → list_any (λ (x : ResourceRecord). nat_eq x.rtype 41) (map record_of (cond b (r ∷ more) more)) ≡ false
bare_step servers r more true e ih = ap (λ b. b || list_any (λ (x : ResourceRecord). nat_eq x.rtype 41) (map record_of more)) (glue_not_opt servers r e) ∙ ih
bare_step servers r more false e ih = ih

glue_bare : (servers rs : List Record) → list_any (λ (x : ResourceRecord). nat_eq x.rtype 41) (map record_of (filter (is_glue servers) rs)) ≡ false
glue_bare servers [] = refl
glue_bare servers (r ∷ rs) = bare_step servers r (filter (is_glue servers) rs) (is_glue servers r) refl (glue_bare servers rs)

-- ---- replies

pub record IsTypedReply (r : ZoneReply) : Type 0 where
  pub answers : AllTyped r.answers
  pub authority : AllTyped r.authority
  pub additional : AllTyped r.additional
  pub bare : list_any (λ (x : ResourceRecord). nat_eq x.rtype 41) (map record_of r.additional) ≡ false

module _ (z : ZoneState) (q : Question) (h : AllTyped z.records) where
  referral_typed : (servers : List Record) → AllTyped servers → IsTypedReply (referral z servers)
  referral_typed servers s = record { answers = tt; authority = s; additional = some_typed (is_glue servers) z.records h; bare = glue_bare servers z.records }

  authoritative_typed : (rs : List Record) → AllTyped rs → IsTypedReply (authoritative rs)
  authoritative_typed rs s = record { answers = s; authority = tt; additional = tt; bare = refl }

  denied_typed : (code : ℕ) → IsTypedReply (denied z code)
  denied_typed code = record { answers = tt; authority = negative_typed (filter (is_of 6) z.records) (some_typed (is_of 6) z.records h); additional = tt; bare = refl }

  by_cases : (a b c d : Bool) → IsTypedReply (if a then referral z (cut_records z q.qname) else (if b then authoritative (followed z q.qtype 8 q.qname) else (if c then authoritative (asked_records z q.qname q.qtype) else (if d then denied z 0 else denied z 3))))
  by_cases true b c d = referral_typed (cut_records z q.qname) (some_typed (is_shortest (filter (delegates z q.qname) z.records)) (filter (delegates z q.qname) z.records) (some_typed (delegates z q.qname) z.records h))
  by_cases false true c d = authoritative_typed (followed z q.qtype 8 q.qname) (followed_typed z q.qtype 8 q.qname h)
  by_cases false false true d = authoritative_typed (asked_records z q.qname q.qtype) (some_typed (is_asked q.qname q.qtype) z.records h)
  by_cases false false false true = denied_typed 0
  by_cases false false false false = denied_typed 3

  reply_typed : IsTypedReply (zone_reply z q)
  reply_typed =
      let a = is_cut_off z q.qname in
      let b = follows q.qtype && list_any (is_asked q.qname 5) z.records in
      let c = list_any (is_asked q.qname q.qtype) z.records in
      let d = exists z q.qname in
      subst IsTypedReply (sym (by_tests z q a b c d refl refl refl refl)) (by_cases a b c d)

  -- the message of a reply
  pub message_typed : (o : List ℕ) → IsTypedMessage (zone_message o (zone_reply z q))
  message_typed o =
      let t = reply_typed in
      record { answers = written (zone_reply z q).answers t.answers; authority = written (zone_reply z q).authority t.authority; additional = written (zone_reply z q).additional t.additional; bare = t.bare }

-- The five cases of a zone's reply.
use Rattle.std.proofs.Common.{◌≡◌, ℕ, Bool, true, false, List, length, take, reverse, nat_eq, refl, ap, sym, ◌∙◌, arith}
use Rattle.std.specs.Prelude.{◌&&◌, ◌||◌, ◌↔◌, if◌then◌else◌}
use Rattle.std.specs.List.{list_any}
use Rattle.std.proofs.lemmas.List.{take_all}
use Rattle.dns_name.specs.Canonical.{same_name, same_name_Decides}
use Rattle.dns_message.specs.declared.question.Question.{Question}
use Rattle.dns_message.specs.declared.record.Record.{Record}
use Rattle.dns_route.specs.Routes.{ends_name}
use Rattle.dns_zone.specs.Aliases.{followed}
use Rattle.dns_zone.specs.Cuts.{cut_records, is_cut_off}
use Rattle.dns_zone.specs.Owned.{ZoneState, asked_records, is_asked, is_of, is_owned}
use Rattle.dns_zone.specs.Places.{at_places, places}
use Rattle.dns_zone.specs.ZoneReply.{ZoneReply, authoritative, denied, exists, follows, referral, zone_reply}
use Rattle.dns_zone.proofs.KeepLaws.{any_weaker}
use Rattle.dns_zone.proofs.PathLaws.{ends_of, first_true, same_length, turned, turned_length}
use Rattle.dns_zone.proofs.PlaceLaws.{at_places_of}

module _ (z : ZoneState) (q : Question) where
  pub by_tests : (a b c d : Bool) → is_cut_off z q.qname ≡ a → (follows q.qtype && list_any (is_asked q.qname 5) z.records) ≡ b → list_any (is_asked q.qname q.qtype) z.records ≡ c → exists z q.qname ≡ d →
      zone_reply z q ≡ (if a then referral z (cut_records z q.qname) else (if b then authoritative (followed z q.qtype 8 q.qname) else (if c then authoritative (asked_records z q.qname q.qtype) else (if d then denied z 0 else denied z 3))))
  unfolding zone_reply
  by_tests a b c d e f g h =
      let k = λ (a b c d : Bool). if a then referral z (cut_records z q.qname) else (if b then authoritative (followed z q.qtype 8 q.qname) else (if c then authoritative (asked_records z q.qname q.qtype) else (if d then denied z 0 else denied z 3))) in
      ap (λ x. k x (follows q.qtype && list_any (is_asked q.qname 5) z.records) (list_any (is_asked q.qname q.qtype) z.records) (exists z q.qname)) e
      ∙ (ap (λ x. k a x (list_any (is_asked q.qname q.qtype) z.records) (exists z q.qname)) f ∙ (ap (λ x. k a b x (exists z q.qname)) g ∙ ap (k a b c) h))

  pub reply_cut : is_cut_off z q.qname ≡ true → zone_reply z q ≡ referral z (cut_records z q.qname)
  reply_cut e = by_tests true (follows q.qtype && list_any (is_asked q.qname 5) z.records) (list_any (is_asked q.qname q.qtype) z.records) (exists z q.qname) e refl refl refl

  pub reply_alias : is_cut_off z q.qname ≡ false → follows q.qtype ≡ true → list_any (is_asked q.qname 5) z.records ≡ true → zone_reply z q ≡ authoritative (followed z q.qtype 8 q.qname)
  reply_alias e f g =
      by_tests false true (list_any (is_asked q.qname q.qtype) z.records) (exists z q.qname) e (ap (λ b. b && list_any (is_asked q.qname 5) z.records) f ∙ g) refl refl

  pub reply_found : is_cut_off z q.qname ≡ false → (follows q.qtype && list_any (is_asked q.qname 5) z.records) ≡ false → (is : List ℕ) → list_any (is_asked q.qname q.qtype) z.records ≡ true → is ≡ places (is_asked q.qname q.qtype) z.records → zone_reply z q ≡ authoritative (at_places z.records is)
  reply_found e f is g p =
      by_tests false false true (exists z q.qname) e f g refl ∙ ap authoritative (sym (ap (at_places z.records) p ∙ at_places_of (is_asked q.qname q.qtype) z.records))

  pub reply_denied : is_cut_off z q.qname ≡ false → (follows q.qtype && list_any (is_asked q.qname 5) z.records) ≡ false → list_any (is_asked q.qname q.qtype) z.records ≡ false → (d : Bool) → exists z q.qname ≡ d → zone_reply z q ≡ denied z (if d then 0 else 3)
  reply_denied e f g true h = by_tests false false false true e f g h
  reply_denied e f g false h = by_tests false false false false e f g h

-- ---- when a name is said not to exist

same_ends : (a b : List (List ℕ)) → same_name a b ≡ true → ends_name a b ≡ true
same_ends a b h = ends_of a b (record {
  short = omega (arith, same_length a b h);
  first = ap (λ k. take k (turned a)) (sym (same_length a b h) ∙ sym (turned_length a)) ∙ (take_all (length (turned a)) (turned a) (omega arith) ∙ ap reverse ((same_name_Decides a b).0 h));
})

asked_exists : (z : ZoneState) (name : List (List ℕ)) (t : ℕ) → list_any (is_asked name t) z.records ≡ true → exists z name ≡ true
asked_exists z name t h =
    any_weaker (is_asked name t) (λ (r : Record). ends_name r.owner name) (λ r p. same_ends r.owner name (first_true (is_owned name r) (nat_eq t 255 || is_of t r) p)) z.records h

not_asked : (z : ZoneState) (name : List (List ℕ)) (t : ℕ) → exists z name ≡ false → list_any (is_asked name t) z.records ≡ false
not_asked z name t h = by_answer (list_any (is_asked name t) z.records) refl
  where
    by_answer : (b : Bool) → list_any (is_asked name t) z.records ≡ b → b ≡ false
    by_answer true e =
        let x : exists z name ≡ true = asked_exists z name t e in
        absurd (cc)
    by_answer false e = refl

module _ (z : ZoneState) (q : Question) where
  code_of : (a b c d : Bool) → (if a then referral z (cut_records z q.qname) else (if b then authoritative (followed z q.qtype 8 q.qname) else (if c then authoritative (asked_records z q.qname q.qtype) else (if d then denied z 0 else denied z 3)))).rcode ≡ 3 → (a ≡ false) × (d ≡ false)
  code_of true b c d h = absurd (cc)
  code_of false true c d h = absurd (cc)
  code_of false false true d h = absurd (cc)
  code_of false false false true h = absurd (cc)
  code_of false false false false h = (refl, refl)

  -- exactly if it is at or below no cut, and neither it nor a name below it owns a record
  pub denied_exactly : ((zone_reply z q).rcode ≡ 3) ↔ ((is_cut_off z q.qname ≡ false) × (exists z q.qname ≡ false))
  denied_exactly =
      let a = is_cut_off z q.qname in
      let b = follows q.qtype && list_any (is_asked q.qname 5) z.records in
      let c = list_any (is_asked q.qname q.qtype) z.records in
      let d = exists z q.qname in
      let there : (zone_reply z q).rcode ≡ 3 → (a ≡ false) × (d ≡ false) = λ h. code_of a b c d (sym (ap (λ (r : ZoneReply). r.rcode) (by_tests z q a b c d refl refl refl refl)) ∙ h) in
      let back : (a ≡ false) × (d ≡ false) → (zone_reply z q).rcode ≡ 3 = λ h.
      let none : b ≡ false = and_none (follows q.qtype) (list_any (is_asked q.qname 5) z.records) (not_asked z q.qname 5 h.1) in
      ap (λ (r : ZoneReply). r.rcode) (by_tests z q false false false false h.0 none (not_asked z q.qname q.qtype h.1) h.1)
      in
      (there, back)
    where
      and_none : (x y : Bool) → y ≡ false → (x && y) ≡ false
      and_none true y e = e
      and_none false y e = refl

-- The records that are sent of a zone come back.
use Rattle.std.proofs.Common.{◌≡◌, ◌≤◌, ◌+◌, ℕ, suc, Bool, true, false, List, [], ◌∷◌, ◌++◌, length, refl, ap, sym, subst, ◌∙◌, arith, append_assoc, append-nil, length-append, cond}
use Rattle.std.specs.Prelude.{◌&&◌, if◌then◌else◌, nat_lt, not}
use Rattle.std.specs.List.{AllByRecursion, filter}
use Rattle.std.proofs.lemmas.Bool.Decides.{nat_tests}
use Rattle.dns_name.specs.Canonical.{same_name}
use Rattle.dns_message.specs.Equality.{same_record, same_record_equiv}
use Rattle.dns_message.specs.declared.record.Record.{Record}
use Rattle.dns_route.specs.Routes.{ends_name}
use Rattle.dns_transfer.specs.Transfers.{is_no_soa, other_records, soa_records}
use Rattle.dns_zone.specs.Owned.{ZoneState, is_of}
use Rattle.dns_incoming.specs.Incoming.{IncomingState, added_to, ended_with, faulted, limited_to, record_kept, taken_record}
use Rattle.dns_incoming.specs.IncomingLaws.{IsAtOrBelow, ZonesComeBack, all_taken, incoming}
use Rattle.dns_incoming.specs.declared.status.TransferDefect.TheVariants.{NoSoa, OtherSoa, Outside, TooMany}
use Rattle.dns_incoming.specs.declared.status.TransferStatus.TheVariants.{More, Done}
use Rattle.dns_incoming.proofs.CutLaws.{taken_then}

lt_true : (a b : ℕ) → a + 1 ≤ b → nat_lt a b ≡ true
lt_true a b h = grind (arith, nat_tests)

-- ---- what a filter leaves

head_step : (p : Record → Bool) (b : Bool) (r x : Record) (ks xs : List Record) → p r ≡ b → (ks ≡ x ∷ xs → p x ≡ true) → (if b then r ∷ ks else ks) ≡ x ∷ xs → p x ≡ true
head_step p true r x ks xs e ih h =
    let k : r ≡ x = cc in
    subst (λ (y : Record). p y ≡ true) k e
head_step p false r x ks xs e ih h = ih h

-- the first one passes
head_passes : (p : Record → Bool) (rs : List Record) (x : Record) (xs : List Record) → filter p rs ≡ x ∷ xs → p x ≡ true
head_passes p [] x xs h = absurd (cc)
head_passes p (r ∷ rs) x xs h = head_step p (p r) r x (filter p rs) xs refl (head_passes p rs x xs) h

-- a record that is kept
abbrev IsKept : List (List ℕ) → Record → Type 0
IsKept apex r = (is_of 6 r ≡ false) × (ends_name r.owner apex ≡ true)

kept_step : (apex : List (List ℕ)) (b : Bool) (r : Record) (ks : List Record) → is_of 6 r ≡ b → ends_name r.owner apex ≡ true → AllByRecursion (IsKept apex) ks → AllByRecursion (IsKept apex) (if not b then r ∷ ks else ks)
kept_step apex true r ks e w h = h
kept_step apex false r ks e w h = ((e, w), h)

others_kept : (apex : List (List ℕ)) (rs : List Record) → AllByRecursion (IsAtOrBelow apex) rs → AllByRecursion (IsKept apex) (filter is_no_soa rs)
others_kept apex [] h = tt
others_kept apex (r ∷ rs) h = kept_step apex (is_of 6 r) r (filter is_no_soa rs) refl h.0 (others_kept apex rs h.1)

-- ---- record for record

both_true : (a b : Bool) → a ≡ true → b ≡ true → (a && b) ≡ true
both_true a b h g = rw (h, g) refl

module _ (id most : ℕ) (apex : List (List ℕ)) (soa : Record) where
  -- the SOA record came, and these after it
  abbrev at : List Record → IncomingState
  at ps = record (incoming id apex most) { records = soa ∷ ps }

  first_taken : is_of 6 soa ≡ true → same_name soa.owner apex ≡ true → taken_record (incoming id apex most) soa ≡ at []
  first_taken t n = ap (λ (b : Bool). if b then record_kept (incoming id apex most) soa else faulted (incoming id apex most) NoSoa) (both_true (is_of 6 soa) (same_name soa.owner apex) t n)

  one_taken : (ps : List Record) (r : Record) → IsKept apex r → length ps + 2 ≤ most → taken_record (at ps) r ≡ at (ps ++ r ∷ [])
  one_taken ps r k l =
      let few : length (soa ∷ ps) + 1 ≤ most = omega (arith, l) in
      ap (λ (b : Bool). if b then ended_with (at ps) r else added_to (at ps) r) k.0
      ∙ (ap (λ (b : Bool). if b then limited_to (at ps) r else faulted (at ps) Outside) k.1
      ∙ ap (λ (b : Bool). if b then record_kept (at ps) r else faulted (at ps) TooMany) (lt_true (length (soa ∷ ps)) most few))

  others_taken : (os ps : List Record) → AllByRecursion (IsKept apex) os → length ps + length os + 1 ≤ most → all_taken (at ps) os ≡ at (ps ++ os)
  others_taken [] ps h l = ap at (sym (append-nil ps))
  others_taken (r ∷ os) ps h l =
      ap (λ (s : IncomingState). all_taken s os) (one_taken ps r h.0 (omega (arith, l)))
      ∙ (others_taken os (ps ++ r ∷ []) h.1 (omega (arith, l, length-append ps (r ∷ []))) ∙ ap at (append_assoc ps (r ∷ []) os))

  last_taken : (ps : List Record) → is_of 6 soa ≡ true → taken_record (at ps) soa ≡ record (at ps) { status = Done }
  last_taken ps t =
      ap (λ (b : Bool). if b then ended_with (at ps) soa else added_to (at ps) soa) t
      ∙ ap (λ (b : Bool). if b then record (at ps) { status = Done } else faulted (at ps) OtherSoa) (same_record_equiv.refl soa)

  zone_taken : (os : List Record) → is_of 6 soa ≡ true → same_name soa.owner apex ≡ true → AllByRecursion (IsKept apex) os → length os + 1 ≤ most →
      all_taken (incoming id apex most) (soa ∷ (os ++ soa ∷ [])) ≡ record (at os) { status = Done }
  zone_taken os t n h l =
      ap (λ (s : IncomingState). all_taken s (os ++ soa ∷ [])) (first_taken t n)
      ∙ (taken_then os (soa ∷ []) (at [])
      ∙ (ap (λ (s : IncomingState). all_taken s (soa ∷ [])) (others_taken os [] h (omega (arith, l))) ∙ last_taken os t))

pub zones_come_back : ZonesComeBack
zones_come_back z soa id most h =
    ap (λ (l : List Record). all_taken (incoming id z.apex most) (l ++ (other_records z ++ l))) h.one
    ∙ zone_taken id most z.apex soa (other_records z) (head_passes (is_of 6) z.records soa [] h.one) h.apex (others_kept z.apex z.records h.within) h.few

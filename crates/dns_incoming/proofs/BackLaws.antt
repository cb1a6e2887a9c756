-- A zone comes back of the octets that a transfer sends.
use Rattle.std.proofs.Common.{◌≡◌, ℕ, Bool, true, false, List, [], ◌∷◌, ◌++◌, map, refl, ap, sym, subst, ◌∙◌, cond}
use Rattle.std.specs.Prelude.{if◌then◌else◌, is_some}
use Rattle.std.specs.List.{AllByRecursion, filter, flat_map, slice_get}
use Rattle.dns_base.specs.Header.{header_of}
use Rattle.dns_base.specs.Msg.{IsMessage, Msg, ResourceRecord}
use Rattle.dns_base.specs.Records.{record_of}
use Rattle.dns_base.specs.Sections.{message_of, questions_of, reached, standing_answers}
use Rattle.dns_base.specs.TypedData.{ReadsBack}
use Rattle.dns_base.specs.Wire.{wire}
use Rattle.dns_message.specs.declared.record.Record.{Record}
use Rattle.dns_route.specs.Routes.{ends_name}
use Rattle.dns_transfer.specs.Transfers.{bunched, other_records, soa_records, transfer_message, transfer_records}
use Rattle.dns_transfer.proofs.TransferLaws.{bunched_joined}
use Rattle.dns_zone.specs.Owned.{HasTypedData, ZoneState, is_of}
use Rattle.dns_incoming.specs.Incoming.{IncomingState, added_to, ended_with, faulted, is_again, is_apex_soa, limited_to, opened_with, record_kept, taken_behind, taken_by, taken_message, taken_more, taken_record}
use Rattle.dns_incoming.specs.IncomingLaws.{CanBeWritten, IsAnswer, SentZonesComeBack, all_taken, cut_taken, incoming, messages_taken, reply_octets}
use Rattle.dns_incoming.specs.declared.status.TransferDefect.TheVariants.{NoSoa, OtherSoa, Outside, TooMany}
use Rattle.dns_incoming.specs.declared.status.TransferStatus.{TransferStatus}
use Rattle.dns_incoming.specs.declared.status.TransferStatus.TheVariants.{More, Done, Refused}
use Rattle.dns_incoming.proofs.CutLaws.{cuts_are_the_same}
use Rattle.dns_incoming.proofs.MessageLaws.{message_taken}
use Rattle.dns_incoming.proofs.ZoneLaws.{zones_come_back}

-- ---- the identifier stays

id_if : (n : ℕ) (b : Bool) (x y : IncomingState) → x.id ≡ n → y.id ≡ n → (if b then x else y).id ≡ n
id_if n true x y h g = h
id_if n false x y h g = g

opened_id : (s : IncomingState) (r : Record) → (opened_with s r).id ≡ s.id
opened_id s r = id_if s.id (is_apex_soa s.apex r) (record_kept s r) (faulted s NoSoa) refl refl

ended_id : (s : IncomingState) (r : Record) → (ended_with s r).id ≡ s.id
ended_id s r = id_if s.id (is_again (slice_get s.records 0) r) (record s { status = Done }) (faulted s OtherSoa) refl refl

limited_id : (s : IncomingState) (r : Record) → (limited_to s r).id ≡ s.id
limited_id s r = id_if s.id _ (record_kept s r) (faulted s TooMany) refl refl

added_id : (s : IncomingState) (r : Record) → (added_to s r).id ≡ s.id
added_id s r = id_if s.id (ends_name r.owner s.apex) (limited_to s r) (faulted s Outside) (limited_id s r) refl

behind_id : (s : IncomingState) (r : Record) → (taken_behind s r).id ≡ s.id
behind_id s r = id_if s.id (is_of 6 r) (ended_with s r) (added_to s r) (ended_id s r) (added_id s r)

status_id : (t : TransferStatus) (s : IncomingState) (r : Record) → (taken_by t s r).id ≡ s.id
status_id More s r = id_if s.id (is_some (slice_get s.records 0)) (taken_behind s r) (opened_with s r) (behind_id s r) (opened_id s r)
status_id Done s r = refl
status_id (Refused f) s r = refl

all_id : (rs : List Record) (s : IncomingState) → (all_taken s rs).id ≡ s.id
all_id [] s = refl
all_id (r ∷ rs) s = all_id rs (taken_record s r) ∙ status_id s.status s r

-- ---- bunches of written records are cuts of the records

split_map : (b rest : List ResourceRecord) (rs : List Record) → map record_of rs ≡ b ++ rest → (xs : List Record) × (ys : List Record) × (b ≡ map record_of xs) × (rest ≡ map record_of ys) × (xs ++ ys ≡ rs)
split_map [] rest rs h = ([], rs, refl, sym h, refl)
split_map (x ∷ b) rest [] h = absurd (cc)
split_map (x ∷ b) rest (r ∷ rs) h =
    let e : record_of r ≡ x = cc in
    let t : map record_of rs ≡ b ++ rest = cc in
    let s = split_map b rest rs t in
    (r ∷ s.0, s.1, ap (λ (y : ResourceRecord). y ∷ b) (sym e) ∙ ap (λ (l : List ResourceRecord). record_of r ∷ l) s.2, s.3, ap (λ (l : List Record). r ∷ l) s.4)

abbrev flat : {A : Type 0} → List (List A) → List A
flat {A} xs = flat_map (λ (l : List A). l) xs

cut_by : (bs : List (List ResourceRecord)) (rs : List Record) → flat bs ≡ map record_of rs → (cuts : List (List Record)) × (bs ≡ map (map record_of) cuts) × (flat cuts ≡ rs)
cut_by [] [] h = ([], refl, refl)
cut_by [] (r ∷ rs) h = absurd (cc)
cut_by (b ∷ bs) rs h =
    let s = split_map b (flat bs) rs (sym h) in
    let t = cut_by bs s.1 s.3 in
    (s.0 ∷ t.0, ap (λ (l : List ResourceRecord). l ∷ bs) s.2 ∙ ap (λ (l : List (List ResourceRecord)). map record_of s.0 ∷ l) t.1, ap (λ (l : List Record). s.0 ++ l) t.2 ∙ s.4)

-- ---- records whose data reads back

abbrev AreTyped : List Record → Type 0
AreTyped rs = AllByRecursion HasTypedData rs

some_step : (b : Bool) (r : Record) (ks : List Record) → HasTypedData r → AreTyped ks → AreTyped (cond b (r ∷ ks) ks)
some_step true r ks h g = (h, g)
some_step false r ks h g = g

some_typed : (p : Record → Bool) (rs : List Record) → AreTyped rs → AreTyped (filter p rs)
some_typed p [] h = tt
some_typed p (r ∷ rs) h = some_step (p r) r (filter p rs) h.0 (some_typed p rs h.1)

typed_then : (xs ys : List Record) → AreTyped xs → AreTyped ys → AreTyped (xs ++ ys)
typed_then [] ys h g = g
typed_then (x ∷ xs) ys h g = (h.0, typed_then xs ys h.1 g)

typed_split : (xs ys : List Record) → AreTyped (xs ++ ys) → AreTyped xs × AreTyped ys
typed_split [] ys h = (tt, h)
typed_split (x ∷ xs) ys h =
    let s = typed_split xs ys h.1 in
    ((h.0, s.0), s.1)

typed_cuts : (cuts : List (List Record)) → AreTyped (flat cuts) → AllByRecursion AreTyped cuts
typed_cuts [] h = tt
typed_cuts (rs ∷ more) h =
    let s = typed_split rs (flat more) h in
    (s.0, typed_cuts more s.1)

-- ---- message for message

module _ (back : (m : Msg) → IsMessage m → message_of (wire m) ≡ m) (read : (m : Msg) → IsMessage m → ReadsBack m.answers (reached (questions_of (wire m)).1 (standing_answers (wire m)))) where
  one_taken : (o : List ℕ) (rs : List Record) (s : IncomingState) → s.id ≡ (header_of o).id → AreTyped rs → CanBeWritten o (map record_of rs) → taken_message s (reply_octets o (map record_of rs)) ≡ all_taken s rs
  one_taken o rs s i t w =
      let m = transfer_message o (map record_of rs) in
      let a : IsAnswer s m rs = record { lawful = w; id = sym i; response = refl; code = refl; answers = refl; read = t } in
      message_taken s m rs a (back m w) (read m w)

  cuts_taken : (o : List ℕ) (cuts : List (List Record)) (s : IncomingState) → s.id ≡ (header_of o).id → AllByRecursion AreTyped cuts → AllByRecursion (CanBeWritten o) (map (map record_of) cuts) → messages_taken s (map (reply_octets o) (map (map record_of) cuts)) ≡ cut_taken s cuts
  cuts_taken o [] s i t w = refl
  cuts_taken o (rs ∷ more) s i t w =
      ap (λ (x : IncomingState). messages_taken x (map (reply_octets o) (map (map record_of) more))) (one_taken o rs s i t.0 w.0)
      ∙ cuts_taken o more (all_taken s rs) (all_id rs s ∙ i) t.1 w.1

  pub sent_back : SentZonesComeBack
  sent_back z soa o most h t w =
      let rs = soa_records z ++ (other_records z ++ soa_records z) in
      let s = incoming (header_of o).id z.apex most in
      let c = cut_by (bunched (transfer_records z)) rs (bunched_joined (transfer_records z)) in
      let k : AreTyped rs = typed_then (soa_records z) (other_records z ++ soa_records z) (some_typed _ z.records t) (typed_then (other_records z) (soa_records z) (some_typed _ z.records t) (some_typed _ z.records t)) in
      ap (λ (bs : List (List ResourceRecord)). messages_taken s (map (reply_octets o) bs)) c.1
      ∙ (cuts_taken o c.0 s refl (typed_cuts c.0 (subst AreTyped (sym c.2) k)) (subst (AllByRecursion (CanBeWritten o)) c.1 w)
      ∙ (cuts_are_the_same s c.0 ∙ (ap (λ (l : List Record). all_taken s l) c.2 ∙ zones_come_back z soa (header_of o).id most h)))

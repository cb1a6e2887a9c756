-- The replies of a transfer have the records of the transfer.
use Rattle.std.proofs.Common.{◌≡◌, ℕ, zero, suc, Bool, true, false, List, [], ◌∷◌, ◌++◌, length, take, refl, ap, sym, subst, ◌∙◌, arith, ◌≤◌, ◌+◌, append_assoc, append-nil, length-append, map}
use Rattle.std.specs.Prelude.{if◌then◌else◌, nat_le, nat_eq, Option, Some, None, Ok, Err}
use Rattle.std.specs.List.{AllByRecursion, flat_map, slice_get}
use Rattle.std.proofs.lemmas.List.Concat.{flat_map-append}
use Rattle.std.proofs.lemmas.Bool.Decides.{nat_tests}
use Rattle.dns_base.specs.Msg.{Msg, ResourceRecord}
use Rattle.dns_name.specs.Labels.{IsName, spell}
use Rattle.dns_name.specs.Place.{two}
use Rattle.dns_message.specs.declared.question.Question.{Question}
use Rattle.dns_base.specs.Replaced.{spelling}
use Rattle.dns_base.specs.Wire.{question_octets, record_octets, wire}
use Rattle.dns_base.proofs.BuildLaws.{questions_size, wire_size}
use Rattle.dns_service.specs.declared.service.ServiceFeedback.{ServiceFeedback}
use Rattle.dns_service.specs.declared.service.ServiceFeedback.TheVariants.{EndTransaction}
use Rattle.dns_service.specs.declared.service.ServiceError.TheVariants.{InternalError}
use Rattle.dns_service.specs.declared.service.Polled.TheVariants.{Ready}
use Rattle.dns_zone.specs.Owned.{ZoneState}
use Rattle.dns_transfer.specs.Transfers.{IsSmall, SmallTransfersFit, TransferFits, TransfersAreWhole, answer_message, answers_in, behind_replies, bunched, bunches, has_room_for, joined_answers, feedback_at, message_item, transfer, transfer_message, transfer_of, transfer_poll, transfer_records}

abbrev flat : List (List ResourceRecord) → List ResourceRecord
flat bs = flat_map (λ (b : List ResourceRecord). b) bs

le_true : (a b : ℕ) → a ≤ b → nat_le a b ≡ true
le_true a b h = grind (arith, nat_tests)

-- ---- bunches, joined

bunch_step : (c : Bool) (xs ys : List (List ResourceRecord)) (all : List ResourceRecord) → flat xs ≡ all → flat ys ≡ all → flat (if c then xs else ys) ≡ all
bunch_step true xs ys all h g = h
bunch_step false xs ys all h g = g

bunches_joined : (rs b : List ResourceRecord) → flat (bunches b rs) ≡ b ++ rs
bunches_joined [] b = refl
bunches_joined (r ∷ rs) b = bunch_step (has_room_for b r) (bunches (b ++ r ∷ []) rs) (b ∷ bunches (r ∷ []) rs) (b ++ r ∷ rs)
    (bunches_joined rs (b ++ r ∷ []) ∙ append_assoc b (r ∷ []) rs)
    (ap (λ t. b ++ t) (bunches_joined rs (r ∷ [])))

pub bunched_joined : (rs : List ResourceRecord) → flat (bunched rs) ≡ rs
bunched_joined [] = refl
bunched_joined (r ∷ rs) = bunches_joined rs (r ∷ [])

-- ---- the first that many

take_some : {A : Type 0} (xs : List A) (n : ℕ) (x : A) → slice_get xs n ≡ Some x → take (suc n) xs ≡ take n xs ++ x ∷ []
take_some [] n x h = absurd (cc)
take_some (y ∷ ys) zero x h = let k : y ≡ x = cc in ap (λ t. t ∷ []) k
take_some (y ∷ ys) (suc n) x h = ap (λ t. y ∷ t) (take_some ys n x h)

take_none : {A : Type 0} (xs : List A) (n : ℕ) → slice_get xs n ≡ None → take (suc n) xs ≡ take n xs
take_none [] zero h = refl
take_none [] (suc n) h = refl
take_none (y ∷ ys) zero h = absurd (cc)
take_none (y ∷ ys) (suc n) h = ap (λ t. y ∷ t) (take_none ys n h)

take_all : {A : Type 0} (xs : List A) (n : ℕ) → length xs ≤ n → take n xs ≡ xs
take_all [] zero h = refl
take_all [] (suc n) h = refl
take_all (y ∷ ys) zero h = absurd (omega arith)
take_all (y ∷ ys) (suc n) h = ap (λ t. y ∷ t) (take_all ys n (omega (arith, h)))

-- ---- replies, joined

told_answers : (f : Option ServiceFeedback) (m : Msg) → length (wire m) ≤ 65535 → answers_in (answer_message (Ready (Some (message_item f m)))) ≡ m.answers
told_answers f m h = ap (λ (b : Bool). answers_in (answer_message (Ready (Some (if b then Ok (record { response = Some m; feedback = f }) else Err InternalError))))) (le_true (length (wire m)) 65535 h)

behind_step : (b : Bool) → answers_in (answer_message (if b then Ready (Some (Ok (record { response = None; feedback = Some EndTransaction }))) else Ready None)) ≡ []
behind_step true = refl
behind_step false = refl

behind_answers : (n k : ℕ) → answers_in (answer_message (behind_replies n k)) ≡ []
behind_answers n k = behind_step (nat_eq k n)

module _ (bs : List (List ResourceRecord)) (o : List ℕ) (fits : TransferFits bs o) where
  more_joined : (n : ℕ) (g : Option (List ResourceRecord)) → slice_get bs n ≡ g → flat (take n bs) ++ answers_in (answer_message (transfer_poll o (length bs) n g)) ≡ flat (take (suc n) bs)
  more_joined n (Some b) e =
      ap (λ t. flat (take n bs) ++ t) (told_answers (feedback_at n) (transfer_message o b) (fits n b e) ∙ sym (append-nil b))
      ∙ (sym (flat_map-append (λ (x : List ResourceRecord). x) (take n bs) (b ∷ [])) ∙ ap flat (sym (take_some bs n b e)))
  more_joined n None e =
      ap (λ t. flat (take n bs) ++ t) (behind_answers (length bs) n) ∙ (append-nil (flat (take n bs)) ∙ ap flat (sym (take_none bs n e)))

  pub all_joined : (n : ℕ) → joined_answers (transfer_of bs o) n ≡ flat (take n bs)
  all_joined zero = refl
  all_joined (suc n) = ap (λ t. t ++ answers_in (answer_message (transfer_of bs o n))) (all_joined n) ∙ more_joined n (slice_get bs n) refl

pub transfers_are_whole : TransfersAreWhole
transfers_are_whole z o n fits few =
    let bs = bunched (transfer_records z) in
    all_joined bs o fits n ∙ (ap flat (take_all bs n few) ∙ bunched_joined (transfer_records z))

-- ---- bunches of small records are small

abbrev FitsBunch : List ResourceRecord → Type 0
FitsBunch b = length (spelling b) ≤ 65000

true_le : (a b : ℕ) → nat_le a b ≡ true → a ≤ b
true_le a b h = grind (arith, nat_tests)

one_fits : (r : ResourceRecord) → IsSmall r → FitsBunch (r ∷ [])
one_fits r h = omega (arith, h, length-append (record_octets r) [])

room_fits : (b : List ResourceRecord) (r : ResourceRecord) → IsSmall r → has_room_for b r ≡ true → FitsBunch (b ++ r ∷ [])
room_fits [] r h e = one_fits r h
room_fits (x ∷ xs) r h e = omega (arith, true_le (length (spelling (x ∷ xs ++ r ∷ []))) 16384 e)

fits_step : (c : Bool) (xs ys : List (List ResourceRecord)) (k : Bool) → c ≡ k → (k ≡ true → AllByRecursion FitsBunch xs) → AllByRecursion FitsBunch ys → AllByRecursion FitsBunch (if c then xs else ys)
fits_step true xs ys k e h g = h (sym e)
fits_step false xs ys k e h g = g

bunches_fit : (rs b : List ResourceRecord) → FitsBunch b → AllByRecursion IsSmall rs → AllByRecursion FitsBunch (bunches b rs)
bunches_fit [] b h s = (h, tt)
bunches_fit (r ∷ rs) b h s = fits_step (has_room_for b r) (bunches (b ++ r ∷ []) rs) (b ∷ bunches (r ∷ []) rs) (has_room_for b r) refl
    (λ e. bunches_fit rs (b ++ r ∷ []) (room_fits b r s.0 e) s.1)
    (h, bunches_fit rs (r ∷ []) (one_fits r s.0) s.1)

all_at : (bs : List (List ResourceRecord)) (k : ℕ) (b : List ResourceRecord) → AllByRecursion FitsBunch bs → slice_get bs k ≡ Some b → FitsBunch b
all_at [] k b h e = absurd (cc)
all_at (x ∷ xs) zero b h e = let i : x ≡ b = cc in subst FitsBunch i h.0
all_at (x ∷ xs) (suc k) b h e = all_at xs k b h.1 e

question_size : (q : Question) → IsName q.qname → questions_size (q ∷ []) ≤ 259
question_size q n = omega (arith, n.room, length-append (question_octets q) [], length-append (spell q.qname) (two q.qtype ++ two q.qclass))

pub small_transfers_fit : SmallTransfersFit
small_transfers_fit z o q e n s k b h =
    let m = transfer_message o b in
    let a = all_at (bunched (transfer_records z)) k b (bunches_fit (transfer_records z) [] (omega arith) s) h in
    omega (arith, wire_size m, a, question_size q n, ap questions_size e)

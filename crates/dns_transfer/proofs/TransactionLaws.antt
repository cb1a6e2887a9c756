-- Each reply of a transfer is queued in its transaction.
use Rattle.std.proofs.Common.{◌≡◌, ℕ, zero, suc, Bool, true, false, List, [], ◌∷◌, length, refl, ap, sym, ◌∙◌, arith, ◌≤◌}
use Rattle.std.specs.Prelude.{if◌then◌else◌, nat_le, nat_eq, Option, Some, None, Ok, Err}
use Rattle.std.specs.List.{slice_get}
use Rattle.std.proofs.lemmas.Bool.Decides.{nat_tests}
use Rattle.dns_base.specs.Msg.{Msg, ResourceRecord}
use Rattle.dns_base.specs.Wire.{wire}
use Rattle.dns_service.specs.Answer.{Answer}
use Rattle.dns_session.specs.Heard.{answer_status, status_after_some}
use Rattle.dns_service.specs.declared.invoker.InvokerStatus.{InvokerStatus}
use Rattle.dns_service.specs.declared.invoker.InvokerStatus.TheVariants.{Normal, InTransaction}
use Rattle.dns_service.specs.declared.service.ServiceFeedback.{ServiceFeedback}
use Rattle.dns_service.specs.declared.service.ServiceFeedback.TheVariants.{BeginTransaction, EndTransaction}
use Rattle.dns_service.specs.declared.service.ServiceError.TheVariants.{InternalError}
use Rattle.dns_service.specs.declared.service.Polled.TheVariants.{Ready}
use Rattle.dns_transfer.specs.Transfers.{TransactionsEnd, TransferFits, TransfersAreTransactions, answer_message, behind_replies, bunched, status_behind, feedback_at, message_item, transfer_message, transfer_of, transfer_poll, transfer_records}

le_true : (a b : ℕ) → a ≤ b → nat_le a b ≡ true
le_true a b h = grind (arith, nat_tests)

eq_true : (a : ℕ) → nat_eq a a ≡ true
eq_true a = grind (arith, nat_tests)

not_first : (n : ℕ) → nat_eq (suc n) 0 ≡ false
not_first n = grind (arith, nat_tests)

some_before : {A : Type 0} (xs : List A) (n : ℕ) (x : A) → slice_get xs (suc n) ≡ Some x → (y : A) × (slice_get xs n ≡ Some y)
some_before [] n x h = absurd (cc)
some_before (y ∷ ys) zero x h = (y, refl)
some_before (y ∷ ys) (suc n) x h = some_before ys n x h

none_behind : {A : Type 0} (xs : List A) → slice_get xs (length xs) ≡ None
none_behind [] = refl
none_behind (x ∷ xs) = none_behind xs

told_status : (f : Option ServiceFeedback) (m : Msg) (s : InvokerStatus) → length (wire m) ≤ 65535 → answer_status (Ready (Some (message_item f m))) s ≡ status_after_some f s
told_status f m s h = ap (λ (b : Bool). answer_status (Ready (Some (if b then Ok (record { response = Some m; feedback = f }) else Err InternalError))) s) (le_true (length (wire m)) 65535 h)

no_message : (b : Bool) (m : Msg) → answer_message (if b then Ready (Some (Ok (record { response = None; feedback = Some EndTransaction }))) else Ready None) ≡ Some m → ⊥
no_message true m h = absurd (cc)
no_message false m h = absurd (cc)

module _ (bs : List (List ResourceRecord)) (o : List ℕ) where
  has_bunch : (k : ℕ) (g : Option (List ResourceRecord)) (m : Msg) → answer_message (transfer_poll o (length bs) k g) ≡ Some m → (b : List ResourceRecord) × (g ≡ Some b)
  has_bunch k (Some b) m h = (b, refl)
  has_bunch k None m h = absurd (no_message (nat_eq k (length bs)) m h)

  module _ (fits : TransferFits bs o) where
    in_transaction : (n : ℕ) (b : List ResourceRecord) → slice_get bs n ≡ Some b → status_behind (transfer_of bs o) (suc n) ≡ InTransaction
    in_transaction zero b e =
        ap (λ (g : Option (List ResourceRecord)). answer_status (transfer_poll o (length bs) 0 g) Normal) e ∙ told_status (feedback_at 0) (transfer_message o b) Normal (fits 0 b e)
    in_transaction (suc n) b e =
        let y = some_before bs n b e in
        ap (λ (s : InvokerStatus). answer_status (transfer_of bs o (suc n)) s) (in_transaction n y.0 y.1)
        ∙ (ap (λ (g : Option (List ResourceRecord)). answer_status (transfer_poll o (length bs) (suc n) g) InTransaction) e ∙ (told_status (feedback_at (suc n)) (transfer_message o b) InTransaction (fits (suc n) b e)
        ∙ ap (λ (c : Bool). status_after_some (if c then Some BeginTransaction else None) InTransaction) (not_first n)))

    pub reply_in_transaction : (k : ℕ) (m : Msg) → answer_message (transfer_of bs o k) ≡ Some m → status_behind (transfer_of bs o) (suc k) ≡ InTransaction
    reply_in_transaction k m h =
        let b = has_bunch k (slice_get bs k) m h in
        in_transaction k b.0 b.1

  pub ended : (s : InvokerStatus) → answer_status (transfer_of bs o (length bs)) s ≡ Normal
  ended s =
      ap (λ (g : Option (List ResourceRecord)). answer_status (transfer_poll o (length bs) (length bs) g) s) (none_behind bs)
      ∙ ap (λ (b : Bool). answer_status (if b then Ready (Some (Ok (record { response = None; feedback = Some EndTransaction }))) else Ready None) s) (eq_true (length bs))

pub transfers_are_transactions : TransfersAreTransactions
transfers_are_transactions z o k m fits h = reply_in_transaction (bunched (transfer_records z)) o fits k m h

pub transactions_end : TransactionsEnd
transactions_end z o = ended (bunched (transfer_records z)) o (status_behind (transfer_of (bunched (transfer_records z)) o) (length (bunched (transfer_records z))))

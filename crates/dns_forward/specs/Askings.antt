-- What an asking has of its past: it was made for a question, and heard events since.
use Rattle.std.specs.Prelude.{ℕ, ◌≡◌, ◌+◌, Bool, true, false, List, [], ◌∷◌, ◌++◌, length}
use Rattle.dns_base.specs.Header.{header_of}
use Rattle.dns_forward.specs.declared.asking.Asking.{Asking}
use Rattle.dns_forward.specs.declared.asking_event.AskingEvent.{AskingEvent}
use Rattle.dns_forward.specs.declared.asking_event.AskingOutcome.{AskingOutcome}
use Rattle.dns_forward.specs.declared.matching.Expected.{Expected}
use Rattle.dns_forward.specs.Asked.{Inquiry, asked_by, due_ticks, has_ended, last_from}
use Rattle.dns_forward.specs.Matching.{single_question, with_id}

-- what is expected of an answer
pub record Expects (q : Inquiry) (e : Expected) : Type 0 where
  pub id : e.id ≡ q.id
  pub opcode : e.opcode ≡ (header_of q.message).opcode
  pub question : e.question ≡ single_question q.message

-- no tick can be due any more if it has ended; else as many as there are tries, less those that were due, and the last send is kept
abbrev pub HasLeft : Bool → Inquiry → List ℕ → ℕ → ℕ → Type 0
HasLeft true q ats left last = left ≡ 0
HasLeft false q ats left last = (left + length ats ≡ q.tries) × (last ≡ last_from q.at ats)

-- an asking was made for a question, and heard these events since
pub record HasHeard (q : Inquiry) (es : List AskingEvent) (a : Asking) : Type 0 where
  pub octets : a.octets ≡ with_id q.id q.message
  pub asker : a.asker ≡ (header_of q.message).id
  pub expects : Expects q a.expected
  pub timeout : a.timeout ≡ q.timeout
  pub left : HasLeft (has_ended q es) q (due_ticks q es) a.left a.last

-- an asking hears one event more: this is its outcome, the last of those of all its events
abbrev pub Hears : Asking → Asking → AskingEvent → AskingOutcome → Type 0
Hears old new e o = (q : Inquiry) (es : List AskingEvent) → HasHeard q es old
    → HasHeard q (es ++ e ∷ []) new × (asked_by q (es ++ e ∷ []) ≡ asked_by q es ++ o ∷ [])

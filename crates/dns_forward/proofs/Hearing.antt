-- An asking hears one event more.
use Rattle.std.proofs.Common.{◌≡◌, ℕ, ◌+◌, ◌-◌, Bool, true, false, List, [], ◌∷◌, ◌++◌, Option, Some, None, ap, sym, ◌∙◌, arith}
use Rattle.dns_base.specs.Header.{header_of}
use Rattle.dns_message.specs.declared.question.Question.{Question}
use Rattle.dns_forward.specs.declared.asking.Asking.{Asking}
use Rattle.dns_forward.specs.declared.asking_event.AskingEvent.{AskingEvent}
use Rattle.dns_forward.specs.declared.asking_event.AskingEvent.TheVariants.{Arrived, Tick}
use Rattle.dns_forward.specs.declared.asking_event.AskingOutcome.{AskingOutcome}
use Rattle.dns_forward.specs.declared.asking_event.AskingOutcome.TheVariants.{OfArrival, OfTick}
use Rattle.dns_forward.specs.declared.asking_event.Ticked.TheVariants.{Nothing, Send, GaveUp}
use Rattle.dns_forward.specs.declared.matching.Expected.{Expected}
use Rattle.dns_forward.specs.Asked.{Inquiry, asked_by, is_due, outcome}
use Rattle.dns_forward.specs.Askings.{Expects, HasHeard, Hears}
use Rattle.dns_forward.specs.Matching.{is_answer, matches, with_id}
use Rattle.dns_forward.proofs.Events.{asked-more}
use Rattle.dns_forward.proofs.Heard.{LeftBehind, arrived_answer, arrived_late, arrived_stray, ticked_again, ticked_early, ticked_last, ticked_late}

-- what is left, and what came of the event
heard : (q : Inquiry) (es : List AskingEvent) (e : AskingEvent) (o : AskingOutcome) (a : Asking) (left last : ℕ) → HasHeard q es a → LeftBehind q (es ++ e ∷ []) left last × (outcome q es e ≡ o)
    → HasHeard q (es ++ e ∷ []) (record a { left = left; last = last }) × (asked_by q (es ++ e ∷ []) ≡ asked_by q es ++ o ∷ [])
heard q es e o a left last h s = (
  record { octets = h.octets; asker = h.asker; expects = h.expects; timeout = h.timeout; left = s.0 },
  asked-more q es e ∙ ap (λ (x : AskingOutcome). asked_by q es ++ x ∷ []) s.1,
)

-- ---- arrivals

matches_so : (q : Inquiry) (e : Expected) (o : List ℕ) → Expects q e → matches q.message q.id o ≡ is_answer e.id e.opcode e.question o
matches_so q e o x =
    sym
    (ap (λ (i : ℕ). is_answer i e.opcode e.question o) x.id
    ∙ (ap (λ (c : ℕ). is_answer q.id c e.question o) x.opcode
    ∙ ap (λ (r : Option Question). is_answer q.id (header_of q.message).opcode r o) x.question))

pub hears_late_arrival : (a : Asking) (at : ℕ) (o : List ℕ) → a.left ≡ 0 → Hears a a (Arrived at o) (OfArrival None)
hears_late_arrival a at o z = λ q es h. heard q es (Arrived at o) (OfArrival None) a a.left a.last h (arrived_late q es at o a.left a.last h.left z)

pub hears_stray : (a : Asking) (at : ℕ) (o : List ℕ) (b : Bool) → b ≡ is_answer a.expected.id a.expected.opcode a.expected.question o → b ≡ false → Hears a a (Arrived at o) (OfArrival None)
hears_stray a at o b e f = λ q es h.
    heard q es (Arrived at o) (OfArrival None) a a.left a.last h (arrived_stray q es at o a.left a.last h.left (matches_so q a.expected o h.expects ∙ (sym e ∙ f)))

pub hears_answer : (a : Asking) (at : ℕ) (o m : List ℕ) (b : Bool) → (a.left ≡ 0 → ⊥) → b ≡ is_answer a.expected.id a.expected.opcode a.expected.question o → b ≡ true → m ≡ with_id a.asker o
    → Hears a (record a { left = 0 }) (Arrived at o) (OfArrival (Some m))
hears_answer a at o m b n e t w = λ q es h.
    let s = arrived_answer q es at o a.left a.last h.left n (matches_so q a.expected o h.expects ∙ (sym e ∙ t)) in
    let given : with_id (header_of q.message).id o ≡ m = ap (λ (i : ℕ). with_id i o) (sym h.asker) ∙ sym w in
    heard q es (Arrived at o) (OfArrival (Some m)) a 0 a.last h (s.0, s.1 ∙ ap (λ (x : List ℕ). OfArrival (Some x)) given)

-- ---- ticks

due_so : (q : Inquiry) (a : Asking) (at : ℕ) (b c : Bool) → a.timeout ≡ q.timeout → b ≡ is_due a.timeout a.last at → b ≡ c → is_due q.timeout a.last at ≡ c
due_so q a at b c t e f = ap (λ (n : ℕ). is_due n a.last at) (sym t) ∙ (sym e ∙ f)

one_less : (n : ℕ) → (n ≡ 0 → ⊥) → n ≡ n - 1 + 1
one_less n h = omega arith

pub hears_late_tick : (a : Asking) (at : ℕ) → a.left ≡ 0 → Hears a a (Tick at) (OfTick Nothing)
hears_late_tick a at z = λ q es h. heard q es (Tick at) (OfTick Nothing) a a.left a.last h (ticked_late q es at a.left a.last h.left z)

pub hears_early_tick : (a : Asking) (at : ℕ) (b : Bool) → b ≡ is_due a.timeout a.last at → b ≡ false → Hears a a (Tick at) (OfTick Nothing)
hears_early_tick a at b e f = λ q es h. heard q es (Tick at) (OfTick Nothing) a a.left a.last h (ticked_early q es at a.left a.last h.left (due_so q a at b false h.timeout e f))

pub hears_again : (a : Asking) (at : ℕ) (b : Bool) → (a.left ≡ 0 → ⊥) → b ≡ is_due a.timeout a.last at → b ≡ true → (a.left - 1 ≡ 0 → ⊥)
    → Hears a (record a { left = a.left - 1; last = at }) (Tick at) (OfTick Send)
hears_again a at b n e t some = λ q es h.
    heard q es (Tick at) (OfTick Send) a (a.left - 1) at h (ticked_again q es at a.left a.last (a.left - 1) h.left (due_so q a at b true h.timeout e t) (one_less a.left n) some)

pub hears_last : (a : Asking) (at : ℕ) (b : Bool) → (a.left ≡ 0 → ⊥) → b ≡ is_due a.timeout a.last at → b ≡ true → a.left - 1 ≡ 0
    → Hears a (record a { left = a.left - 1; last = at }) (Tick at) (OfTick GaveUp)
hears_last a at b n e t none = λ q es h.
    heard q es (Tick at) (OfTick GaveUp) a (a.left - 1) at h (ticked_last q es at a.left a.last (a.left - 1) h.left (due_so q a at b true h.timeout e t) (one_less a.left n) none)

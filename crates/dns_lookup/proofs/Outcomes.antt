-- The outcome that an asking tells is that of its inquiry.
use Rattle.std.proofs.Common.{◌≡◌, List, [], ◌∷◌, ◌++◌, append_assoc, ap, sym, ◌∙◌}
use Rattle.std.proofs.lemmas.List.{append-nil}
use Rattle.dns_forward.specs.Asked.{Inquiry, asked_by, outcome, outcomes}
use Rattle.dns_forward.specs.Askings.{HasHeard, Hears}
use Rattle.dns_forward.specs.declared.asking.Asking.{Asking}
use Rattle.dns_forward.specs.declared.asking_event.AskingEvent.{AskingEvent}
use Rattle.dns_forward.specs.declared.asking_event.AskingOutcome.{AskingOutcome}

outcomes-more : (q : Inquiry) (before es : List AskingEvent) (e : AskingEvent) → outcomes q before (es ++ e ∷ []) ≡ outcomes q before es ++ outcome q (before ++ es) e ∷ []
outcomes-more q before [] e = ap (λ (b : List AskingEvent). outcome q b e ∷ []) (sym (append-nil before))
outcomes-more q before (x ∷ es) e =
    ap (λ (os : List AskingOutcome). outcome q before x ∷ os)
    (outcomes-more q (before ++ x ∷ []) es e ∙ ap (λ (b : List AskingEvent). outcomes q (before ++ x ∷ []) es ++ outcome q b e ∷ []) (append_assoc before (x ∷ []) es))

asked-more : (q : Inquiry) (es : List AskingEvent) (e : AskingEvent) → asked_by q (es ++ e ∷ []) ≡ asked_by q es ++ outcome q es e ∷ []
asked-more q es e = outcomes-more q [] es e

last-same : (xs : List AskingOutcome) (a b : AskingOutcome) → xs ++ a ∷ [] ≡ xs ++ b ∷ [] → a ≡ b
last-same [] a b h = cc
last-same (x ∷ xs) a b h = last-same xs a b (cc)

pub outcome-is : (q : Inquiry) (es : List AskingEvent) (x : AskingEvent) (o : AskingOutcome) (old new : Asking) → HasHeard q es old → Hears old new x o → o ≡ outcome q es x
outcome-is q es x o old new was hears =
    let h = hears q es was in
    last-same (asked_by q es) o (outcome q es x) (sym h.1 ∙ asked-more q es x)

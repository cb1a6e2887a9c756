use Rattle.std.proofs.Common.{◌≡◌, ◌+◌, ◌<◌, ◌∷◌, ◌++◌, [], List, take, length, ap, sym, subst, ◌∙◌, append_assoc}
use Rattle.std.proofs.lemmas.List.{append-nil, take_more, take_all}
use Rattle.dns_forward.specs.declared.asking_event.AskingEvent.{AskingEvent}
use Rattle.dns_forward.specs.declared.asking_event.AskingOutcome.{AskingOutcome}
use Rattle.dns_forward.specs.Asked.{asked_by}
use Rattle.dns_forward.specs.Askings.{HasHeard}
use Rattle.dns_forward.proofs.all_events.hear_all.Goals as goal

pub events-init : goal.events-init
events-init c = λ q es start.
    let n : es ++ [] ≡ es = append-nil es in (
      subst (λ (ys : List AskingEvent). HasHeard q ys c.args.asking.now) (sym n) start,
      ap (asked_by q) n ∙ (sym (append-nil (asked_by q es)) ∙ ap (λ (os : List AskingOutcome). asked_by q es ++ os) (sym c.requires)),
    )

pub events-preserved : goal.events-preserved
events-preserved c = λ q es start.
    let i = c.events.event-index in
    let xs = c.args.events.now in
    let e = c.event-item.result in
    let lt : i < length xs = c.events-test.true in
    let one : take (i + 1) xs ≡ take i xs ++ e ∷ [] = take_more xs i e lt ∙ ap (λ (x : AskingEvent). take i xs ++ x ∷ []) (sym c.event-item.is) in
    let t : es ++ take (i + 1) xs ≡ es ++ take i xs ++ e ∷ [] = ap (λ (ys : List AskingEvent). es ++ ys) one ∙ sym (append_assoc es (take i xs) (e ∷ [])) in
    let so = c.events.invariant q es start in
    let f = c.in_ok-hear_next.ensures q (es ++ take i xs) (asked_by q es) so.0 so.1 in
    (rw t f.0, rw t f.1)

pub returns : goal.returns
returns c = λ q es start.
    sym (ap (λ (ys : List AskingEvent). asked_by q (es ++ ys)) (take_all c.events.event-index c.args.events.now c.events-test.false))
    ∙ (c.events.invariant q es start).1

use Rattle.std.proofs.Common.{[], ◌∷◌, ◌++◌, List, ap, sym, ◌∙◌, append_assoc}
use Rattle.dns_forward.specs.declared.asking_event.AskingOutcome.{AskingOutcome}
use Rattle.dns_forward.proofs.all_events.hear_next.Goals as goal

pub returns : goal.returns
returns c = λ q es before h so.
    let f = c.in_ok-outcome.ensures.ok q es h in
    let o : List AskingOutcome = c.in_ok-outcome.outcome ∷ [] in
    let old : List AskingOutcome = c.args.outcomes.now.items in
    (f.0, f.1 ∙ (ap (λ (os : List AskingOutcome). os ++ o) so ∙ (append_assoc before old o ∙ ap (λ (os : List AskingOutcome). before ++ os) (sym c.in_ok-push.ensures.items))))

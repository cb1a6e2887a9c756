use Rattle.std.proofs.Common.{◌≡◌, ◌++◌, List, take}
use Rattle.dns_forward.specs.declared.asking_event.AskingEvent.{AskingEvent}
use Rattle.dns_forward.specs.Asked.{Inquiry, asked_by}
use Rattle.dns_forward.specs.Askings.{HasHeard}
use Rattle.dns_forward.proofs.all_events.hear_all.Given as goal

-- what came of the events so far
abbrev pub invariant-events : goal.invariant-events
invariant-events l = (q : Inquiry) (es : List AskingEvent) → HasHeard q es l.fn.asking
    → HasHeard q (es ++ take l.event-index l.events) l.asking × (asked_by q (es ++ take l.event-index l.events) ≡ asked_by q es ++ l.outcomes.items)

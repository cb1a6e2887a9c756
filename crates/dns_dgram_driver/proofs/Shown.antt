-- What was heard was shown by a look.
use Rattle.std.proofs.Common.{◌≡◌, List, [], ◌∷◌, Bool, true, false, refl, sym, ◌∙◌}
use Rattle.std.specs.Prelude.{◌||◌}
use Rattle.std.specs.List.{list_any}
use Rattle.dns_events.specs.declared.look.Look.{Look}
use Rattle.dns_events.specs.declared.event.Event.{Event}
use Rattle.dns_recorder.specs.Woven.{seen_with}
use Rattle.dns_dgram_driver.specs.Order.{RecordedPart, looked, acted, all_looks_of}
use Rattle.dns_dgram_driver.specs.Rounds.{seen_in, Ordered}

or_assoc : (a b c : Bool) → ((a || b) || c) ≡ (a || (b || c))
or_assoc true b c = refl
or_assoc false b c = refl

or_false : (a : Bool) → (a || false) ≡ a
or_false true = refl
or_false false = refl

seen_closed : (before : Look) (rs : List RecordedPart) → (seen_in before rs).closed ≡ (before.closed || list_any (λ l. l.closed) (all_looks_of rs))
seen_closed before [] = sym (or_false before.closed)
seen_closed before (looked l es ∷ rs) = seen_closed (seen_with before l) rs ∙ or_assoc before.closed l.closed (list_any (λ m. m.closed) (all_looks_of rs))
seen_closed before (acted e f ∷ rs) = seen_closed before rs

-- what was heard was shown
pub shown_closed : (first : Look) (looks : List Look) (events : List Event) (heard : Look) (ready : Bool) → heard.closed ≡ true → Ordered first looks events heard ready
    → list_any (λ l. l.closed) (first ∷ looks) ≡ true
shown_closed first looks events heard ready h o = rw o.order.seen (sym (seen_closed first o.order.records) ∙ o.closed ∙ h)

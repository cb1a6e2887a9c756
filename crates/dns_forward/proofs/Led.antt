-- What outcomes lead to, one by one.
use Rattle.std.proofs.Common.{◌≡◌, List, [], ◌∷◌, ◌++◌, Some, None, refl}
use Rattle.dns_forward.specs.declared.asking_event.AskingOutcome.{AskingOutcome}
use Rattle.dns_forward.specs.declared.asking_event.AskingOutcome.TheVariants.{OfArrival, OfTick}
use Rattle.dns_forward.specs.declared.asking_event.Ticked.TheVariants.{Nothing, Send, GaveUp}
use Rattle.dns_forward.specs.Asked.{led_on, led_to}

pub led-more : (os : List AskingOutcome) (o : AskingOutcome) → led_to (os ++ o ∷ []) ≡ led_on (led_to os) o
led-more [] o = refl
led-more (OfArrival (Some m) ∷ os) o = refl
led-more (OfArrival None ∷ os) o = led-more os o
led-more (OfTick GaveUp ∷ os) o = refl
led-more (OfTick Send ∷ os) o = led-more os o
led-more (OfTick Nothing ∷ os) o = led-more os o

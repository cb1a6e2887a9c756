-- Events that all clients hear stand under number 0.
use Rattle.std.proofs.Common.{◌≡◌, List, [], ◌∷◌, ◌++◌, true, false, Option}
use Rattle.std.specs.Prelude.{Some, None}
use Rattle.dns_events.specs.declared.event.Event.{Event}
use Rattle.dns_recorder.specs.Own.{is_wide}
use Rattle.dns_recorder.specs.Woven.{AreNobodys}
use Rattle.dns_dgram_driver.specs.Events.{IsOwnKind, WideAreNobodys}
use Rattle.dns_dgram_driver.specs.Order.{fault_events, IsFaultOf}
use Rattle.dns_dgram_driver.proofs.Parts.{own_kind}

pub nobodys_append : (es fs : List Event) → WideAreNobodys es → WideAreNobodys fs → WideAreNobodys (es ++ fs)
nobodys_append [] fs a b = b
nobodys_append (e ∷ es) fs a b = (a.0, nobodys_append es fs a.1 b)

pub all_nobodys : (es : List Event) → AreNobodys es → WideAreNobodys es
all_nobodys [] a = tt
all_nobodys (e ∷ es) a = ((λ w. a.0), all_nobodys es a.1)

fault_nobodys : (e : Event) (f : Option Event) → IsFaultOf e f → WideAreNobodys (fault_events f)
fault_nobodys e None h = tt
fault_nobodys e (Some v) h = ((λ (w : is_wide v.kind ≡ true). let z : false ≡ true = rw h.0 at w in absurd (cc)), tt)

-- an own event, and the Fault of its exchange if one follows
pub own_nobodys : (e : Event) (f : Option Event) → IsOwnKind e.kind → IsFaultOf e f → WideAreNobodys (e ∷ fault_events f)
own_nobodys e f k h = let narrow = (own_kind e.kind k).no_wide in ((λ (w : is_wide e.kind ≡ true). absurd (cc)), fault_nobodys e f h)

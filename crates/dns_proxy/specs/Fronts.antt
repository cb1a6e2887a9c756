-- What stands before the upstreams, as contracts see it.
use Rattle.std.specs.Prelude.{◌≡◌, ℕ, List, Option, Some, None}
use Rattle.dns_base.specs.Msg.{Msg}
use Rattle.dns_layers.specs.Rewritten.{rewritten}
use Rattle.dns_service.specs.Answer.{Answer, Item}
use Rattle.dns_service.specs.Once.{once}
use Rattle.dns_service.specs.Req.{Req}
use Rattle.dns_proxy.specs.declared.front.Taken.{Taken}
use Rattle.dns_proxy.specs.declared.front.Taken.TheVariants.{Own, Passed}

-- what is answered to each poll of a request if this item is given for it; the hint that is left; and the message that an upstream
-- is asked, if one is
pub record Fronting : Type 0 where
  pub over : Item → Req (Unit {0}) → ℕ → Answer
  pub hint : Req (Unit {0}) → Option ℕ
  pub asks : Req (Unit {0}) → Option (List ℕ)

abbrev pub fronting : (Item → Req (Unit {0}) → ℕ → Answer) → (Req (Unit {0}) → Option ℕ) → (Req (Unit {0}) → Option (List ℕ))
    → Fronting
fronting over hint asks = record { over = over; hint = hint; asks = asks }

-- how a request is taken, whatever is given for it: an item of its own is its one answer, or else the given item is, rewritten
abbrev pub IsTaken : {R : Type 0} → (R → Msg → Msg) → (Item → ℕ → Answer) → Option (List ℕ) → Taken R → Type 0
IsTaken rewriting over asks (Own own) = (asks ≡ None) × ((i : Item) (k : ℕ) → over i k ≡ once own k)
IsTaken rewriting over asks (Passed rule message) = (asks ≡ Some message)
    × ((i : Item) (k : ℕ) → over i k ≡ once (rewritten (rewriting rule) i) k)

-- What the layers round a service share: replies of their own, rewritten replies, and the hint that is left.
use Rattle.std.specs.Prelude.{ℕ, Option, Some, None, option_map, Ok, Err}
use Rattle.dns_base.specs.Msg.{Msg}
use Rattle.dns_service.specs.Answer.{Item, Answer}
use Rattle.dns_service.specs.Once.{once}
use Rattle.dns_service.specs.Req.{Req, hint_at_entry}

-- an item that is a reply and nothing else
abbrev pub reply : Msg → Item
reply m = Ok (record { response = Some m; feedback = None })

-- an item with its reply rewritten; a feedback and an error stay
abbrev pub rewritten : (Msg → Msg) → Item → Item
rewritten f (Ok given) = Ok (record given { response = option_map f given.response })
rewritten f (Err error) = Err error

-- a layer's own reply: the item at answer 0, the end from answer 1
abbrev pub own_reply : Msg → ℕ → Answer
own_reply m = once (reply m)

-- the hint that a layer leaves which may answer by itself
abbrev pub hint_by : {A Meta : Type 0} → (Req Meta → Option ℕ) → Req Meta → Option A → Option ℕ
hint_by hint r (Some own) = hint_at_entry r
hint_by hint r None = hint r

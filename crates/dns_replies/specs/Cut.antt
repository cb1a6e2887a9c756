-- Truncation (RFC 1035, section 4.1.1, for TC; RFC 2181, section 9; RFC 6891, section 7, for the OPT record that stays).
use Rattle.std.specs.Prelude.{ℕ, Bool, true, List, [], ◌∷◌, length, Option, Some, None, nat_le, if◌then◌else◌}
use Rattle.dns_message.specs.declared.question.Question.{Question}
use Rattle.dns_base.specs.Msg.{Msg, ResourceRecord}
use Rattle.dns_base.specs.Wire.{wire}
use Rattle.dns_base.specs.Built.{Built}
use Rattle.dns_replies.specs.OptIn.{minimal, opt_record_in}

-- the message takes at most that many octets
abbrev pub fits : ℕ → Msg → Bool
fits n m = nat_le (length (wire m)) n

-- a message that is truncated to these questions and these additional records
abbrev pub truncated : Msg → List Question → List ResourceRecord → Msg
truncated m qs rs = record { header = record m.header { tc = true }; questions = qs; answers = []; authority = []; additional = rs }

-- the first of some messages that fits, else the last
abbrev pub first_fitting : ℕ → List Msg → Msg → Msg
first_fitting n [] last = last
first_fitting n (m ∷ ms) last = if fits n m then m else first_fitting n ms last

-- Without an OPT record: the questions, or the header alone. With one: the questions and the record as it stands,
-- the questions and a minimal one, or a minimal one alone.
abbrev pub shortened : ℕ → Msg → Option ResourceRecord → Msg
shortened n m None = first_fitting n (truncated m m.questions [] ∷ []) (truncated m [] [])
shortened n m (Some r) = first_fitting n (truncated m m.questions (r ∷ []) ∷ truncated m m.questions (minimal r ∷ []) ∷ [])
    (truncated m [] (minimal r ∷ []))

-- the message if it fits, else truncated
abbrev pub cut : ℕ → Msg → Msg
cut n m = if fits n m then m else shortened n m (opt_record_in m)

-- what is built, its message cut to n octets, its limit as it was
abbrev pub cut_built : ℕ → Built → Built
cut_built n b = record b { message = cut n b.message }

-- a message that is cut if there is a limit
abbrev pub sized : Option ℕ → Msg → Msg
sized None m = m
sized (Some n) m = cut n m

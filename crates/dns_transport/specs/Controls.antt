-- What a control does at its book.
use Rattle.std.specs.Prelude.{◌≡◌, ◌≤◌, ◌↔◌, ℕ, ◌-◌, Bool, true, false, List, [], ◌∷◌, ◌++◌, Result, Ok, Err, Option, Some, None, IsTrue}
use Rattle.std.specs.List.{All}
use Rattle.dns_service.specs.Config.{Dgram, Stream}
use Rattle.dns_events.specs.declared.error.Error.{Error}
use Rattle.dns_admission.specs.Admissions.{Reconfigures}
use Rattle.dns_events.specs.declared.look.Look.{Look}
use Rattle.dns_admission.specs.declared.call.Call.TheVariants.{Reconfigure}
use Rattle.dns_admission.specs.declared.call.Reply.TheVariants.{Version}
use Rattle.dns_book.specs.Seats.{Called, state_met}
use Rattle.dns_book.specs.declared.history.Known.{Known}
use Rattle.dns_host.specs.Clocks.{ClockReading}
use Rattle.dns_host.specs.DatagramsServed.{LooksOnly}

-- the server was shut down, and no slot is taken
abbrev pub IsDown : Look → Type 0
IsDown look = (look.closed ≡ true) × (look.taken ≡ 0)

-- the answer of the book without the version in force
abbrev pub without_version : Result ℕ Error → Result (Unit {0}) Error
without_version (Ok version) = Ok tt
without_version (Err e) = Err e

-- both configurations were replaced by one call, or this was refused as the book refuses it
pub record Reconfigured (dgram : Dgram) (stream : Stream) (answer : Result (Unit {0}) Error) (k k' : Known) : Type 0 where
  pub reply : Result ℕ Error
  pub called : Called k (Reconfigure dgram stream) (Version reply) k'
  pub cause : Reconfigures (state_met k') reply
  pub answer_is : answer ≡ without_version reply

-- looks were made, none of which shows that it is down
pub record LookedInVain (k k' : Known) : Type 0 where
  pub looks : List Look
  pub made : LooksOnly k looks k'
  pub none : All (λ look. ¬ IsDown look) looks

-- looks were made, and the last of them shows whether the server is down; none before it shows that it is
pub record Awaited (down : Bool) (k k' : Known) : Type 0 where
  pub looks : List Look
  pub last : Look
  pub made : LooksOnly k (looks ++ last ∷ []) k'
  pub none : All (λ look. ¬ IsDown look) looks
  pub exactly : IsTrue down ↔ IsDown last

-- the readings from c to c', of which the first was this one
pub record Since (start : ℕ) (c c' : List ClockReading) : Type 0 where
  pub secs : ℕ
  pub between : List ClockReading
  pub clock : c' ≡ c ++ ((start, secs) ∷ between)

-- the readings from c to c', of which the first and the last are at least that many milliseconds apart
pub record ReadingsSpan (millis : ℕ) (c c' : List ClockReading) : Type 0 where
  pub first : ClockReading
  pub between : List ClockReading
  pub last : ClockReading
  pub clock : c' ≡ c ++ (first ∷ (between ++ last ∷ []))
  pub apart : millis ≤ last.0 - first.0

-- if the server isn't down, the time has passed
abbrev pub TimePassed : Bool → ℕ → List ClockReading → List ClockReading → Type 0
TimePassed true millis c c' = Unit {0}
TimePassed false millis c c' = ReadingsSpan millis c c'

-- one reading more; and if the answer is that the server isn't down, it is late enough after the first
pub record OneReading (late : ℕ → Type 0) (c c' : List ClockReading) : Type 0 where
  pub reading : ClockReading
  pub clock : c' ≡ c ++ reading ∷ []
  pub is_late : late reading.0

-- the readings of one look and what follows it
abbrev pub ReadAgain : Option Bool → ℕ → ℕ → List ClockReading → List ClockReading → Type 0
ReadAgain (Some true) start millis c c' = c' ≡ c
ReadAgain (Some false) start millis c c' = OneReading (λ now. millis ≤ now - start) c c'
ReadAgain None start millis c c' = OneReading (λ now. Unit {0}) c c'

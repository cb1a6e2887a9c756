-- What a push does to an option list.
use Rattle.std.specs.Prelude.{◌≡◌, ◌≢◌, ℕ, ◌+◌, ◌≤◌, ◌<◌, ⊤, List, ◌++◌, length, Result, Ok, Err}
use Rattle.dns_name.specs.declared.opt_error.BuildDataError.{BuildDataError}
use Rattle.dns_name.specs.declared.opt_error.BuildDataError.TheVariants.{LongOptData, WrongLength, ShortBuf, OutOfMemory as NoMemory}
use Rattle.dns_message.specs.Options.{option_octets}

-- the list, four octets and data of n octets are at most 65,535
abbrev pub Fits : List ℕ → ℕ → Type 0
Fits old n = length old + 4 + n ≤ 65535

-- an option is appended; refused LongOptData exactly if it doesn't fit, and a refused push leaves the list
abbrev pub Pushed : ℕ → List ℕ → List ℕ → List ℕ → Result ⊤ BuildDataError → Type 0
Pushed code d old new (Ok _) = Fits old (length d) × (new ≡ old ++ option_octets code d)
Pushed code d old new (Err LongOptData) = (65535 < length old + 4 + length d) × (new ≡ old)
Pushed code d old new (Err NoMemory) = Fits old (length d) × (new ≡ old)
Pushed code d old new (Err ShortBuf) = ⊥
Pushed code d old new (Err (WrongLength s w)) = ⊥

-- an option of octets that a writer writes, n of them as was stated, is pushed to a list, or refused
abbrev pub PushedRaw : (List ℕ → Type 0) → ℕ → ℕ → List ℕ → List ℕ → Result ⊤ BuildDataError → Type 0
PushedRaw writes code n old new (Ok _) = Fits old n × ((d : List ℕ) × writes d × (length d ≡ n) × (new ≡ old ++ option_octets code d))
PushedRaw writes code n old new (Err LongOptData) = (65535 < length old + 4 + n) × (new ≡ old)
PushedRaw writes code n old new (Err (WrongLength s w)) = Fits old n
    × ((d : List ℕ) × writes d × (s ≡ n) × (w ≡ length d) × (length d ≢ n)) × (new ≡ old)
PushedRaw writes code n old new (Err NoMemory) = Fits old n × (new ≡ old)
PushedRaw writes code n old new (Err ShortBuf) = ⊥

-- What the calls that make settings leave in a handle.
use Rattle.std.specs.Prelude.{ℕ, ◌≡◌, ◌==◌, Bool, true, false, List, [], ◌∷◌, ◌++◌, length, Option, Some, None, Ok, Err}
use Rattle.dns_name.specs.declared.address.IpAddr.{IpAddr}
use Rattle.dns_events.specs.Config.{default_dgram, default_stream}
use Rattle.dns_events.specs.declared.settings.Settings.{Settings}
use Rattle.dns_trace.specs.declared.reason.Reason.{Reason}
use Rattle.dns_trace.specs.declared.reason.Reason.TheVariants.{Text, Word, Order, Mix, Repeat, Count, Value, Zone}
use Rattle.dns_embed.specs.SettingsText.{settings_in}
use Rattle.nutscythe_c.specs.declared.handle_value.HandleValue.{HandleValue}
use Rattle.nutscythe_c.specs.declared.handle_value.HandleValue.TheVariants.{Settings as KeptSettings}
use Rattle.nutscythe_c.specs.declared.settings.LineRefusal.{LineRefusal}
use Rattle.nutscythe_c.specs.declared.status.Status.{Status}
use Rattle.nutscythe_c.specs.declared.status.Status.TheVariants.{Done, NoMemory, NoHandle, OutOfRange, BadLine}

-- without cookies, nobody denied, and the default configurations
abbrev pub made : Bool → Bool → Settings
made strict edns = record { strict = strict; edns = edns; cookies = None; denied = []; dgram = default_dgram; stream = default_stream }

abbrev pub MakesSettings : Bool → Bool → Option HandleValue → Option HandleValue → Status → Type 0
MakesSettings strict edns before after Done = after ≡ Some (KeptSettings (made strict edns))
MakesSettings strict edns before after NoMemory = after ≡ before
MakesSettings strict edns before after t = ⊥

-- the number of a reason
abbrev pub reason_number : Reason → ℕ
reason_number Text = 0
reason_number Word = 1
reason_number Order = 2
reason_number Mix = 3
reason_number Repeat = 4
reason_number Count = 5
reason_number Value = 6
reason_number Zone = 7

-- the settings of a text are held, or its first bad line is said
abbrev pub ReadsText : List ℕ → Option HandleValue → Option HandleValue → LineRefusal → LineRefusal → Status → Type 0
ReadsText text before after b c Done = (s : Settings) × (settings_in text ≡ Ok s) × (after ≡ Some (KeptSettings s)) × (c ≡ b)
ReadsText text before after b c BadLine = (r : Reason) × (settings_in text ≡ Err (c.line, r)) × (c.reason ≡ reason_number r)
    × (after ≡ before)
ReadsText text before after b c NoMemory = (after ≡ before) × (c ≡ b)
ReadsText text before after b c t = ⊥

-- settings with a secret of server cookies, if it has 16 octets
abbrev pub HasSecret : Bool → List ℕ → Settings → Settings → Status → Type 0
HasSecret true secret s after t = (t ≡ Done) × (after ≡ record s { cookies = Some secret })
HasSecret false secret s after t = (t ≡ OutOfRange) × (after ≡ s)

abbrev pub SetsCookies : List ℕ → Option HandleValue → Option HandleValue → Status → Type 0
SetsCookies secret (Some (KeptSettings s)) after t = (made : Settings) × (after ≡ Some (KeptSettings made))
    × HasSecret (length secret == 16) secret s made t
SetsCookies secret before after t = (t ≡ NoHandle) × (after ≡ before)

-- an address more is denied, if it is one
abbrev pub PushesDenied : Option IpAddr → List IpAddr → List IpAddr → Status → Type 0
PushesDenied (Some ip) before after Done = after ≡ before ++ ip ∷ []
PushesDenied (Some ip) before after NoMemory = after ≡ before
PushesDenied (Some ip) before after t = ⊥
PushesDenied None before after t = (t ≡ OutOfRange) × (after ≡ before)

abbrev pub Denies : Option IpAddr → Option HandleValue → Option HandleValue → Status → Type 0
Denies ip (Some (KeptSettings s)) after t = (denied : List IpAddr) × (after ≡ Some (KeptSettings (record s { denied = denied })))
    × PushesDenied ip s.denied denied t
Denies ip before after t = (t ≡ NoHandle) × (after ≡ before)

-- another handle holds the same settings
abbrev pub Copies : Settings → Option HandleValue → Option HandleValue → Status → Type 0
Copies s before after Done = after ≡ Some (KeptSettings s)
Copies s before after NoMemory = after ≡ before
Copies s before after t = ⊥

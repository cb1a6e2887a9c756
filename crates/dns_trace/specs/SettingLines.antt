-- The lines of settings, by the line's name. They stand before the first event, and once except for those that deny an address.
use Rattle.std.specs.Prelude.{ℕ, ◌==◌, not, is_some, Bool, Option, Some, None, List, [], ◌∷◌, ◌++◌, length, Result, Ok, codes, if◌then◌else◌}
use Rattle.std.specs.Str.{bytes_eq}
use Rattle.dns_name.specs.declared.address.IpAddr.{IpAddr}
use Rattle.dns_trace.specs.BudgetLine.{budget_line}
use Rattle.dns_trace.specs.DgramLine.{dgram_line}
use Rattle.dns_trace.specs.Reading.{◌>>=◌, unless}
use Rattle.dns_trace.specs.Said.{Said}
use Rattle.dns_trace.specs.StreamLine.{stream_line}
use Rattle.dns_trace.specs.Values.{addr_of, secret_of, yes_no_of}
use Rattle.dns_trace.specs.Words.{word_at}
use Rattle.dns_trace.specs.declared.reason.Reason.{Reason}
use Rattle.dns_trace.specs.declared.reason.Reason.TheVariants.{Order, Repeat, Count}
use Rattle.dns_trace.specs.declared.setting.Setting.{Setting}
use Rattle.dns_trace.specs.declared.setting.Setting.TheVariants.{Strict, Edns, Secret, Deny, Dgram, Stream, Budget}

-- the configuration of servers whose lines begin with this word
abbrev pub configuration_named : List ℕ → Option Setting
configuration_named w =
    if bytes_eq w (codes "dgram") then Some Dgram
    else if bytes_eq w (codes "stream") then Some Stream
    else if bytes_eq w (codes "budget") then Some Budget
    else None

-- the setting whose lines begin with this word
abbrev pub setting_named : List ℕ → Option Setting
setting_named w =
    if bytes_eq w (codes "strict") then Some Strict
    else if bytes_eq w (codes "edns") then Some Edns
    else if bytes_eq w (codes "secret") then Some Secret
    else if bytes_eq w (codes "deny") then Some Deny
    else configuration_named w

-- what is said once stands before the first event, and isn't said yet
abbrev pub first_said : {A : Type 0} → Bool → Option A → Result (Unit {0}) Reason
first_said before_events said = do
  _ ← unless Order before_events
  unless Repeat (not (is_some said))

-- a line that is said once, by what is read of it
abbrev pub said_once : {A : Type 0} → Bool → Option A → Result A Reason → (A → Said) → Result Said Reason
said_once before_events said read put = do
  _ ← first_said before_events said
  value ← read
  Ok (put value)

-- the one word after the line's name, read so
abbrev pub of_one_word : {A : Type 0} → List (List ℕ) → (List ℕ → Result A Reason) → Result A Reason
of_one_word ws read = unless Count (length ws == 2) >>= λ _. read (word_at ws 1)

-- strict yes|no
unfoldable pub strict_line : Bool → Said → List (List ℕ) → Result Said Reason
strict_line before_events s ws = said_once before_events s.strict (of_one_word ws yes_no_of) (λ strict. record s { strict = Some strict })

-- edns yes|no
unfoldable pub edns_line : Bool → Said → List (List ℕ) → Result Said Reason
edns_line before_events s ws = said_once before_events s.edns (of_one_word ws yes_no_of) (λ edns. record s { edns = Some edns })

-- secret HEX, of 16 octets
unfoldable pub secret_line : Bool → Said → List (List ℕ) → Result Said Reason
secret_line before_events s ws = said_once before_events s.secret (of_one_word ws secret_of) (λ secret. record s { secret = Some secret })

-- a line `dgram`
unfoldable pub first_dgram_line : Bool → Said → List (List ℕ) → Result Said Reason
first_dgram_line before_events s ws = said_once before_events s.dgram (dgram_line ws) (λ dgram. record s { dgram = Some dgram })

-- a line `stream`
unfoldable pub first_stream_line : Bool → Said → List (List ℕ) → Result Said Reason
first_stream_line before_events s ws = said_once before_events s.stream (stream_line ws) (λ stream. record s { stream = Some stream })

-- a line `budget`
unfoldable pub first_budget_line : Bool → Said → List (List ℕ) → Result Said Reason
first_budget_line before_events s ws = said_once before_events s.budget (budget_line ws) (λ budget. record s { budget = Some budget })

-- deny ADDR
unfoldable pub denied_of : List (List ℕ) → Result IpAddr Reason
denied_of ws = of_one_word ws addr_of

unfoldable pub deny_line : Bool → Said → List (List ℕ) → Result Said Reason
deny_line before_events s ws = do
  _ ← unless Order before_events
  address ← denied_of ws
  Ok (record s { denied = s.denied ++ address ∷ [] })

-- what is said with the line of this setting more
abbrev pub setting_line : Setting → Bool → Said → List (List ℕ) → Result Said Reason
setting_line Strict before_events s ws = strict_line before_events s ws
setting_line Edns before_events s ws = edns_line before_events s ws
setting_line Secret before_events s ws = secret_line before_events s ws
setting_line Deny before_events s ws = deny_line before_events s ws
setting_line Dgram before_events s ws = first_dgram_line before_events s ws
setting_line Stream before_events s ws = first_stream_line before_events s ws
setting_line Budget before_events s ws = first_budget_line before_events s ws

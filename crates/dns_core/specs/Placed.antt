-- The events of one client that hears of the server's changes only when it looks: its own, in order, and before each look of it
-- the entries of the book that it has not heard of. Lists go from the oldest to the newest.
use Rattle.std.specs.Prelude.{ℕ, ◌==◌, List, [], ◌∷◌, ◌++◌, if◌then◌else◌, Bool, true, false, not, ◌&&◌, ◌||◌}
use Rattle.dns_events.specs.declared.look.Look.{Look as State}
use Rattle.dns_admission.specs.Machine.{new_state}
use Rattle.dns_events.specs.declared.event.Event.{Event}
use Rattle.dns_events.specs.declared.event.EventKind.{EventKind}
use Rattle.dns_events.specs.declared.event.EventKind.TheVariants.{Datagram, Offer}
use Rattle.dns_events.specs.declared.event.Step.{Step}
use Rattle.dns_events.specs.declared.event.Step.TheVariants.{Own, Look}
use Rattle.dns_core.specs.Own.{is_wide}
use Rattle.dns_core.specs.Books.{books, is_entry}
use Rattle.dns_events.specs.declared.settings.Settings.{Settings}

-- what a client knows of the book: whether it began, the book at its last look, and the entries since, of which it has not heard
pub record Knowledge : Type 0 where
  pub began : Bool
  pub seen : State
  pub unheard : List Event

-- the book as it is
abbrev pub book_now : Knowledge → State
book_now k = books k.seen k.unheard

-- an event that changes the book enters it
abbrev pub entries : State → Step → List Event
entries b (Own e) = if is_entry b e.kind then e ∷ [] else []
entries b (Look at secs d) = []

-- the events of a client alone
abbrev pub own_events : ℕ → Step → List Event
own_events c (Own e) = if not (is_wide e.kind) && (e.client == c) then e ∷ [] else []
own_events c (Look at secs d) = []

-- a client begins by an offer or a datagram
abbrev pub is_beginning : EventKind → Bool
is_beginning (Offer addr) = true
is_beginning (Datagram addr o) = true
is_beginning _ = false

abbrev pub begins : ℕ → Step → Bool
begins c (Own e) = is_beginning e.kind && (e.client == c)
begins c (Look at secs d) = false

-- a step is a look of a client: an own look, or the client's first offer or datagram
abbrev pub looks : ℕ → Bool → Step → Bool
looks c began (Own e) = begins c (Own e) && not began
looks c began (Look at secs d) = d == c

-- at a look what it has not heard of, and then its own event
abbrev pub puts : ℕ → Knowledge → Step → List Event
puts c k s = (if looks c k.began s then k.unheard else []) ++ own_events c s

abbrev pub learns : ℕ → Knowledge → Step → Knowledge
learns c k s = record {
  began = k.began || begins c s;
  seen = (if looks c k.began s then book_now k else k.seen);
  unheard = (if looks c k.began s then [] else k.unheard ++ entries (book_now k) s);
}

abbrev pub place : ℕ → Knowledge → List Step → List Event
place c k [] = []
place c k (s ∷ ss) = puts c k s ++ place c (learns c k s) ss

abbrev pub knowledge_at_first : Settings → Knowledge
knowledge_at_first settings = record { began = false; seen = new_state settings.dgram settings.stream; unheard = [] }

unfoldable pub placed : Settings → ℕ → List Step → List Event
placed settings c steps = place c (knowledge_at_first settings) steps

-- what a client knows after some steps
abbrev pub learned : ℕ → Knowledge → List Step → Knowledge
learned c k [] = k
learned c k (s ∷ ss) = learned c (learns c k s) ss

unfoldable pub knows : Settings → ℕ → List Step → Knowledge
knows settings c q = learned c (knowledge_at_first settings) q

-- The order of the events that a driver notes, against the looks of its seat: before each own event stands the news of its look.
use Rattle.std.specs.Prelude.{◌≡◌, ◌≤◌, ℕ, ◌+◌, List, [], ◌∷◌, ◌++◌, length, ◌||◌, if◌then◌else◌}
use Rattle.dns_events.specs.declared.look.Look.{Look}
use Rattle.dns_admission.specs.declared.call.Call.TheVariants.{Look as ToLook}
use Rattle.dns_admission.specs.declared.call.Reply.TheVariants.{Look as Shown}
use Rattle.dns_book.specs.History.{SeatName, entry}
use Rattle.dns_book.specs.declared.history.Entry.{Entry}
use Rattle.dns_events.specs.declared.event.Event.{Event}
use Rattle.dns_events.specs.declared.event.EventKind.{EventKind}
use Rattle.dns_model.specs.News.{news}
use Rattle.dns_model.specs.Own.{is_wide}

abbrev pub kinds : List Event → List EventKind
kinds [] = []
kinds (e ∷ es) = e.kind ∷ kinds es

-- the kinds of a client's own events, which are those that not all hear
abbrev pub own_kinds : List Event → List EventKind
own_kinds [] = []
own_kinds (e ∷ es) = (if is_wide e.kind then [] else e.kind ∷ []) ++ own_kinds es

-- the own events name the client, and those that all hear name none: they stand under number 0
abbrev pub AllOf : ℕ → List Event → Type 0
AllOf client [] = Unit {0}
AllOf client (e ∷ es) = (e.client ≡ (if is_wide e.kind then 0 else client)) × AllOf client es

abbrev pub AreNobodys : List Event → Type 0
AreNobodys [] = Unit {0}
AreNobodys (e ∷ es) = (e.client ≡ 0) × AreNobodys es

-- what was seen before, and a look: a shutdown that was seen stays
abbrev pub seen_with : Look → Look → Look
seen_with before l = record l { closed = before.closed || l.closed }

abbrev pub seen_all : Look → List Look → Look
seen_all before [] = before
seen_all before (l ∷ ls) = seen_all (seen_with before l) ls

-- the news of a look, by what was seen before
abbrev pub news_kinds : Look → Look → List EventKind
news_kinds before l = kinds (news before.version before.closed l)

-- before each own event the news of its look, and at the end those of the looks that are left
abbrev pub woven : Look → List Look → List EventKind → List EventKind
woven before [] ks = []
woven before (l ∷ ls) [] = news_kinds before l ++ woven (seen_with before l) ls []
woven before (l ∷ ls) (k ∷ ks) = news_kinds before l ++ (k ∷ woven (seen_with before l) ls ks)

-- The list is woven of the looks after a first one and of its own events: each has a look, and one look more may stand at the end.
pub record IsWoven (first : Look) (looks : List Look) (es : List Event) : Type 0 where
  pub same : kinds es ≡ woven first looks (own_kinds es)
  pub least : length (own_kinds es) ≤ length looks
  pub most : length looks ≤ length (own_kinds es) + 1

-- a seat's looks as entries of its history, under its name
abbrev pub look_entries : SeatName → List Look → List Entry
look_entries name [] = []
look_entries name (l ∷ ls) = entry name ToLook (Shown l) ∷ look_entries name ls

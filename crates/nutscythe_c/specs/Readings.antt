-- What the calls of a message that is read leave, by their status.
use Rattle.std.specs.Prelude.{ℕ, ◌≡◌, ◌<◌, List, length, Option, Some, None}
use Rattle.dns_embed.specs.declared.reader.ItemSection.{ItemSection}
use Rattle.dns_embed.specs.declared.reader.ItemSection.TheVariants.{Question, Answer, Authority, Additional}
use Rattle.dns_embed.specs.declared.reader.ReadItem.TheVariants.{End, Item, NoRoom as TooShort, Unreadable as NotRead}
use Rattle.dns_embed.specs.Reading.{Reading, Reads, reading_from}
use Rattle.nutscythe_c.specs.declared.handle_value.HandleValue.{HandleValue}
use Rattle.nutscythe_c.specs.declared.handle_value.HandleValue.TheVariants.{Reader as KeptReader}
use Rattle.nutscythe_c.specs.declared.status.Status.{Status}
use Rattle.nutscythe_c.specs.declared.status.Status.TheVariants.{Done, Nothing, NoMemory, NoHandle, NoRoom, Unreadable}
use Rattle.nutscythe_c.specs.Calls.{Unwritten}

-- a message is read from its first item on
abbrev pub ReadsMessage : List ℕ → Option HandleValue → Option HandleValue → Status → Type 0
ReadsMessage o before after Done = after ≡ Some (KeptReader (reading_from o))
ReadsMessage o before after Unreadable = (length o < 12) × (after ≡ before)
ReadsMessage o before after NoMemory = after ≡ before
ReadsMessage o before after t = ⊥

-- the number of a section: 0 the questions, 1 the answer, 2 the authority, 3 the additional section
abbrev pub section_number : ItemSection → ℕ
section_number Question = 0
section_number Answer = 1
section_number Authority = 2
section_number Additional = 3

-- the next item is read, and its section and length are written
abbrev pub Takes : Reading → Reading → List ℕ → List ℕ → ℕ → ℕ → ℕ → ℕ → Status → Type 0
Takes r s before after len len' section section' Done = (place : ItemSection) × Reads r s before after (Item place len')
    × (section' ≡ section_number place)
Takes r s before after len len' section section' Nothing = Reads r s before after End × (len' ≡ len) × (section' ≡ section)
Takes r s before after len len' section section' NoRoom = Reads r s before after (TooShort len') × (section' ≡ section)
Takes r s before after len len' section section' Unreadable = Reads r s before after NotRead × (len' ≡ len) × (section' ≡ section)
Takes r s before after len len' section section' NoMemory = (s ≡ r) × Unwritten before after len len' × (section' ≡ section)
Takes r s before after len len' section section' t = ⊥

abbrev pub TakesBy : Option HandleValue → Option HandleValue → List ℕ → List ℕ → ℕ → ℕ → ℕ → ℕ → Status → Type 0
TakesBy (Some (KeptReader r)) kept before after len len' section section' t = (s : Reading) × (kept ≡ Some (KeptReader s))
    × Takes r s before after len len' section section' t
TakesBy held kept before after len len' section section' t = (t ≡ NoHandle) × (kept ≡ held)
    × Unwritten before after len len' × (section' ≡ section)

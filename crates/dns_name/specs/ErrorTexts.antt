-- The texts of refusals.
use Rattle.std.specs.Prelude.{ℕ, List, ◌++◌, codes}
use Rattle.dns_name.specs.declared.from_text.FromTextError.{FromTextError}
use Rattle.dns_name.specs.declared.from_text.FromTextError.TheVariants.{EmptyLabel, LongLabel, LongName as TooLong, BadEscape, BadCharacter, OutOfMemory as Wanting}
use Rattle.dns_name.specs.declared.error.FormReason.{FormReason}
use Rattle.dns_name.specs.declared.error.FormReason.TheVariants.{Label, Pointer, Hops, LongName, Shape, LongList, Trailing, Family, AddressLength, AddressBits, ShortServerCookie, LongServerCookie, OddLength}
use Rattle.dns_name.specs.declared.error.ParseError.{ParseError}
use Rattle.dns_name.specs.declared.error.ParseError.TheVariants.{ShortInput, Form, OutOfMemory as NoMemory}

-- why a text is no name
abbrev pub from_text_text : FromTextError → List ℕ
from_text_text EmptyLabel = codes "empty label"
from_text_text LongLabel = codes "label too long"
from_text_text TooLong = codes "name too long"
from_text_text BadEscape = codes "bad escape"
from_text_text BadCharacter = codes "character that has to be escaped"
from_text_text Wanting = codes "out of memory"

-- why octets have not the form that is read
abbrev pub form_text : FormReason → List ℕ
form_text Label = codes "bad label head"
form_text Pointer = codes "pointer to no earlier place"
form_text Hops = codes "too many pointers"
form_text LongName = codes "name too long"
form_text Shape = codes "record data too long"
form_text LongList = codes "option list too long"
form_text Trailing = codes "trailing octets"
form_text Family = codes "unknown address family"
form_text AddressLength = codes "wrong address length"
form_text AddressBits = codes "address bit past the prefix"
form_text ShortServerCookie = codes "server cookie too short"
form_text LongServerCookie = codes "server cookie too long"
form_text OddLength = codes "odd length"

-- why a reading is refused
abbrev pub parse_text : ParseError → List ℕ
parse_text ShortInput = codes "unexpected end of input"
parse_text (Form reason) = codes "form error: " ++ form_text reason
parse_text NoMemory = codes "out of memory"

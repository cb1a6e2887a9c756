-- The entries of a zone file (RFC 1035, section 5.1), octet by octet. An entry is the words up to the end of a line,
-- or of several lines within parentheses.
use Rattle.std.specs.Prelude.{ℕ, ◌+◌, Bool, true, false, not, ◌||◌, List, [], ◌∷◌, ◌++◌, nat_eq, is_some, if◌then◌else◌, Some, None, Ok, Err}
use Rattle.dns_entries.specs.Reading.{LineRead}
use Rattle.dns_entries.specs.declared.entry.Word.{Word}
use Rattle.dns_entries.specs.declared.scan.Scan.{Scan}
use Rattle.dns_entries.specs.declared.scan.Mode.{Mode}
use Rattle.dns_entries.specs.declared.scan.Mode.TheVariants.{Start, Gap, Plain, Escaped, Quoted, QuotedEscaped, Comment}
use Rattle.dns_entries.specs.declared.reason.EntryReason.TheVariants.{Parenthesis, Quote, Escape}

-- the space, the tab and the carriage return
abbrev pub is_blank : ℕ → Bool
is_blank c = nat_eq c 32 || (nat_eq c 9 || nat_eq c 13)

-- a word without quotes ends at a blank, LF, `"`, `(`, `)` and `;`
abbrev pub ends_word : ℕ → Bool
ends_word c = is_blank c || (nat_eq c 10 || (nat_eq c 34 || (nat_eq c 40 || (nat_eq c 41 || nat_eq c 59))))

-- an entry is scanned up to here, and whether it is whole
abbrev pub Scanned : Type 0
Scanned = LineRead (Scan × Bool)

-- before the first octet of an entry, on this line
abbrev pub scan_begins : ℕ → Scan
scan_begins line = record { mode = Start; line = line; opened = None; blank = false; words = []; word = [] }

abbrev pub goes : Mode → Scan → Scan
goes m x = record x { mode = m }

-- the octet belongs to the word
abbrev pub keeps_octet : Mode → Scan → ℕ → Scan
keeps_octet m x c = record x { mode = m; word = x.word ++ c ∷ [] }

-- the word is whole
abbrev pub ended : Bool → Scan → Scan
ended q x = record x { mode = Gap; words = x.words ++ record { line = x.line; quoted = q; octets = x.word } ∷ []; word = [] }

-- LF ends the entry, but not within parentheses
abbrev pub line_end : Scan → Scan × Bool
line_end x = if is_some x.opened then (record x { mode = Gap; line = x.line + 1 }, false) else (x, true)

-- the line on which the next octet stands
abbrev pub line_behind : Scan → Bool → ℕ
line_behind x whole = if whole then x.line + 1 else x.line

-- parentheses don't nest
abbrev pub opens_parenthesis : Scan → Scanned
opens_parenthesis x = if is_some x.opened then Err (x.line, Parenthesis) else Ok (record x { mode = Gap; opened = Some x.line }, false)

abbrev pub closes_parenthesis : Scan → Scanned
closes_parenthesis x = if is_some x.opened then Ok (record x { mode = Gap; opened = None }, false) else Err (x.line, Parenthesis)

-- between words
abbrev pub between : Scan → ℕ → Scanned
between x c =
    if is_blank c then Ok (goes Gap x, false)
    else if nat_eq c 10 then Ok (line_end x)
    else if nat_eq c 34 then Ok (goes Quoted x, false)
    else if nat_eq c 40 then opens_parenthesis x
    else if nat_eq c 41 then closes_parenthesis x
    else if nat_eq c 59 then Ok (goes Comment x, false)
    else if nat_eq c 92 then Ok (keeps_octet Escaped x c, false)
    else Ok (keeps_octet Plain x c, false)

-- in a word without quotes
abbrev pub in_plain : Scan → ℕ → Scanned
in_plain x c =
    if nat_eq c 92 then Ok (keeps_octet Escaped x c, false)
    else if ends_word c then between (ended false x) c
    else Ok (keeps_octet Plain x c, false)

-- in quotes, where blanks and all the others but LF stand for themselves
abbrev pub in_quotes : Scan → ℕ → Scanned
in_quotes x c =
    if nat_eq c 34 then Ok (ended true x, false)
    else if nat_eq c 10 then Err (x.line, Quote)
    else if nat_eq c 92 then Ok (keeps_octet QuotedEscaped x c, false)
    else Ok (keeps_octet Quoted x c, false)

-- after a backslash, where LF alone can't stand
abbrev pub escaped_in : Mode → Scan → ℕ → Scanned
escaped_in m x c = if nat_eq c 10 then Err (x.line, Escape) else Ok (keeps_octet m x c, false)

abbrev pub in_mode : Mode → Scan → ℕ → Scanned
in_mode Start x c = if is_blank c then Ok (record x { mode = Gap; blank = true }, false) else between x c
in_mode Gap x c = between x c
in_mode Plain x c = in_plain x c
in_mode Escaped x c = escaped_in Plain x c
in_mode Quoted x c = in_quotes x c
in_mode QuotedEscaped x c = escaped_in Quoted x c
in_mode Comment x c = if nat_eq c 10 then Ok (line_end x) else Ok (x, false)

-- the entry with one octet more
unfoldable pub after_octet : Scan → ℕ → Scanned
after_octet x c = in_mode x.mode x c

-- ---- many octets at once

-- an octet that goes on with a word or a comment
abbrev pub goes_on_in : Mode → ℕ → Bool
goes_on_in Plain c = not (nat_eq c 92 || ends_word c)
goes_on_in Quoted c = not (nat_eq c 34 || (nat_eq c 10 || nat_eq c 92))
goes_on_in Comment c = not (nat_eq c 10)
goes_on_in _ c = false

-- the octets at the front that go on with it
abbrev pub run_in : Mode → List ℕ → List ℕ
run_in m [] = []
run_in m (c ∷ cs) = if goes_on_in m c then c ∷ run_in m cs else []

-- a word has them more, and a comment is the same
abbrev pub word_with : Mode → List ℕ → List ℕ → List ℕ
word_with Plain w run = w ++ run
word_with Quoted w run = w ++ run
word_with _ w run = w

abbrev pub with_run : Scan → List ℕ → Scan
with_run x run = record x { word = word_with x.mode x.word run }

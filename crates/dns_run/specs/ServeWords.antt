-- The words by which a server is started.
use Rattle.std.specs.Prelude.{◌≡◌, ℕ, ◌==◌, List, length, codes, Option, Some, None, Result, Ok, Err, if◌then◌else◌}
use Rattle.std.specs.Str.{bytes_eq}
use Rattle.dns_trace.specs.Reading.{◌>>=◌}
use Rattle.dns_trace.specs.Values.{addr_of, port_of, num_of}
use Rattle.dns_trace.specs.Words.{word_at}
use Rattle.dns_trace.specs.declared.reason.Reason.{Reason}
use Rattle.dns_run.specs.declared.serve_words.ServeWords.{ServeWords}
use Rattle.dns_run.specs.declared.status.Status.{Status}
use Rattle.dns_run.specs.declared.status.Status.TheVariants.{Usage, OutOfMemory}

-- ADDR PORT COUNT, which stand after the word
unfoldable pub place_of : List (List ℕ) → Result ServeWords Reason
place_of ws = do
  ip ← addr_of (word_at ws 1)
  port ← port_of (word_at ws 2)
  count ← num_of (word_at ws 3)
  Ok (record { addr = record { ip = ip; port = port }; count = count })

abbrev pub if_read : Result ServeWords Reason → Option ServeWords
if_read (Ok w) = Some w
if_read (Err e) = None

-- the four words `serve ADDR PORT COUNT`
abbrev pub serve_words : List (List ℕ) → Option ServeWords
serve_words ws =
    if length ws == 4 then (if bytes_eq (word_at ws 0) (codes "serve") then if_read (place_of ws) else None)
    else None

-- the words were read, or are none of that form, unless memory ran out
abbrev pub ReadsServe : Result ServeWords Status → Option ServeWords → Type 0
ReadsServe (Ok w) asked = asked ≡ Some w
ReadsServe (Err Usage) asked = asked ≡ None
ReadsServe (Err OutOfMemory) asked = Unit {0}
ReadsServe (Err _) asked = ⊥

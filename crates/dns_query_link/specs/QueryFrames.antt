-- Which frames of a stream are passed on: those of messages without QR, so that no response is answered (RFC 1035, sections 4.1.1 and
-- 4.2.2).
use Rattle.std.specs.Prelude.{ℕ, ◌<◌, Bool, not, List, [], ◌++◌, All, count_by, filter}
use Rattle.std.specs.List.{flat_map}
use Rattle.dns_framing.specs.Frames.{behind_frames, framed, frames}
use Rattle.dns_query_sock.specs.Queries.{is_response}

abbrev pub is_query : List ℕ → Bool
is_query o = not (is_response o)

-- the octets of a stream's whole frames that are passed on, in order, each message after its length
abbrev pub passed_on : List ℕ → List ℕ
passed_on o = flat_map framed (filter is_query (frames o))

-- how many of them are responses, which are dropped
abbrev pub responses : List ℕ → ℕ
responses o = count_by is_response (frames o)

-- octets that are in no whole frame yet, and octets that wait to be read
pub record Buffered : Type 0 where
  pub kept : List ℕ
  pub waiting : List ℕ

abbrev pub nothing_held : Buffered
nothing_held = record { kept = []; waiting = [] }

-- a piece more of the stream
abbrev pub with_piece : List ℕ → Buffered → Buffered
with_piece piece h = record { kept = behind_frames (h.kept ++ piece); waiting = h.waiting ++ passed_on (h.kept ++ piece) }

abbrev pub AreOctets : List ℕ → Type 0
AreOctets o = All (λ b. b < 256) o

-- The name at a place of a message (RFC 1035, sections 3.1 and 4.1.4), read label by label, and the place after it.
use Rattle.std.specs.Prelude.{ℕ, zero, suc, ◌≡◌, ◌+◌, ◌*◌, ◌-◌, ◌≤◌, Bool, true, false, List, [], ◌∷◌, ◌++◌, length, take, drop, nat_lt, nat_eq, if◌then◌else◌, Result, Ok, Err, Option, Some, None, IsOk}
use Rattle.dns_name.specs.declared.error.ParseError.{ParseError}
use Rattle.dns_name.specs.declared.error.ParseError.TheVariants.{ShortInput, Form}
use Rattle.dns_name.specs.declared.error.FormReason.TheVariants.{Label, Pointer, Hops, LongName, Trailing}
use Rattle.dns_name.specs.declared.piece.Piece.{Piece}
use Rattle.dns_name.specs.declared.piece.Piece.TheVariants.{End, Text, Jump}
use Rattle.dns_name.specs.declared.piece.NameBounds.{NameBounds}
use Rattle.dns_name.specs.Place.{Read}
use Rattle.dns_name.specs.Labels.{spell, IsName}

-- a label of that many octets, from what follows its head
abbrev pub text : ℕ → List ℕ → Result Piece ParseError
text head more = if nat_lt (length more) head then Err ShortInput else Ok (Text head)

-- a pointer at a place, from its head and what follows it
abbrev pub jump : ℕ → ℕ → List ℕ → Result Piece ParseError
jump at head [] = Err ShortInput
jump at head (low ∷ more) = let target = 256 * (head - 192) + low in if nat_lt target at then Ok (Jump target) else Err (Form Pointer)

-- what stands at a place, from the octets there
abbrev pub name_piece_of : Bool → ℕ → List ℕ → Result Piece ParseError
name_piece_of pointers at [] = Err ShortInput
name_piece_of pointers at (head ∷ more) =
    if nat_eq head 0 then Ok End
    else (if nat_lt head 64 then text head more
    else (if nat_lt head 192 then Err (Form Label)
    else (if pointers then jump at head more else Err (Form Label))))

-- what can be seen: the octets before the limit if no pointer came yet, then all
abbrev pub near : ℕ → ℕ → List ℕ → List ℕ
near limit hops o = if nat_eq hops 0 then take limit o else o

-- what stands at a place after that many pointers
unfoldable pub name_piece : NameBounds → ℕ → List ℕ → ℕ → Result Piece ParseError
name_piece r hops o at = name_piece_of r.pointers at (drop at (near r.limit hops o))

-- a label in front of what is read after it
abbrev pub with_label : List ℕ → Read (List (List ℕ)) → Read (List (List ℕ))
with_label l (Ok (ls, end)) = Ok (l ∷ ls, end)
with_label l (Err e) = Err e

-- a name that goes on elsewhere ends after its pointer
abbrev pub with_end : ℕ → Read (List (List ℕ)) → Read (List (List ℕ))
with_end n (Ok (ls, end)) = Ok (ls, n)
with_end n (Err e) = Err e

-- A name from one piece on, where go reads on at a place.
-- size is what heads and labels have taken so far, hops how many pointers came.
abbrev pub by_piece : (ℕ → ℕ → ℕ → Read (List (List ℕ))) → List ℕ → ℕ → ℕ → ℕ → Result Piece ParseError → Read (List (List ℕ))
by_piece go o at size hops (Err e) = Err e
by_piece go o at size hops (Ok End) = Ok ([], at + 1)
by_piece go o at size hops (Ok (Text n))
    = if nat_lt 255 (size + n + 2) then Err (Form LongName) else with_label (take n (drop (at + 1) o)) (go (at + n + 1) (size + n + 1) hops)
by_piece go o at size hops (Ok (Jump target)) = if nat_lt 254 hops then Err (Form Hops) else with_end (at + 2) (go target size (hops + 1))

-- a name of at most k pieces
abbrev pub name_up_to : ℕ → List ℕ → NameBounds → ℕ → ℕ → ℕ → Read (List (List ℕ))
name_up_to zero o r at size hops = Err (Form Hops)
name_up_to (suc k) o r at size hops = by_piece (name_up_to k o r) o at size hops (name_piece r hops o at)

-- more pieces than are left, since each label takes two octets at least
abbrev pub most : ℕ → ℕ → ℕ
most size hops = suc ((255 - size) + (255 - hops))

-- the rest of a name
unfoldable pub rest_of : List ℕ → NameBounds → ℕ → ℕ → ℕ → Read (List (List ℕ))
rest_of o r at size hops = name_up_to (most size hops) o r at size hops

-- the name that is read so at a place
unfoldable pub name_by : List ℕ → NameBounds → ℕ → Read (List (List ℕ))
name_by o r at = rest_of o r at 0 0

-- the name at a place, pointers followed, if the octets before its first pointer lie before the limit
abbrev pub name_within : List ℕ → ℕ → ℕ → Read (List (List ℕ))
name_within o limit at = name_by o (record { limit = limit; pointers = true }) at

-- the name at a place of a message, pointers followed
abbrev pub name_at : List ℕ → ℕ → Read (List (List ℕ))
name_at o at = name_within o (length o) at

-- the uncompressed name at a place
abbrev pub uncompressed_at : List ℕ → ℕ → Read (List (List ℕ))
uncompressed_at o at = name_by o (record { limit = length o; pointers = false }) at

-- the labels that are read
abbrev pub labels_of : Read (List (List ℕ)) → List (List ℕ)
labels_of (Ok (ls, end)) = ls
labels_of (Err e) = []

-- the place after what is read
abbrev pub end_of : Read (List (List ℕ)) → Result ℕ ParseError
end_of (Ok (ls, end)) = Ok end
end_of (Err e) = Err e

-- the labels of octets that are read whole
abbrev pub read_whole : List ℕ → Read (List (List ℕ)) → Result (List (List ℕ)) ParseError
read_whole o (Ok (ls, end)) = if nat_lt end (length o) then Err (Form Trailing) else Ok ls
read_whole o (Err e) = Err e

-- the uncompressed name that octets are
abbrev pub uncompressed : List ℕ → Result (List (List ℕ)) ParseError
uncompressed o = read_whole o (uncompressed_at o 0)

-- a name with the labels of another after its own, none above 255 octets (RFC 1035, section 2.3.4)
abbrev pub name_under : List (List ℕ) → List (List ℕ) → Option (List (List ℕ))
name_under origin ls = if nat_lt 255 (length (spell (ls ++ origin))) then None else Some (ls ++ origin)

-- the place after a name whose rest this is, where e is the place after its first pointer
abbrev pub end_by : Option ℕ → Read (List (List ℕ)) → Result ℕ ParseError
end_by None r = end_of r
end_by (Some e) r = end_of (with_end e r)

-- a place from which a name is read on
pub record CanGoOn (o : List ℕ) (r : NameBounds) (at size hops : ℕ) : Type 0 where
  pub within : at ≤ length (near r.limit hops o)
  pub limited : r.limit ≤ length o
  pub sized : size ≤ 254
  pub jumped : hops ≤ 255
  pub readable : IsOk (rest_of o r at size hops)

-- octets that are an uncompressed name and no more
pub record IsSpelt (o : List ℕ) : Type 0 where
  pub readable : IsOk (uncompressed_at o 0)
  pub name : IsName (labels_of (uncompressed_at o 0))
  pub whole : o ≡ spell (labels_of (uncompressed_at o 0))

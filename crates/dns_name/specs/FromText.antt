-- A name from text (RFC 1035, section 5.1), label by label.
use Rattle.std.specs.Prelude.{ℕ, zero, suc, ◌≡◌, ◌+◌, ◌*◌, ◌-◌, ◌<◌, Bool, true, false, ◌&&◌, List, [], ◌∷◌, ◌++◌, length, nat_lt, nat_eq, if◌then◌else◌, Result, Ok, Err}
use Rattle.std.specs.Char.{is_ascii_digit}
use Rattle.std.specs.Int.{is_in_range}
use Rattle.dns_name.specs.declared.from_text.FromTextError.{FromTextError}
use Rattle.dns_name.specs.declared.from_text.FromTextError.TheVariants.{EmptyLabel, LongLabel, LongName, BadEscape, BadCharacter, OutOfMemory as NoMemory}
use Rattle.dns_name.specs.Labels.{spell, IsName}

-- what a text begins with and the text after it, or a refusal
abbrev pub Front : Type 0 → Type 0
Front A = Result (A × List ℕ) FromTextError

-- \DDD: the octet that three decimal digits are, from the first one and the text after it
abbrev pub three_digits : ℕ → List ℕ → Front ℕ
three_digits a (b ∷ c ∷ rest) =
    let n = 100 * (a - 48) + 10 * (b - 48) + (c - 48) in
    if is_ascii_digit b && is_ascii_digit c && nat_lt n 256 then Ok (n, rest) else Err BadEscape
three_digits a _ = Err BadEscape

-- after a backslash: \DDD, or \X for the octet of a character that is no digit, a printing one of ASCII or the space
abbrev pub escaped : List ℕ → Front ℕ
escaped [] = Err BadEscape
escaped (x ∷ rest) =
    if is_ascii_digit x then three_digits x rest
    else (if is_in_range 32 126 x then Ok (x, rest) else Err BadEscape)

-- the octet of a label that a text begins with: an escape, or a printing character of ASCII that stands for itself
abbrev pub first_octet : List ℕ → Front ℕ
first_octet [] = Err BadCharacter
first_octet (x ∷ rest) =
    if nat_eq x 92 then escaped rest
    else (if is_in_range 33 126 x then Ok (x, rest) else Err BadCharacter)

-- a label ends at a dot and with the text
abbrev pub ends_label : List ℕ → Bool
ends_label [] = true
ends_label (x ∷ rest) = nat_eq x 46

-- octets in front of the octets of a label that are read after them
abbrev pub before_octets : List ℕ → Front (List ℕ) → Front (List ℕ)
before_octets l (Ok (m, rest)) = Ok (l ++ m, rest)
before_octets l (Err e) = Err e

-- a label from its first octet on, where go reads the others
abbrev pub by_octet : (List ℕ → Front (List ℕ)) → Front ℕ → Front (List ℕ)
by_octet go (Ok (b, rest)) = before_octets (b ∷ []) (go rest)
by_octet go (Err e) = Err e

-- the octets in front of the first dot, at most k
abbrev pub octets_up_to : ℕ → List ℕ → Front (List ℕ)
octets_up_to zero t = if ends_label t then Ok ([], t) else by_octet (λ _. Err LongLabel) (first_octet t)
octets_up_to (suc k) t = if ends_label t then Ok ([], t) else by_octet (octets_up_to k) (first_octet t)

-- the octets of a label, at most 63 (RFC 1035, section 2.3.4)
unfoldable pub label_octets : List ℕ → Front (List ℕ)
label_octets t = octets_up_to 63 t

-- a label of a name within its bounds (RFC 1035, section 2.3.4), where the labels before it have taken size octets, lengths included
abbrev pub fitting : ℕ → Front (List ℕ) → Front (List ℕ)
fitting size (Ok (l, rest)) =
    if nat_eq (length l) 0 then Err EmptyLabel
    else (if nat_lt 255 (size + length l + 2) then Err LongName else Ok (l, rest))
fitting size (Err e) = Err e

-- the label that a text begins with
abbrev pub first_label : ℕ → List ℕ → Front (List ℕ)
first_label size t = fitting size (label_octets t)

-- a label in front of those that are read after it
abbrev pub before_labels : List ℕ → Result (List (List ℕ)) FromTextError → Result (List (List ℕ)) FromTextError
before_labels l (Ok ls) = Ok (l ∷ ls)
before_labels l (Err e) = Err e

-- A name from one label on, where go reads the others after a dot.
-- A dot after the last label may stand or not.
abbrev pub by_label : (ℕ → List ℕ → Result (List (List ℕ)) FromTextError) → ℕ → Front (List ℕ) → Result (List (List ℕ)) FromTextError
by_label go size (Ok (l, [])) = Ok (l ∷ [])
by_label go size (Ok (l, dot ∷ [])) = Ok (l ∷ [])
by_label go size (Ok (l, dot ∷ c ∷ rest)) = before_labels l (go (size + length l + 1) (c ∷ rest))
by_label go size (Err e) = Err e

-- at most k labels
abbrev pub labels_up_to : ℕ → ℕ → List ℕ → Result (List (List ℕ)) FromTextError
labels_up_to zero size t = Err LongName
labels_up_to (suc k) size t = by_label (labels_up_to k) size (first_label size t)

-- the labels of a text; 128 are more than a name has
unfoldable pub text_labels : List ℕ → Result (List (List ℕ)) FromTextError
text_labels t = labels_up_to 128 0 t

-- a dot alone
abbrev pub is_dot : List ℕ → Bool
is_dot (x ∷ []) = nat_eq x 46
is_dot _ = false

-- the name that a text is; the root's is a dot
abbrev pub text_name : List ℕ → Result (List (List ℕ)) FromTextError
text_name t = if is_dot t then Ok [] else text_labels t

-- a refusal is the one that is read, or out of memory
abbrev pub IsRefusal : {A : Type 0} → FromTextError → Result A FromTextError → Type 0
IsRefusal NoMemory read = Unit {0}
IsRefusal EmptyLabel read = read ≡ Err EmptyLabel
IsRefusal LongLabel read = read ≡ Err LongLabel
IsRefusal LongName read = read ≡ Err LongName
IsRefusal BadEscape read = read ≡ Err BadEscape
IsRefusal BadCharacter read = read ≡ Err BadCharacter

-- what is read is given, unless memory runs out
abbrev pub GivesName : {A : Type 0} → Result A FromTextError → Result A FromTextError → Type 0
GivesName (Ok x) read = read ≡ Ok x
GivesName (Err e) read = IsRefusal e read

-- the label that is read is appended after its length
pub record Appends (read : Front (List ℕ)) (old new rest : List ℕ) : Type 0 where
  pub label : List ℕ
  pub read_as : read ≡ Ok (label, rest)
  pub written : new ≡ old ++ (length label ∷ label)
  pub some : 0 < length label
  pub few : length label < 64
  pub room : length new < 255

-- octets are the name that is read
pub record Spells (read : Result (List (List ℕ)) FromTextError) (octets : List ℕ) : Type 0 where
  pub labels : List (List ℕ)
  pub read_as : read ≡ Ok labels
  pub written : octets ≡ spell labels
  pub name : IsName labels

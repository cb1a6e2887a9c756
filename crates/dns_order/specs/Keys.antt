-- Octets that compare as names do in the canonical order (RFC 4034, section 6.1): labels from the last to the first, in lower case,
-- each after it an octet 0, which no octet of a label is written as. The octets of a name begin with those of each name that it ends
-- with.
use Rattle.std.specs.Prelude.{ℕ, ◌≡◌, ◌↔◌, List, [], ◌∷◌, ◌++◌, nat_lt, if◌then◌else◌}
use Rattle.std.specs.Cmp.Lexicographic.{slice_cmp}
use Rattle.std.specs.Ordering.{nat_cmp}
use Rattle.std.specs.Str.{bytes_eq}
use Rattle.dns_name.specs.Canonical.{from_last, name_cmp, same_name}
use Rattle.dns_name.specs.Labels.{EndsWith}

-- 0 and 1 as two octets
abbrev pub octet_key : ℕ → List ℕ
octet_key x = if nat_lt x 2 then 1 ∷ (if nat_lt x 1 then 1 else 2) ∷ [] else x ∷ []

abbrev pub label_key : List ℕ → List ℕ
label_key [] = 0 ∷ []
label_key (x ∷ l) = octet_key x ++ label_key l

abbrev pub labels_key : List (List ℕ) → List ℕ
labels_key [] = []
labels_key (l ∷ ls) = label_key l ++ labels_key ls

unfoldable pub canonical_key : List (List ℕ) → List ℕ
canonical_key name = labels_key (from_last name)

-- the key of a name begins with that of each name above it
abbrev pub KeysBeginAlike : Type 0
KeysBeginAlike = (below above : List (List ℕ)) → canonical_key (below ++ above) ≡ canonical_key above ++ labels_key (from_last below)

-- a key begins with another
abbrev pub BeginsWith : List ℕ → List ℕ → Type 0
BeginsWith key front = (rest : List ℕ) × (key ≡ front ++ rest)

abbrev pub KeysBeginAbove : Type 0
KeysBeginAbove = (a b : List (List ℕ)) → BeginsWith (canonical_key a) (canonical_key b) ↔ EndsWith a b

-- keys are the same exactly if the names are, up to ASCII case
abbrev pub KeysAreNames : Type 0
KeysAreNames = (a b : List (List ℕ)) → bytes_eq (canonical_key a) (canonical_key b) ≡ same_name a b

abbrev pub KeysAreOrdered : Type 0
KeysAreOrdered = (a b : List (List ℕ)) → slice_cmp nat_cmp (canonical_key a) (canonical_key b) ≡ name_cmp a b

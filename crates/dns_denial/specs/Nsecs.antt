-- NSEC records (RFC 4034, section 4).
use Rattle.std.specs.Prelude.{ℕ, ◌≡◌, Bool, true, false, not, List, nat_eq}
use Rattle.std.specs.List.{AllPairs, list_any}
use Rattle.std.specs.List.Sorted.{IsPartitionPoint}
use Rattle.std.specs.Ordering.{is_lt}
use Rattle.dns_name.specs.Canonical.{name_cmp}

-- the owner, the next domain name, and the types of the type bit maps (section 4.1)
pub record NsecState : Type 0 where
  pub owner : List (List ℕ)
  pub next : List (List ℕ)
  pub types : List ℕ

-- whether a type is listed
abbrev pub lists : NsecState → ℕ → Bool
lists n t = list_any (nat_eq t) n.types

-- the canonical order of names (section 6.1)
abbrev pub is_before : List (List ℕ) → List (List ℕ) → Bool
is_before a b = is_lt (name_cmp a b)

-- whether an NSEC's owner is not after a name
abbrev pub is_up_to : List (List ℕ) → NsecState → Bool
is_up_to name n = not (is_before name n.owner)

-- each NSEC is before those after it
abbrev pub AreSorted : List NsecState → Type 0
AreSorted ns = AllPairs (λ (m : NsecState) (n : NsecState). is_before m.owner n.owner ≡ true) ns

-- how many NSECs have an owner that is not after a name; they are the first ones
abbrev pub IsCountUpTo : List NsecState → List (List ℕ) → ℕ → Type 0
IsCountUpTo ns name count = IsPartitionPoint (λ (n : NsecState). is_up_to name n ≡ true) (λ (n : NsecState). is_up_to name n
    ≡ false) ns count

-- What a validator looks for in NSEC records that it has authenticated (RFC 4035, section 5.4, with the corrections of RFC 6840,
-- section 4). The names that are asked for are at or below the apex.
use Rattle.std.specs.Prelude.{ℕ, Bool, ◌||◌, ◌&&◌, not, List, [], ◌∷◌, nat_eq, if◌then◌else◌}
use Rattle.std.specs.List.{list_any}
use Rattle.dns_name.specs.Canonical.{same_name}
use Rattle.dns_route.specs.Routes.{ends_name}
use Rattle.dns_zone_tree.specs.Wildcards.{star}
use Rattle.dns_denial.specs.Nsecs.{NsecState, is_before, lists}

-- ---- one NSEC

-- "the owner name of the NSEC RR" is the name (RFC 4035, section 5.4)
abbrev pub matches : List (List ℕ) → NsecState → Bool
matches name n = same_name n.owner name

-- a name is after the owner and before the next name; the next name of the last NSEC is the apex (RFC 4034, section 4.1.1)
abbrev pub covers : List (List ℕ) → List (List ℕ) → NsecState → Bool
covers apex name n = is_before n.owner name && (is_before name n.next || same_name n.next apex)

-- the NSEC of a delegation, in the zone above: NS without SOA (RFC 6840, section 4.1)
abbrev pub is_delegation : NsecState → Bool
is_delegation n = lists n 2 && not (lists n 6)

-- the NSEC of a delegation or of a DNAME proves nothing of the names below its owner (RFC 6840, section 4.1)
abbrev pub proves_of : List (List ℕ) → NsecState → Bool
proves_of name n = not (ends_name name n.owner && (is_delegation n || lists n 39))

-- a name doesn't exist: it is covered, and no name below it is the next one
abbrev pub denies_name : List (List ℕ) → List (List ℕ) → NsecState → Bool
denies_name apex name n = covers apex name n && (proves_of name n && not (ends_name n.next name))

-- a name has no records, and exists since one below it does: an empty non-terminal (RFC 4035, section 3.1.3.2)
abbrev pub shows_empty : List (List ℕ) → List (List ℕ) → NsecState → Bool
shows_empty apex name n = covers apex name n && (proves_of name n && ends_name n.next name)

-- a type is not among those of the owner, nor is CNAME (RFC 6840, section 4.3); of a delegation's owner only DS can be denied, and DS
-- not by the zone below (RFC 6840, sections 4.1 and 4.4)
abbrev pub lacks : ℕ → NsecState → Bool
lacks t n = not (nat_eq t 255 || (lists n t || lists n 5)) && (if nat_eq t 43 then not (lists n 6) else not (is_delegation n))

abbrev pub denies_type : List (List ℕ) → List (List ℕ) → ℕ → NsecState → Bool
denies_type apex name t n = (matches name n && lacks t n) || shows_empty apex name n

-- the closest encloser that an NSEC shows of a name that it covers: the longest name that it ends with, and the owner or the next name
-- ends with too
abbrev pub shown_encloser : NsecState → List (List ℕ) → List (List ℕ)
shown_encloser n [] = []
shown_encloser n (l ∷ ls) = if ends_name n.owner (l ∷ ls) || ends_name n.next (l ∷ ls) then l ∷ ls else shown_encloser n ls

-- the wildcard below the closest encloser that an NSEC shows of a name
abbrev pub shown_wildcard : NsecState → List (List ℕ) → List (List ℕ)
shown_wildcard n name = star ∷ shown_encloser n name

-- ---- all NSECs of a reply

-- no such name: it is denied, and so is the wildcard that could stand for it
abbrev pub proves_name_error : List (List ℕ) → List NsecState → List (List ℕ) → Bool
proves_name_error apex ns name = list_any (λ (n : NsecState). denies_name apex name n
    && list_any (denies_name apex (shown_wildcard n name)) ns) ns

-- no such type at a name
abbrev pub proves_no_data : List (List ℕ) → List NsecState → List (List ℕ) → ℕ → Bool
proves_no_data apex ns name t = list_any (denies_type apex name t) ns

-- no such type at the wildcard that stands for a name, which is denied
abbrev pub proves_wildcard_no_data : List (List ℕ) → List NsecState → List (List ℕ) → ℕ → Bool
proves_wildcard_no_data apex ns name t = list_any (λ (n : NsecState). denies_name apex name n
    && list_any (denies_type apex (shown_wildcard n name) t) ns) ns

-- an answer that was made from a wildcard: the name is denied, and no closer wildcard could stand for it
abbrev pub proves_expansion : List (List ℕ) → List NsecState → List (List ℕ) → List (List ℕ) → Bool
proves_expansion apex ns name wildcard = list_any (λ (n : NsecState). denies_name apex name n
    && same_name (shown_wildcard n name) wildcard) ns

-- a delegation that is not signed (RFC 4035, section 5.2, and RFC 6840, section 4.4)
abbrev pub proves_insecure : List NsecState → List (List ℕ) → Bool
proves_insecure ns cut = list_any (λ (n : NsecState). matches cut n && (is_delegation n && not (lists n 43))) ns

-- The chain of a zone's NSEC records (RFC 4034, section 4.1; RFC 4035, section 2.3).
use Rattle.std.specs.Prelude.{ℕ, ◌≡◌, Bool, true, false, ◌||◌, ◌&&◌, not, List, nat_eq, None}
use Rattle.std.specs.List.{Contains, list_any}
use Rattle.dns_name.specs.Canonical.{same_name}
use Rattle.dns_message.specs.declared.record.Record.{Record}
use Rattle.dns_zone.specs.Cuts.{delegates, is_cut_off}
use Rattle.dns_zone.specs.Owned.{ZoneState, is_of, is_owned}
use Rattle.dns_zone_tree.specs.TreeErrors.{tree_error}
use Rattle.dns_denial.specs.Nsecs.{NsecState, is_before, lists}
use Rattle.dns_denial.specs.Validation.{covers, matches}

-- whether a name is below a delegation point, so that the zone has no authority over it
abbrev pub is_below_cut : ZoneState → List (List ℕ) → Bool
is_below_cut z name = list_any (λ (r : Record). delegates z name r && not (same_name r.owner name)) z.records

-- whether a name must have an NSEC: it owns records with authority, or is a delegation point (RFC 4035, section 2.3)
abbrev pub must_have : ZoneState → List (List ℕ) → Bool
must_have z name = list_any (is_owned name) z.records && not (is_below_cut z name)

abbrev pub is_record_at : List (List ℕ) → ℕ → Record → Bool
is_record_at name t r = is_owned name r && is_of t r

-- whether the zone has a type at a name: of a delegation point the NS and the DS alone (RFC 4035, section 2.3)
abbrev pub has_type : ZoneState → List (List ℕ) → ℕ → Bool
has_type z name t = list_any (is_record_at name t) z.records && (not (is_cut_off z name) || (nat_eq t 2 || nat_eq t 43))

-- a type whose bit says something: that of NSEC and RRSIG is ignored (RFC 4035, section 5.4)
abbrev pub IsDeniable : ℕ → Type 0
IsDeniable t = (nat_eq t 46 ≡ false) × (nat_eq t 47 ≡ false)

abbrev pub is_deniable : ℕ → Bool
is_deniable t = not (nat_eq t 46 || nat_eq t 47)

-- the chain of a zone is whole
pub record IsChained (z : ZoneState) (ns : List NsecState) : Type 0 where
  -- each name that must has an NSEC, and no other (RFC 4035, section 2.3)
  pub held : (name : List (List ℕ)) → must_have z name ≡ true → list_any (matches name) ns ≡ true
  pub owed : (n : NsecState) → Contains ns n → must_have z n.owner ≡ true
  -- each points to a later one of these names, and the last to the apex (RFC 4034, section 4.1.1)
  pub next : (n : NsecState) → Contains ns n → must_have z n.next ≡ true
  pub later : (n : NsecState) → Contains ns n → (is_before n.owner n.next || same_name n.next z.apex) ≡ true
  -- none of these names is between
  pub gap : (n : NsecState) → Contains ns n → (name : List (List ℕ)) → must_have z name ≡ true → covers z.apex name n ≡ false
  -- the types are those that the zone has there (RFC 4034, section 4.1.2)
  pub types : (n : NsecState) → Contains ns n → (t : ℕ) → IsDeniable t → lists n t ≡ has_type z n.owner t

-- a zone that is served, whose chain is whole
pub record IsWhole (z : ZoneState) (ns : List NsecState) : Type 0 where
  pub zone : tree_error z.apex z.records ≡ None
  pub chain : IsChained z ns

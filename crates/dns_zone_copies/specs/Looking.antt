-- What a look makes of the secondaries of a server: a NOTIFY is heard, what came of a check is taken, an obsolete copy is discarded,
-- and a check that is due is begun (RFC 1034, section 4.3.5; RFC 1996, section 3.11).
use Rattle.std.specs.Prelude.{ℕ, ◌≡◌, ◌⊎◌, ◌||◌, Bool, true, false, List, [], ◌∷◌}
use Rattle.std.specs.List.{AllZip}
use Rattle.dns_secondary.specs.Copies.{checking, is_due, is_newer, is_obsolete, without_obsolete, woken}
use Rattle.dns_secondary.specs.declared.timers.SoaTimers.{SoaTimers}
use Rattle.dns_zone_copies.specs.Secondaries.{SecondaryState, with_offer}

-- EXPIRE has passed since the copy was current
abbrev pub has_obsolete_copy : ℕ → SecondaryState → Bool
has_obsolete_copy now s = is_obsolete s.copy.held s.copy.current now

abbrev pub without_obsolete_copy : ℕ → SecondaryState → SecondaryState
without_obsolete_copy now s = record s { copy = without_obsolete s.copy now }

-- a NOTIFY came, which wakes the check, or none did
abbrev pub MayBeWoken : SecondaryState → SecondaryState → Type 0
MayBeWoken old new = (new ≡ old) ⊎ (new ≡ record old { copy = woken old.copy })

-- what the primary's SOA record says was offered to the copy, and whether it replaces that
pub record IsOffered (now : ℕ) (old new : SecondaryState) (other : Bool) : Type 0 where
  pub timers : SoaTimers
  pub copy : new ≡ with_offer old timers now
  pub newer : other ≡ is_newer old.copy.held timers.serial

-- something came of a check, or nothing did
abbrev pub MayBeOffered : ℕ → SecondaryState → SecondaryState → Bool → Type 0
MayBeOffered now old new other = ((new ≡ old) × (other ≡ false)) ⊎ IsOffered now old new other

-- a secondary was looked at: whether another copy, or none, is served from now on
pub record LooksAt (now : ℕ) (old new : SecondaryState) (changed : Bool) : Type 0 where
  pub heard : SecondaryState
  pub taken : SecondaryState
  pub other : Bool
  pub notify : MayBeWoken old heard
  pub check : MayBeOffered now heard taken other
  pub kept : new ≡ without_obsolete_copy now taken
  pub says : changed ≡ (other || has_obsolete_copy now taken)

-- each was looked at: whether one of them changed so
abbrev pub LooksAtAll : ℕ → List SecondaryState → List SecondaryState → Bool → Type 0
LooksAtAll now [] after changed = (after ≡ []) × (changed ≡ false)
LooksAtAll now (s ∷ ss) [] changed = ⊥
LooksAtAll now (s ∷ ss) (t ∷ ts) changed =
    (here : Bool) × (others : Bool) × LooksAt now s t here × (changed ≡ (here || others)) × LooksAtAll now ss ts others

-- a check that is due may begin
abbrev pub MayBegin : ℕ → SecondaryState → SecondaryState → Type 0
MayBegin now old new = (new ≡ old) ⊎ ((is_due old.copy now ≡ true) × (new ≡ record old { copy = checking old.copy now }))

-- each was looked at, and then checks that are due may have begun
abbrev pub Looks : ℕ → List SecondaryState → List SecondaryState → Bool → Type 0
Looks now before after changed =
    (between : List SecondaryState) × LooksAtAll now before between changed × AllZip (MayBegin now) between after

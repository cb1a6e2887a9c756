-- The fields between the owner and the data of a record, by the octets that stand there.
use Rattle.std.proofs.Common.{◌≡◌, ℕ, ◌+◌, ◌-◌, ◌*◌, ◌<◌, ◌≤◌, List, [], ◌∷◌, length, take, drop, Ok, Err, refl, sym, arith, length-drop}
use Rattle.std.proofs.lemmas.List.{take_all}
use Rattle.dns_name.specs.declared.error.ParseError.TheVariants.{ShortInput}
use Rattle.dns_name.specs.Place.{be16}
use Rattle.dns_message.specs.Read.{two_at, four_at}
use Rattle.dns_message.specs.Fixed.{fixed_at}
use Rattle.dns_message.specs.Sections.{field}
use Rattle.dns_message.proofs.Written.{past}

-- numbers, and what lies after two octets
two_seen : (o more : List ℕ) (at a b : ℕ) → drop at o ≡ a ∷ b ∷ more → two_at o at ≡ Ok (be16 a b, at + 2)
unfolding two_at
two_seen o more at a b h = rw h refl

behind : (o more : List ℕ) (at a b : ℕ) → drop at o ≡ a ∷ b ∷ more → drop (at + 2) o ≡ more
behind o more at a b h = past o (a ∷ b ∷ []) more at h

four_seen : (o more : List ℕ) (at a b c d : ℕ) → drop at o ≡ a ∷ b ∷ c ∷ d ∷ more → four_at o at ≡ Ok (65536 * be16 a b + be16 c d, at + 4)
unfolding four_at
four_seen o more at a b c d h =
    let k : at + 2 + 2 ≡ at + 4 = omega arith in
    let x = two_seen o (c ∷ d ∷ more) at a b h in
    let y = two_seen o more (at + 2) c d (behind o (c ∷ d ∷ more) at a b h) in
    rw (x, y, k) refl

fixed_seen : (o more : List ℕ) (at a b c d e f g h i j : ℕ) → drop at o ≡ a ∷ b ∷ c ∷ d ∷ e ∷ f ∷ g ∷ h ∷ i ∷ j ∷ more →
    fixed_at o at ≡ Ok (record { rtype = be16 a b; class = be16 c d; ttl = 65536 * be16 e f + be16 g h; size = be16 i j }, at + 10)
unfolding fixed_at
fixed_seen o more at a b c d e f g h i j s =
    let m1 : List ℕ = i ∷ j ∷ more in
    let m2 : List ℕ = e ∷ f ∷ g ∷ h ∷ m1 in
    let m3 : List ℕ = c ∷ d ∷ m2 in
    let x = two_seen o m3 at a b s in
    let s1 = behind o m3 at a b s in
    let y = two_seen o m2 (at + 2) c d s1 in
    let s2 = behind o m2 (at + 2) c d s1 in
    let z = four_seen o m1 (at + 2 + 2) e f g h s2 in
    let s3 = past o (e ∷ f ∷ g ∷ h ∷ []) m1 (at + 2 + 2) s2 in
    let w = two_seen o more (at + 2 + 2 + 4) i j s3 in
    let k : at + 2 + 2 + 4 + 2 ≡ at + 10 = omega arith in
    rw (x, y, z, w, k) refl

-- the fields that octets begin with
fixed_first : (o : List ℕ) (at : ℕ) (d : List ℕ) → drop at o ≡ d → 10 ≤ length d →
    fixed_at o at ≡ Ok (record { rtype = field 0 d; class = field 2 d; ttl = 65536 * field 4 d + field 6 d; size = field 8 d }, at + 10)
fixed_first o at [] s n = absurd (omega arith)
fixed_first o at (a ∷ []) s n = absurd (omega arith)
fixed_first o at (a ∷ b ∷ []) s n = absurd (omega arith)
fixed_first o at (a ∷ b ∷ c ∷ []) s n = absurd (omega arith)
fixed_first o at (a ∷ b ∷ c ∷ d ∷ []) s n = absurd (omega arith)
fixed_first o at (a ∷ b ∷ c ∷ d ∷ e ∷ []) s n = absurd (omega arith)
fixed_first o at (a ∷ b ∷ c ∷ d ∷ e ∷ f ∷ []) s n = absurd (omega arith)
fixed_first o at (a ∷ b ∷ c ∷ d ∷ e ∷ f ∷ g ∷ []) s n = absurd (omega arith)
fixed_first o at (a ∷ b ∷ c ∷ d ∷ e ∷ f ∷ g ∷ h ∷ []) s n = absurd (omega arith)
fixed_first o at (a ∷ b ∷ c ∷ d ∷ e ∷ f ∷ g ∷ h ∷ i ∷ []) s n = absurd (omega arith)
fixed_first o at (a ∷ b ∷ c ∷ d ∷ e ∷ f ∷ g ∷ h ∷ i ∷ j ∷ more) s n = fixed_seen o more at a b c d e f g h i j s

pub fixed_long : (o : List ℕ) (at : ℕ) → 10 ≤ length (drop at o) → fixed_at o at ≡ Ok (
  record {
    rtype = field 0 (drop at o);
    class = field 2 (drop at o);
    ttl = 65536 * field 4 (drop at o) + field 6 (drop at o);
    size = field 8 (drop at o);
  },
  at + 10,
)
fixed_long o at n = fixed_first o at (drop at o) refl n

-- a slice up to the end is all that lies after its start
pub all_after : (o : List ℕ) (at : ℕ) → take (length o - at) (drop at o) ≡ drop at o
all_after o at = take_all (length o - at) (drop at o) (omega (arith, length-drop at o))

pub fixed_read : (o : List ℕ) (at : ℕ) (seen : List ℕ) (rtype class high low ttl size : ℕ) → seen ≡ drop at o → 10 ≤ length (drop at o) →
    rtype ≡ field 0 seen → class ≡ field 2 seen → high ≡ field 4 seen → low ≡ field 6 seen → ttl ≡ 65536 * high + low →
    size ≡ field 8 seen → Ok (record { rtype = rtype; class = class; ttl = ttl; size = size }, at + 10) ≡ fixed_at o at
fixed_read o at seen rtype class high low ttl size e n r c h l t s = rw (r, c, t, h, l, s, e) (sym (fixed_long o at n))

-- too few octets
two_none : (o : List ℕ) (at : ℕ) → drop at o ≡ [] → two_at o at ≡ Err ShortInput
unfolding two_at
two_none o at h = rw h refl

two_one : (o : List ℕ) (at a : ℕ) → drop at o ≡ a ∷ [] → two_at o at ≡ Err ShortInput
unfolding two_at
two_one o at a h = rw h refl

two_few : (o : List ℕ) (at : ℕ) (d : List ℕ) → drop at o ≡ d → length d < 2 → two_at o at ≡ Err ShortInput
two_few o at [] s k = two_none o at s
two_few o at (a ∷ []) s k = two_one o at a s
two_few o at (a ∷ b ∷ more) s k = absurd (omega arith)

four_few : (o : List ℕ) (at : ℕ) (d : List ℕ) → drop at o ≡ d → length d < 4 → four_at o at ≡ Err ShortInput
unfolding four_at
four_few o at [] s k = rw (two_none o at s) refl
four_few o at (a ∷ []) s k = rw (two_one o at a s) refl
four_few o at (a ∷ b ∷ []) s k = rw (two_seen o [] at a b s, two_none o (at + 2) (behind o [] at a b s)) refl
four_few o at (a ∷ b ∷ c ∷ []) s k = rw (two_seen o (c ∷ []) at a b s, two_one o (at + 2) c (behind o (c ∷ []) at a b s)) refl
four_few o at (a ∷ b ∷ c ∷ d ∷ more) s k = absurd (omega arith)

-- too few octets after the type and the class
few_behind : (o : List ℕ) (at a b c d : ℕ) (m : List ℕ) → drop at o ≡ a ∷ b ∷ c ∷ d ∷ m → length m < 4 → fixed_at o at ≡ Err ShortInput
unfolding fixed_at
few_behind o at a b c d m s k =
    let s1 = behind o (c ∷ d ∷ m) at a b s in
    let s2 = behind o m (at + 2) c d s1 in
    rw (two_seen o (c ∷ d ∷ m) at a b s, two_seen o m (at + 2) c d s1, four_few o (at + 2 + 2) m s2 k) refl

-- too few octets after the TTL
no_size : (o : List ℕ) (at a b c d e f g h : ℕ) (m : List ℕ) → drop at o ≡ a ∷ b ∷ c ∷ d ∷ e ∷ f ∷ g ∷ h ∷ m → length m < 2 → fixed_at o at ≡ Err ShortInput
unfolding fixed_at
no_size o at a b c d e f g h m s k =
    let m2 : List ℕ = e ∷ f ∷ g ∷ h ∷ m in
    let s1 = behind o (c ∷ d ∷ m2) at a b s in
    let s2 = behind o m2 (at + 2) c d s1 in
    let s3 = past o (e ∷ f ∷ g ∷ h ∷ []) m (at + 2 + 2) s2 in
    rw (two_seen o (c ∷ d ∷ m2) at a b s, two_seen o m2 (at + 2) c d s1, four_seen o m (at + 2 + 2) e f g h s2, two_few o (at + 2 + 2 + 4) m s3 k) refl

fixed_few : (o : List ℕ) (at : ℕ) (d : List ℕ) → drop at o ≡ d → length d < 10 → fixed_at o at ≡ Err ShortInput
unfolding fixed_at
fixed_few o at [] s k = rw (two_none o at s) refl
fixed_few o at (a ∷ []) s k = rw (two_one o at a s) refl
fixed_few o at (a ∷ b ∷ []) s k = rw (two_seen o [] at a b s, two_none o (at + 2) (behind o [] at a b s)) refl
fixed_few o at (a ∷ b ∷ c ∷ []) s k = rw (two_seen o (c ∷ []) at a b s, two_one o (at + 2) c (behind o (c ∷ []) at a b s)) refl
fixed_few o at (a ∷ b ∷ c ∷ d ∷ []) s k = few_behind o at a b c d [] s (omega arith)
fixed_few o at (a ∷ b ∷ c ∷ d ∷ e ∷ []) s k = few_behind o at a b c d (e ∷ []) s (omega arith)
fixed_few o at (a ∷ b ∷ c ∷ d ∷ e ∷ f ∷ []) s k = few_behind o at a b c d (e ∷ f ∷ []) s (omega arith)
fixed_few o at (a ∷ b ∷ c ∷ d ∷ e ∷ f ∷ g ∷ []) s k = few_behind o at a b c d (e ∷ f ∷ g ∷ []) s (omega arith)
fixed_few o at (a ∷ b ∷ c ∷ d ∷ e ∷ f ∷ g ∷ h ∷ []) s k = no_size o at a b c d e f g h [] s (omega arith)
fixed_few o at (a ∷ b ∷ c ∷ d ∷ e ∷ f ∷ g ∷ h ∷ i ∷ []) s k = no_size o at a b c d e f g h (i ∷ []) s (omega arith)
fixed_few o at (a ∷ b ∷ c ∷ d ∷ e ∷ f ∷ g ∷ h ∷ i ∷ j ∷ more) s k = absurd (omega arith)

pub fixed_short : (o : List ℕ) (at : ℕ) → length (drop at o) < 10 → fixed_at o at ≡ Err ShortInput
fixed_short o at k = fixed_few o at (drop at o) refl k

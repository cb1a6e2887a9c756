-- Marks of records: what is left to mark, the least of their TTLs, and how many octets they have.
use Rattle.std.proofs.Common.{◌≡◌, ℕ, ◌+◌, ◌-◌, min, Bool, true, false, List, [], ◌∷◌, ◌++◌, map, length, Option, Some, None, Result, Ok, Err, refl, ap, sym, subst, ◌∙◌, arith, append_assoc, append-nil, fold, length-append}
use Rattle.std.specs.Prelude.{nat_eq, if◌then◌else◌, flat_map}
use Rattle.dns_name.specs.declared.error.ParseError.{ParseError}
use Rattle.dns_base.specs.Msg.{ResourceRecord}
use Rattle.dns_base.specs.Replaced.{other_than}
use Rattle.dns_base.specs.Standing.{Standing}
use Rattle.dns_base.specs.Wire.{record_octets}
use Rattle.dns_service.specs.Copied.{copied_item, copied_records, in_front}
use Rattle.dns_cache.specs.Marks.{AreMarked, IsMarked, counted_mark, mark_of, marked_ones, marked_size, marked_ttls}
use Rattle.dns_cache.specs.Ttls.{counted_ttl, lesser_of, smallest}
use Rattle.dns_cache.specs.declared.marks.Mark.{Mark}

-- ---- marking what is left of a section

pub others_joined : (xs ys : List ResourceRecord) → other_than 41 (xs ++ ys) ≡ other_than 41 xs ++ other_than 41 ys
others_joined [] ys = refl
others_joined (x ∷ xs) ys = elim (nat_eq x.rtype 41) as (λ b. (if b then other_than 41 (xs ++ ys) else x ∷ other_than 41 (xs ++ ys)) ≡ (if b then other_than 41 xs else x ∷ other_than 41 xs) ++ other_than 41 ys) [
  | true ↦ others_joined xs ys
  | false ↦ ap (λ l. x ∷ l) (others_joined xs ys)
]

ones_joined : (all : Bool) (xs ys : List ResourceRecord) → marked_ones all (xs ++ ys) ≡ marked_ones all xs ++ marked_ones all ys
ones_joined true xs ys = refl
ones_joined false xs ys = others_joined xs ys

pub map_joined : {A B : Type 0} (f : A → B) (xs ys : List A) → map f (xs ++ ys) ≡ map f xs ++ map f ys
map_joined f [] ys = refl
map_joined f (x ∷ xs) ys = ap (λ l. f x ∷ l) (map_joined f xs ys)

-- marking a record, and then those after it
joined_items : (all : Bool) (one : Result ResourceRecord ParseError) (more : Result (List ResourceRecord) ParseError) (old mid new : List Mark) → IsMarked all one old mid → AreMarked all more mid new → AreMarked all (in_front one more) old new
joined_items all (Ok x) (Ok xs) old mid new h g =
    ((h.0.0, g.0), g.1 ∙ (ap (λ (l : List Mark). l ++ map mark_of (marked_ones all xs)) h.1 ∙ (append_assoc old (map mark_of (marked_ones all (x ∷ []))) (map mark_of (marked_ones all xs)) ∙ ap (λ (l : List Mark). old ++ l) (sym (map_joined mark_of (marked_ones all (x ∷ [])) (marked_ones all xs)) ∙ ap (map mark_of) (sym (ones_joined all (x ∷ []) xs))))))
joined_items all (Ok x) (Err e) old mid new h g = tt
joined_items all (Err e) more old mid new h g = tt

-- if what is left is marked after these, all of it is marked after the first ones
pub record Goes (all : Bool) (items left : List (Result Standing ParseError)) (old now : List Mark) : Type 0 where
  pub rest : (new : List Mark) → AreMarked all (copied_records left) now new → AreMarked all (copied_records items) old new

pub goes_begun : (all : Bool) (items : List (Result Standing ParseError)) (old : List Mark) → Goes all items items old old
goes_begun all items old = record { rest = λ new h. h }

pub goes_on : (all : Bool) (items left more : List (Result Standing ParseError)) (item : Result Standing ParseError) (old now mid : List Mark) → Goes all items left old now → left ≡ item ∷ more → IsMarked all (copied_item item) now mid → Goes all items more old mid
goes_on all items left more item old now mid w e h = record { rest = λ new g. w.rest new (subst (λ (l : List (Result Standing ParseError)). AreMarked all (copied_records l) now new) (sym e) (joined_items all (copied_item item) (copied_records more) now mid new h g)) }

pub goes_ended : (all : Bool) (items left : List (Result Standing ParseError)) (old now : List Mark) → Goes all items left old now → left ≡ [] → AreMarked all (copied_records items) old now
goes_ended all items left old now w e = w.rest now (subst (λ (l : List (Result Standing ParseError)). AreMarked all (copied_records l) now now) (sym e) (tt, nothing_marked))
  where
    nothing : (b : Bool) → map mark_of (marked_ones b []) ≡ []
    nothing true = refl
    nothing false = refl

    nothing_marked : now ≡ now ++ map mark_of (marked_ones all [])
    nothing_marked = sym (append-nil now) ∙ ap (λ (l : List Mark). now ++ l) (sym (nothing all))

-- ---- TTLs

-- the smallest of a number that may be there and others
abbrev pub smallest_with : Option ℕ → List ℕ → ℕ
smallest_with None ns = smallest ns
smallest_with (Some n) ns = fold min n ns

pub lesser_first : (x : Option ℕ) (n : ℕ) (ns : List ℕ) → smallest_with x (n ∷ ns) ≡ smallest_with (Some (lesser_of x n)) ns
lesser_first None n ns = refl
lesser_first (Some k) n ns = refl

pub ttls_of : (rs : List ResourceRecord) → marked_ttls (map mark_of rs) ≡ map counted_ttl (other_than 41 rs)
ttls_of [] = refl
ttls_of (r ∷ rs) = elim (nat_eq r.rtype 41) as (λ b. (if b then marked_ttls (map mark_of rs) else counted_mark (mark_of r) ∷ marked_ttls (map mark_of rs)) ≡ map counted_ttl (if b then other_than 41 rs else r ∷ other_than 41 rs)) [
  | true ↦ ttls_of rs
  | false ↦ ap (λ l. counted_ttl r ∷ l) (ttls_of rs)
]

-- ---- octets

pub size_of : (rs : List ResourceRecord) → marked_size (map mark_of rs) ≡ length (flat_map record_octets rs)
size_of [] = refl
size_of (r ∷ rs) = ap (λ n. length (record_octets r) + n) (size_of rs) ∙ sym (length-append (record_octets r) (flat_map record_octets rs))

pub two_steps : (n a b : ℕ) → (n - a) - b ≡ n - (a + b)
two_steps n a b = omega arith

-- NSEC3s that are read record by record, and their order.
use Rattle.std.proofs.Common.{◌≡◌, ℕ, ◌+◌, ◌<◌, Bool, true, false, List, [], ◌∷◌, ◌++◌, length, take, get_or, cond, Result, Ok, Err, refl, ap, sym, subst, ◌∙◌, arith, append-nil}
use Rattle.std.specs.Prelude.{IfOk}
use Rattle.std.specs.Cmp.Lexicographic.{bytes_decides, nat_list_cmp_total, slice_cmp, texts_ties}
use Rattle.std.specs.List.Sorted.{IsSortedBy}
use Rattle.std.specs.Ordering.{is_eq, is_gt, is_lt, nat_cmp, ordering_reverse}
use Rattle.std.specs.declared.cmp.Ordering.{Ordering}
use Rattle.std.specs.declared.cmp.Ordering.TheVariants.{Less, Equal, Greater}
use Rattle.std.specs.Str.{bytes_eq}
use Rattle.std.proofs.lemmas.Bool.{true≢false, false_from_ne_true}
use Rattle.std.proofs.lemmas.List.{take_more}
use Rattle.std.proofs.lemmas.List.Sorted.{ranks_by, sorted_far}
use Rattle.dns_name.specs.declared.error.OutOfMemory.{OutOfMemory}
use Rattle.dns_message.specs.declared.record.Record.{Record}
use Rattle.dns_zone.specs.Owned.{is_of}
use Rattle.dns_denial.specs.Hashes.{AreSorted3}
use Rattle.dns_denial.specs.Nsec3.{Hashing, Nsec3State, is_lower}
use Rattle.dns_nsec3_data.specs.Nsec3Data.{AreApart3, AreNsec3s, Keeps3, KeepsOne3, is_ahead3, nsec3_records}

-- ---- the order of a list

join_step : (b : Bool) (x : Record) (zs xs ys : List Record) → zs ≡ xs ++ ys → cond b (x ∷ zs) zs ≡ cond b (x ∷ xs) xs ++ ys
join_step true x zs xs ys e = ap (λ (l : List Record). x ∷ l) e
join_step false x zs xs ys e = e

records_join : (xs ys : List Record) → nsec3_records (xs ++ ys) ≡ nsec3_records xs ++ nsec3_records ys
records_join [] ys = refl
records_join (x ∷ xs) ys = join_step (is_of 50 x) x (nsec3_records (xs ++ ys)) (nsec3_records xs) (nsec3_records ys) (records_join xs ys)

records_next : (rs : List Record) (i : ℕ) (r : Record) → i < length rs → r ≡ get_or rs i r → nsec3_records (take (i + 1) rs) ≡ nsec3_records (take i rs) ++ nsec3_records (r ∷ [])
records_next rs i r h e = ap nsec3_records (take_more rs i r h ∙ ap (λ (x : Record). take i rs ++ x ∷ []) (sym e)) ∙ records_join (take i rs) (r ∷ [])

module _ (apex : List (List ℕ)) (h : Hashing) where
  nsec3s_join : (rs qs : List Record) (ns ms : List Nsec3State) → AreNsec3s apex h rs ns → AreNsec3s apex h qs ms → AreNsec3s apex h (rs ++ qs) (ns ++ ms)
  nsec3s_join [] qs [] ms a k = k
  nsec3s_join [] qs (n ∷ ns) ms a k = absurd a
  nsec3s_join (r ∷ rs) qs [] ms a k = absurd a
  nsec3s_join (r ∷ rs) qs (n ∷ ns) ms a k = (a.0, nsec3s_join rs qs ns ms a.1 k)

  pub nsec3s_next : (rs : List Record) (i : ℕ) (r : Record) (old new : List Nsec3State) → i < length rs → r ≡ get_or rs i r → AreNsec3s apex h (nsec3_records (take i rs)) old → Keeps3 apex h r old new false → AreNsec3s apex h (nsec3_records (take (i + 1) rs)) new
  nsec3s_next rs i r old new l e a k =
      subst (λ (x : List Nsec3State). AreNsec3s apex h (nsec3_records (take (i + 1) rs)) x) (sym k.2)
      (subst (λ (x : List Record). AreNsec3s apex h x (old ++ k.0)) (sym (records_next rs i r l e)) (nsec3s_join (nsec3_records (take i rs)) (nsec3_records (r ∷ [])) old k.0 a k.1))

  -- ---- a record of NSEC3, and one of another type

  pub keeps3 : (r : Record) (old new : List Nsec3State) → is_of 50 r ≡ true → (b : Bool) → KeepsOne3 apex h r old new b → Keeps3 apex h r old new b
  keeps3 r old new t false k = (k.0 ∷ [], subst (λ (rs : List Record). AreNsec3s apex h rs (k.0 ∷ [])) (sym (ap (λ (b : Bool). cond b (r ∷ []) []) t)) (k.1, tt), k.2)
  keeps3 r old new t true k = (t, k)

  pub keeps_none3 : (r : Record) (old : List Nsec3State) → is_of 50 r ≡ false → Keeps3 apex h r old old false
  keeps_none3 r old t = ([], subst (λ (rs : List Record). AreNsec3s apex h rs []) (sym (ap (λ (b : Bool). cond b (r ∷ []) []) t)) tt, sym (append-nil old))

pub if_ok : {A : Type 0} (P Q : A → Type 0) (r : Result A OutOfMemory) → IfOk r P → ((x : A) → P x → Q x) → IfOk r Q
if_ok P Q (Ok x) h f = f x h
if_ok P Q (Err e) h f = tt

-- ---- the order of hashes

flipped : (o : Ordering) → is_gt (ordering_reverse o) ≡ is_lt o
flipped Less = refl
flipped Equal = refl
flipped Greater = refl

one_left : (o : Ordering) → is_lt o ≡ false → is_eq o ≡ false → is_gt o ≡ true
one_left Less h k = absurd (true≢false h)
one_left Equal h k = absurd (true≢false k)
one_left Greater h k = refl

turned : (a b : List ℕ) → is_gt (slice_cmp nat_cmp a b) ≡ is_lower b a
turned a b = ap is_gt (nat_list_cmp_total.antisymm a b) ∙ flipped (slice_cmp nat_cmp b a)

lower_apart : (a b : List ℕ) → is_lower a b ≡ false → bytes_eq a b ≡ false → is_lower b a ≡ true
lower_apart a b h k = sym (turned a b) ∙ one_left (slice_cmp nat_cmp a b) h (sym (texts_ties a b) ∙ k)

bytes_back : (a b : List ℕ) → bytes_eq a b ≡ false → bytes_eq b a ≡ false
bytes_back a b h = false_from_ne_true (bytes_eq b a) (λ t. true≢false (sym ((bytes_decides a b).1 (sym ((bytes_decides b a).0 t))) ∙ h))

-- NSEC3s in the order of their hashes, of which each has its own, are a chain's
pub sorted_apart3 : (ns : List Nsec3State) → IsSortedBy is_ahead3 ns → AreApart3 ns → AreSorted3 ns
sorted_apart3 ns s a i j d l k =
    lower_apart (get_or ns j d).hash (get_or ns i d).hash
    (sorted_far is_ahead3 (ranks_by nat_list_cmp_total (λ (n : Nsec3State). n.hash)) ns s i j d (omega (arith, l)) k)
    (bytes_back (get_or ns i d).hash (get_or ns j d).hash (a i j d l k))

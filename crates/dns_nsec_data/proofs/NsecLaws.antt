-- NSECs that are read record by record, and their order.
use Rattle.std.proofs.Common.{◌≡◌, ℕ, ◌+◌, ◌<◌, Bool, true, false, List, [], ◌∷◌, ◌++◌, length, take, get_or, cond, Result, Ok, Err, refl, ap, sym, subst, ◌∙◌, arith, append-nil}
use Rattle.std.specs.Prelude.{IfOk}
use Rattle.std.specs.List.Sorted.{IsSortedBy}
use Rattle.std.proofs.lemmas.Bool.{false_from_ne_true, true≢false}
use Rattle.std.proofs.lemmas.List.{take_more}
use Rattle.std.proofs.lemmas.List.Sorted.{ranks_by, sorted_far}
use Rattle.dns_name.specs.Canonical.{name_cmp_total, same_name}
use Rattle.dns_name.specs.declared.error.OutOfMemory.{OutOfMemory}
use Rattle.dns_message.specs.declared.record.Record.{Record}
use Rattle.dns_zone.specs.Owned.{is_of}
use Rattle.dns_denial.specs.Nsecs.{AreSorted, NsecState}
use Rattle.dns_denial.proofs.OrderLaws.{before_apart}
use Rattle.dns_denial.proofs.NameLaws.{same_back}
use Rattle.dns_nsec_data.specs.NsecData.{AreApart, AreNsecs, Keeps, KeepsOne, is_ahead, nsec_records}

-- ---- the order of a list

join_step : (b : Bool) (x : Record) (zs xs ys : List Record) → zs ≡ xs ++ ys → cond b (x ∷ zs) zs ≡ cond b (x ∷ xs) xs ++ ys
join_step true x zs xs ys e = ap (λ (l : List Record). x ∷ l) e
join_step false x zs xs ys e = e

records_join : (xs ys : List Record) → nsec_records (xs ++ ys) ≡ nsec_records xs ++ nsec_records ys
records_join [] ys = refl
records_join (x ∷ xs) ys = join_step (is_of 47 x) x (nsec_records (xs ++ ys)) (nsec_records xs) (nsec_records ys) (records_join xs ys)

records_next : (rs : List Record) (i : ℕ) (r : Record) → i < length rs → r ≡ get_or rs i r → nsec_records (take (i + 1) rs) ≡ nsec_records (take i rs) ++ nsec_records (r ∷ [])
records_next rs i r h e = ap nsec_records (take_more rs i r h ∙ ap (λ (x : Record). take i rs ++ x ∷ []) (sym e)) ∙ records_join (take i rs) (r ∷ [])

nsecs_join : (rs qs : List Record) (ns ms : List NsecState) → AreNsecs rs ns → AreNsecs qs ms → AreNsecs (rs ++ qs) (ns ++ ms)
nsecs_join [] qs [] ms h k = k
nsecs_join [] qs (n ∷ ns) ms h k = absurd h
nsecs_join (r ∷ rs) qs [] ms h k = absurd h
nsecs_join (r ∷ rs) qs (n ∷ ns) ms h k = (h.0, nsecs_join rs qs ns ms h.1 k)

pub nsecs_next : (rs : List Record) (i : ℕ) (r : Record) (old new : List NsecState) → i < length rs → r ≡ get_or rs i r → AreNsecs (nsec_records (take i rs)) old → Keeps r old new false → AreNsecs (nsec_records (take (i + 1) rs)) new
nsecs_next rs i r old new h e a k =
    subst (λ (x : List NsecState). AreNsecs (nsec_records (take (i + 1) rs)) x) (sym k.2)
    (subst (λ (x : List Record). AreNsecs x (old ++ k.0)) (sym (records_next rs i r h e)) (nsecs_join (nsec_records (take i rs)) (nsec_records (r ∷ [])) old k.0 a k.1))

-- ---- a record of NSEC, and one of another type

pub if_ok : {A : Type 0} (P Q : A → Type 0) (r : Result A OutOfMemory) → IfOk r P → ((x : A) → P x → Q x) → IfOk r Q
if_ok P Q (Ok x) h f = f x h
if_ok P Q (Err e) h f = tt

pub keeps : (r : Record) (old new : List NsecState) → is_of 47 r ≡ true → (b : Bool) → KeepsOne r old new b → Keeps r old new b
keeps r old new t false k = (k.0 ∷ [], subst (λ (rs : List Record). AreNsecs rs (k.0 ∷ [])) (sym (ap (λ (b : Bool). cond b (r ∷ []) []) t)) (k.1, tt), k.2)
keeps r old new t true k = (t, k)

pub keeps_none : (r : Record) (old : List NsecState) → is_of 47 r ≡ false → Keeps r old old false
keeps_none r old t = ([], subst (λ (rs : List Record). AreNsecs rs []) (sym (ap (λ (b : Bool). cond b (r ∷ []) []) t)) tt, sym (append-nil old))

-- ---- the order of owners

-- NSECs in the order of their owners, of which each has its own, are in canonical order
pub sorted_apart : (ns : List NsecState) → IsSortedBy is_ahead ns → AreApart ns → AreSorted ns
sorted_apart ns s a i j d l k =
    before_apart (get_or ns j d).owner (get_or ns i d).owner
    (sorted_far is_ahead (ranks_by name_cmp_total (λ (n : NsecState). n.owner)) ns s i j d (omega (arith, l)) k)
    (same_turned (get_or ns i d).owner (get_or ns j d).owner (a i j d l k))
  where
    same_turned : (x y : List (List ℕ)) → same_name x y ≡ false → same_name y x ≡ false
    same_turned x y h = false_from_ne_true (same_name y x) (λ e. true≢false (sym (same_back y x e) ∙ h))

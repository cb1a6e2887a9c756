-- If no wildcard exists, names have the records that they own.
use Rattle.std.proofs.Common.{◌≡◌, ℕ, zero, suc, Bool, true, false, List, [], ◌∷◌, map, length, drop, refl, ap, sym, ◌∙◌, arith, ◌-◌, ◌≤◌}
use Rattle.std.specs.Prelude.{◌&&◌, ◌||◌, if◌then◌else◌, nat_le, Option, Some, None}
use Rattle.std.specs.List.{filter, list_any}
use Rattle.std.specs.Char.{to_ascii_lowercase}
use Rattle.std.proofs.lemmas.List.{length-map, drop-map}
use Rattle.dns_name.specs.Labels.{folded}
use Rattle.std.proofs.lemmas.Bool.Decides.{nat_tests}
use Rattle.dns_message.specs.declared.question.Question.{Question}
use Rattle.dns_message.specs.declared.record.Record.{Record}
use Rattle.dns_name.specs.Canonical.{same_name, same_name_Decides}
use Rattle.dns_route.specs.Routes.{ends_name}
use Rattle.dns_zone.specs.Owned.{ZoneState, asked_records, is_asked, is_owned, target}
use Rattle.dns_zone.specs.Aliases.{aliased, followed, gone_on, is_within}
use Rattle.dns_zone.specs.Cuts.{cut_records, is_cut_off}
use Rattle.dns_zone.specs.ZoneReply.{ZoneReply, authoritative, denied, exists, follows, referral, zone_reply}
use Rattle.dns_zone_tree.specs.Wildcards.{are_some, encloser, given_as, had_records, is_covered, star, wildcard}
use Rattle.dns_name_server.specs.WildReplies.{ExistingNamesAreTheirOwn, HasNoWildcard, WildcardsAlone, WildcardsAreStars, has_star, is_star, wild_followed, wild_reply}

le_true : (a b : ℕ) → a ≤ b → nat_le a b ≡ true
le_true a b h = grind (arith, nat_tests)

same_length : (a b : List (List ℕ)) → same_name a b ≡ true → length a ≡ length b
same_length a b h = sym (length-map a (map to_ascii_lowercase)) ∙ (ap length ((same_name_Decides a b).0 h) ∙ length-map b (map to_ascii_lowercase))

both_true : (a b : Bool) → a ≡ true → b ≡ true → (a && b) ≡ true
both_true a b h g = rw (h, g) refl

first_true : (a b : Bool) → (a && b) ≡ true → a ≡ true
first_true true b h = refl
first_true false b h = h

-- an owner ends with itself
owner_ends : (r : Record) (name : List (List ℕ)) → is_owned name r ≡ true → ends_name r.owner name ≡ true
owner_ends r name h =
    let l : length r.owner ≡ length name = same_length r.owner name h in
    let d : length r.owner - length name ≡ 0 = omega (arith, l) in
    both_true (nat_le (length name) (length r.owner)) (same_name (drop (length r.owner - length name) r.owner) name) (le_true (length name) (length r.owner) (omega (arith, l))) (ap (λ (n : ℕ). same_name (drop n r.owner) name) d ∙ h)

none_step : (a b c : Bool) (r : Record) (ks : List Record) → (a ≡ true → b ≡ true) → (c ≡ false → ks ≡ []) → (b || c) ≡ false → (if a then r ∷ ks else ks) ≡ []
none_step true true c r ks w ih h = absurd (cc)
none_step true false c r ks w ih h = absurd (let k : false ≡ true = w refl in cc)
none_step false true c r ks w ih h = absurd (cc)
none_step false false c r ks w ih h = ih h

-- a name that owns a record exists
none_asked : (rs : List Record) (name : List (List ℕ)) (t : ℕ) → list_any (λ (r : Record). ends_name r.owner name) rs ≡ false → filter (is_asked name t) rs ≡ []
none_asked [] name t h = refl
none_asked (r ∷ rs) name t h = none_step (is_asked name t r) (ends_name r.owner name) (list_any (λ (r : Record). ends_name r.owner name) rs) r (filter (is_asked name t) rs) (λ e. owner_ends r name (first_true _ _ e)) (none_asked rs name t) h

some_step : (b c : Bool) (r : Record) (ks : List Record) → are_some ks ≡ c → are_some (if b then r ∷ ks else ks) ≡ (b || c)
some_step true c r ks h = refl
some_step false c r ks h = h

-- a test passes if a filter leaves something
some_any : (p : Record → Bool) (rs : List Record) → are_some (filter p rs) ≡ list_any p rs
some_any p [] = refl
some_any p (r ∷ rs) = some_step (p r) (list_any p rs) r (filter p rs) (some_any p rs)

chosen_same : (b : Bool) (xs ys : List Record) → (b ≡ false → ys ≡ xs) → (if b then xs else ys) ≡ xs
chosen_same true xs ys h = refl
chosen_same false xs ys h = h refl

module _ (z : ZoneState) (none : HasNoWildcard z) where
  had_same : (name : List (List ℕ)) (t : ℕ) → had_records z name t ≡ asked_records z name t
  had_same name t = chosen_same (exists z name) (asked_records z name t) (map (given_as name) (asked_records z (wildcard z name) t))
      (λ e. ap (map (given_as name)) (none_asked z.records (wildcard z name) t (none (encloser z name))) ∙ sym (none_asked z.records name t e))

  covered_by : (b c : Bool) → c ≡ false → (if b then true else c) ≡ b
  covered_by true c h = refl
  covered_by false c h = h

  covered_same : (name : List (List ℕ)) → is_covered z name ≡ exists z name
  covered_same name = covered_by (exists z name) (exists z (wildcard z name)) (none (encloser z name))

  gone_same : (go to : List (List ℕ) → List Record) → ((n : List (List ℕ)) → go n ≡ to n) → (o : Option (List (List ℕ))) → gone_on z go o ≡ gone_on z to o
  gone_same go to h None = refl
  gone_same go to h (Some name) = ap (λ (x : List Record). if is_within z name then x else []) (h name)

  alias_same : (go to : List (List ℕ) → List Record) → ((n : List (List ℕ)) → go n ≡ to n) → (cs found : List Record) → aliased z go cs found ≡ aliased z to cs found
  alias_same go to h [] found = refl
  alias_same go to h (c ∷ cs) found = ap (λ (x : List Record). c ∷ x) (gone_same go to h (target c.rdata))

  followed_same : (t k : ℕ) (name : List (List ℕ)) → wild_followed z t k name ≡ followed z t k name
  unfolding followed
  followed_same t zero name = rw (had_same name 5, had_same name t) refl
  followed_same t (suc k) name =
      ap (λ (x : List Record). aliased z (wild_followed z t k) x (had_records z name t)) (had_same name 5)
      ∙ (ap (λ (x : List Record). aliased z (wild_followed z t k) (asked_records z name 5) x) (had_same name t)
      ∙ alias_same (wild_followed z t k) (followed z t k) (followed_same t k) (asked_records z name 5) (asked_records z name t))

  some_same : (name : List (List ℕ)) (t : ℕ) → are_some (had_records z name t) ≡ list_any (is_asked name t) z.records
  some_same name t = ap are_some (had_same name t) ∙ some_any (is_asked name t) z.records

  -- the reply by its tests and lists
  abbrev shaped : Question → Bool → List Record → Bool → List Record → Bool → ZoneReply
  shaped q a xs b ys e =
      if is_cut_off z q.qname then referral z (cut_records z q.qname)
      else (if follows q.qtype && a then authoritative xs
      else (if b then authoritative ys
      else (if e then denied z 0
      else denied z 3)))

  reply_same : (q : Question) → wild_reply z q ≡ zone_reply z q
  unfolding zone_reply
  reply_same q =
      let n = q.qname in
      let t = q.qtype in
      let a = list_any (is_asked n 5) z.records in
      let b = list_any (is_asked n t) z.records in
      ap (λ (x : Bool). shaped q x (wild_followed z t 8 n) (are_some (had_records z n t)) (had_records z n t) (is_covered z n)) (some_same n 5)
      ∙ (ap (λ (x : List Record). shaped q a x (are_some (had_records z n t)) (had_records z n t) (is_covered z n)) (followed_same t 8 n)
      ∙ (ap (λ (x : Bool). shaped q a (followed z t 8 n) x (had_records z n t) (is_covered z n)) (some_same n t)
      ∙ (ap (λ (x : List Record). shaped q a (followed z t 8 n) b x (is_covered z n)) (had_same n t)
      ∙ ap (λ (x : Bool). shaped q a (followed z t 8 n) b (asked_records z n t) x) (covered_same n))))

pub wildcards_alone : WildcardsAlone
wildcards_alone z q none = reply_same z none q

-- ---- a wildcard that exists has its label in an owner

any_behind : (p : List ℕ → Bool) (xs ys : List (List ℕ)) (j : ℕ) (x : List ℕ) → drop j xs ≡ x ∷ ys → p x ≡ true → list_any p xs ≡ true
any_behind p [] ys zero x e h = absurd (cc)
any_behind p [] ys (suc j) x e h = absurd (cc)
any_behind p (w ∷ ws) ys zero x e h = let k : w ≡ x = cc in ap (λ (b : Bool). b || list_any p ws) (ap p k ∙ h)
any_behind p (w ∷ ws) ys (suc j) x e h = or_true (p w) (list_any p ws) (any_behind p ws ys j x e h)
  where
    or_true : (a b : Bool) → b ≡ true → (a || b) ≡ true
    or_true true b h = refl
    or_true false b h = h

second_true : (a b : Bool) → (a && b) ≡ true → b ≡ true
second_true true b h = h
second_true false b h = absurd (cc)

star_ends : (r : Record) (name : List (List ℕ)) → ends_name r.owner (star ∷ name) ≡ true → has_star r ≡ true
star_ends r name h =
    let j = length r.owner - length (star ∷ name) in
    let e = (same_name_Decides (drop j r.owner) (star ∷ name)).0 (second_true (nat_le (length (star ∷ name)) (length r.owner)) (same_name (drop j r.owner) (star ∷ name)) h) in
    any_behind is_star (folded r.owner) (folded name) j star (drop-map (map to_ascii_lowercase) j r.owner ∙ e) refl

any_by : (p q : Record → Bool) → ((r : Record) → p r ≡ true → q r ≡ true) → (rs : List Record) → list_any q rs ≡ false → list_any p rs ≡ false
any_by p q w [] h = refl
any_by p q w (r ∷ rs) h = by_tests (p r) (q r) (list_any p rs) (list_any q rs) (w r) (any_by p q w rs) h
  where
    by_tests : (a b c d : Bool) → (a ≡ true → b ≡ true) → (d ≡ false → c ≡ false) → (b || d) ≡ false → (a || c) ≡ false
    by_tests true true c d f g h = absurd (cc)
    by_tests true false c d f g h = absurd (let k : false ≡ true = f refl in cc)
    by_tests false true c d f g h = absurd (cc)
    by_tests false false c d f g h = g h

pub wildcards_are_stars : WildcardsAreStars
wildcards_are_stars z h name = any_by (λ (r : Record). ends_name r.owner (star ∷ name)) has_star (λ r e. star_ends r name e) z.records h

-- ---- a name that exists

skip : (f a : Bool) (x y r : ZoneReply) → a ≡ false → (if f && a then x else r) ≡ (if f && a then y else r)
skip true a x y r h = rw h refl
skip false a x y r h = refl

module _ (z : ZoneState) (name : List (List ℕ)) (there : exists z name ≡ true) where
  had_own : (t : ℕ) → had_records z name t ≡ asked_records z name t
  had_own t = ap (λ (b : Bool). if b then asked_records z name t else map (given_as name) (asked_records z (wildcard z name) t)) there

  covered_own : is_covered z name ≡ exists z name
  covered_own = ap (λ (b : Bool). if b then true else exists z (wildcard z name)) there ∙ sym there

  some_own : (t : ℕ) → are_some (had_records z name t) ≡ list_any (is_asked name t) z.records
  some_own t = ap are_some (had_own t) ∙ some_any (is_asked name t) z.records

own_reply : (z : ZoneState) (q : Question) → exists z q.qname ≡ true → list_any (is_asked q.qname 5) z.records ≡ false → wild_reply z q ≡ zone_reply z q
unfolding zone_reply
own_reply z q e c =
    let n = q.qname in
    let t = q.qtype in
    let a = list_any (is_asked n 5) z.records in
    let b = list_any (is_asked n t) z.records in
    let rest = if b then authoritative (asked_records z n t) else (if exists z n then denied z 0 else denied z 3) in
    ap (λ (x : Bool). if is_cut_off z n then referral z (cut_records z n) else (if follows t && x then authoritative (wild_followed z t 8 n) else (if are_some (had_records z n t) then authoritative (had_records z n t) else (if is_covered z n then denied z 0 else denied z 3)))) (some_own z n e 5)
    ∙ (ap (λ (x : Bool). if is_cut_off z n then referral z (cut_records z n) else (if follows t && a then authoritative (wild_followed z t 8 n) else (if x then authoritative (had_records z n t) else (if is_covered z n then denied z 0 else denied z 3)))) (some_own z n e t)
    ∙ (ap (λ (x : List Record). if is_cut_off z n then referral z (cut_records z n) else (if follows t && a then authoritative (wild_followed z t 8 n) else (if b then authoritative x else (if is_covered z n then denied z 0 else denied z 3)))) (had_own z n e t)
    ∙ (ap (λ (x : Bool). if is_cut_off z n then referral z (cut_records z n) else (if follows t && a then authoritative (wild_followed z t 8 n) else (if b then authoritative (asked_records z n t) else (if x then denied z 0 else denied z 3)))) (covered_own z n e)
    ∙ ap (λ (x : ZoneReply). if is_cut_off z n then referral z (cut_records z n) else x) (skip (follows t) a (authoritative (wild_followed z t 8 n)) (authoritative (followed z t 8 n)) rest c))))

pub existing_names_are_their_own : ExistingNamesAreTheirOwn
existing_names_are_their_own z q e c = own_reply z q e c

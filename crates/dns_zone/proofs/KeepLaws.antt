-- What is kept under octets, and what a place more changes.
use Rattle.std.proofs.Common.{◌≡◌, ℕ, ◌+◌, ◌<◌, Bool, true, false, List, [], ◌∷◌, ◌++◌, length, take, cond, get_or, nat_eq, Option, Some, None, MatchOption, Bor, refl, ap, sym, subst, ◌∙◌, arith, append-nil}
use Rattle.std.specs.Prelude.{◌&&◌, ◌||◌, ◌==◌, if◌then◌else◌, is_some, ⊤, IfSome, IfOk, OnOk, Result, Ok, Err}
use Rattle.dns_name.specs.declared.error.OutOfMemory.{OutOfMemory}
use Rattle.std.specs.BTreeMap.{BTreeMap, UpdatesBy, get_by, is_at as finds}
use Rattle.std.specs.BTreeMap.Range.{IsEntryInRange, IsInRange, IsRangeOf}
use Rattle.std.specs.Cmp.{both_ways}
use Rattle.std.specs.Cmp.Lexicographic.{bytes_decides, nat_list_eq_equiv, slice_cmp}
use Rattle.std.specs.List.{list_any, slice_get, starts_with}
use Rattle.std.specs.Map.{lookup, AreApart, IsKeyTest, KeepsOthers}
use Rattle.std.specs.Ordering.{eq_by_cmp, is_eq, is_gt, nat_cmp}
use Rattle.std.specs.Str.{bytes_eq}
use Rattle.std.specs.declared.vec.Vec.{Vec}
use Rattle.std.specs.declared.alloc.Global.{Global}
use Rattle.std.specs.declared.ops.Bound.TheVariants.{Included, Unbounded}
use Rattle.std.proofs.lemmas.List.{length-take-le, take_more}
use Rattle.std.proofs.lemmas.List.Folds.{list_any-append}
use Rattle.std.proofs.lemmas.Map.Text.{is_eq-slice_cmp}
use Rattle.dns_message.specs.declared.record.Record.{Record}
use Rattle.dns_base.specs.Records.{data_type}
use Rattle.dns_route.specs.Routes.{ends_name}
use Rattle.dns_zone.specs.declared.name_places.NamePlaces.{NamePlaces}
use Rattle.dns_zone.specs.ZoneIndex.{KnowsPlaces, Puts, begins_at, is_at, kinds_under, places_in, places_under, stands_under}
use Rattle.dns_zone.specs.Owned.{is_asked, is_of}
use Rattle.dns_zone.specs.Paths.{name_path}
use Rattle.dns_zone.specs.Places.{Kinds, kind_places, places}
use Rattle.dns_zone.proofs.OrderLaws.{begins_behind, begins_between}
use Rattle.dns_zone.proofs.PathLaws.{path_begins, path_same}
use Rattle.dns_zone.proofs.PlaceLaws.{places_agree, places_more, places_none, places_some}

-- ---- a map whose keys are octets

at_octets : {W : Type 0} (f g : List ℕ → W) (bs : List ℕ) (w : W) → g bs ≡ w → ((cs : List ℕ) → bytes_eq bs cs ≡ false → g cs ≡ f cs) → (cs : List ℕ) (b : Bool) → bytes_eq bs cs ≡ b → g cs ≡ (if b then w else f cs)
at_octets f g bs w here other cs true e = subst (λ l. g l ≡ w) ((bytes_decides bs cs).0 e) here
at_octets f g bs w here other cs false e = other cs e

other_entries : {K X : Type 0} (eq : K → K → Bool) (test : K → Bool) (old new : List (K × X)) → KeepsOthers eq test old new → (other : K → Bool) → IsKeyTest eq other → AreApart test other → lookup other new ≡ lookup other old
unfolding KeepsOthers
other_entries eq test old new h = h

key_test : (cs xs ys : List ℕ) → is_eq (slice_cmp nat_cmp cs xs) ≡ true → is_eq (slice_cmp nat_cmp cs ys) ≡ is_eq (slice_cmp nat_cmp xs ys)
key_test cs xs ys h = is_eq-slice_cmp cs ys ∙ (nat_list_eq_equiv.congr cs xs ys (sym (is_eq-slice_cmp cs xs) ∙ h) ∙ sym (is_eq-slice_cmp xs ys))

apart : (bs cs ks : List ℕ) → bytes_eq bs cs ≡ false → is_eq (slice_cmp nat_cmp bs ks) ≡ true → is_eq (slice_cmp nat_cmp cs ks) ≡ false
apart bs cs ks n y =
    is_eq-slice_cmp cs ks ∙ (nat_list_eq_equiv.symm cs ks ∙ (sym (nat_list_eq_equiv.congr bs ks cs (sym (is_eq-slice_cmp bs ks) ∙ y)) ∙ n))

module _ {X : Type 0} (bs : List ℕ) (m n : BTreeMap (Vec ℕ Global) X) (w : Option X) where
  pub put_under : UpdatesBy (λ (a b : Vec ℕ Global). slice_cmp nat_cmp a.items b.items) (λ (k : Vec ℕ Global). slice_cmp nat_cmp bs k.items) m n w →
      (cs : List ℕ) → get_by (λ (k : Vec ℕ Global). slice_cmp nat_cmp cs k.items) n ≡ (if bytes_eq bs cs then w else get_by (λ (k : Vec ℕ Global). slice_cmp nat_cmp cs k.items) m)
  put_under h cs =
      at_octets (λ o. get_by (λ (k : Vec ℕ Global). slice_cmp nat_cmp o k.items) m) (λ o. get_by (λ (k : Vec ℕ Global). slice_cmp nat_cmp o k.items) n) bs w h.1
      (λ ds e. other_entries (eq_by_cmp (λ (a b : Vec ℕ Global). slice_cmp nat_cmp a.items b.items)) (finds (λ (k : Vec ℕ Global). slice_cmp nat_cmp bs k.items)) m.entries n.entries h.3 (finds (λ (k : Vec ℕ Global). slice_cmp nat_cmp ds k.items)) (λ x y. key_test ds x.items y.items) (λ y. apart bs ds y.items e))
      cs (bytes_eq bs cs) refl

key_by : {K X : Type 0} (test : K → Bool) (k : K) (x : X) (more : Option X) (b : Bool) → test k ≡ b → (is_some more ≡ true → (k : K) × (test k ≡ true)) → is_some (cond b (Some x) more) ≡ true → (k : K) × (test k ≡ true)
key_by test k x more true t ih h = (k, t)
key_by test k x more false t ih h = ih h

-- a key that is found
pub found_key : {K X : Type 0} (test : K → Bool) (es : List (K × X)) → is_some (lookup test es) ≡ true → (k : K) × (test k ≡ true)
found_key test [] h = absurd (cc)
found_key test (e ∷ es) h = key_by test e.0 e.1 (lookup test es) (test e.0) refl (found_key test es) h

-- ---- a place more

-- what follows if a call succeeds
pub on_ok : {A B : Type 0} (r : Result ⊤ OutOfMemory) → OnOk r A → (A → B) → OnOk r B
on_ok (Ok x) a f = f a
on_ok (Err e) a f = tt

pub if_ok : {A : Type 0} (P Q : A → Type 0) (r : Result A OutOfMemory) → IfOk r P → ((x : A) → P x → Q x) → IfOk r Q
if_ok P Q (Ok x) h f = f x h
if_ok P Q (Err e) h f = tt

pub none_there : (o : Option Kinds) → is_some o ≡ false → o ≡ None
none_there None h = refl
none_there (Some m) h = absurd (cc)

kept_under : (old new : Option Kinds) (b : Bool) (u t place : ℕ) (was : List ℕ) (now : Kinds) → new ≡ (if b then Some now else old) → (b ≡ true → places_in u old ≡ was) → kind_places u now ≡ (if nat_eq u 255 || nat_eq t u then was ++ place ∷ [] else was) →
    places_in u new ≡ (if b && (nat_eq u 255 || nat_eq t u) then places_in u old ++ place ∷ [] else places_in u old)
kept_under old new true u t place was now e w p =
    ap (places_in u) e ∙ (p ∙ ap (λ l. if nat_eq u 255 || nat_eq t u then l ++ place ∷ [] else l) (sym (w refl)))
kept_under old new false u t place was now e w p = ap (places_in u) e

some_under : (old new : Option Kinds) (b : Bool) (now : Kinds) → new ≡ (if b then Some now else old) → is_some new ≡ (b || is_some old)
some_under old new true now e = ap is_some e
some_under old new false now e = ap is_some e

-- the kinds under octets are others
pub puts_of : (n m : NamePlaces) (o : List ℕ) (t place : ℕ) (was : ℕ → List ℕ) (now : Kinds) → ((u : ℕ) → places_in u (kinds_under n o) ≡ was u) → ((p : List ℕ) → kinds_under m p ≡ (if bytes_eq o p then Some now else kinds_under n p)) →
    ((u : ℕ) → kind_places u now ≡ (if nat_eq u 255 || nat_eq t u then was u ++ place ∷ [] else was u)) → Puts n o t place m
puts_of n m o t place was now w e p =
    let turned : (q : List ℕ) → bytes_eq o q ≡ bytes_eq q o = λ q. nat_list_eq_equiv.symm o q in
    let f : (q : List ℕ) → kinds_under m q ≡ (if bytes_eq q o then Some now else kinds_under n q) = λ q. e q ∙ ap (λ b. if b then Some now else kinds_under n q) (turned q) in
    record {
      kept = λ q u. kept_under (kinds_under n q) (kinds_under m q) (bytes_eq q o) u t place (was u) now (f q) (λ b. ap (λ l. places_in u (kinds_under n l)) ((bytes_decides q o).0 b) ∙ w u) (p u);
      alone = λ q. some_under (kinds_under n q) (kinds_under m q) (bytes_eq q o) now (f q);
    }

kept_by : (b : Bool) (old new : List ℕ) (place : ℕ) (more : Bool) → more ≡ b → new ≡ (if b then old ++ place ∷ [] else old) → new ≡ old ++ (if more then place ∷ [] else [])
kept_by true old new place more e h = h ∙ ap (λ c. old ++ (if c then place ∷ [] else [])) (sym e)
kept_by false old new place more e h = h ∙ (sym (append-nil old) ∙ ap (λ c. old ++ (if c then place ∷ [] else [])) (sym e))

any_one : {X : Type 0} (p : X → Bool) (xs : List X) (x : X) → list_any p (xs ++ x ∷ []) ≡ (p x || list_any p xs)
any_one p xs x = list_any-append p xs (x ∷ []) ∙ turn (list_any p xs) (p x)
  where
    turn : (a b : Bool) → (a || (b || false)) ≡ (b || a)
    turn true true = refl
    turn true false = refl
    turn false true = refl
    turn false false = refl

-- the next record's place is kept
pub knows_more : (n m : NamePlaces) (rs : List Record) (r : Record) (o : List ℕ) (t place : ℕ) → KnowsPlaces n rs → o ≡ name_path r.owner → t ≡ data_type r.rdata → place ≡ length rs → Puts n o t place m → KnowsPlaces m (rs ++ r ∷ [])
knows_more n m rs r o t place k e f l p = record {
  kept = λ q u.
      let same : stands_under q u r ≡ (bytes_eq q o && (nat_eq u 255 || nat_eq t u)) = ap (λ s. bytes_eq q s && (nat_eq u 255 || nat_eq (data_type r.rdata) u)) (sym e) ∙ ap (λ s. bytes_eq q o && (nat_eq u 255 || nat_eq s u)) (sym f) in
      kept_by (bytes_eq q o && (nat_eq u 255 || nat_eq t u)) (places_under n q u) (places_under m q u) place (stands_under q u r) same (p.kept q u)
      ∙ (ap (λ is. is ++ (if stands_under q u r then place ∷ [] else [])) (k.kept q u)
      ∙ (ap (λ i. places (stands_under q u) rs ++ (if stands_under q u r then i ∷ [] else [])) l ∙ sym (places_more (stands_under q u) rs r)));
  alone = λ q.
      p.alone q ∙ (ap (λ s. bytes_eq q s || is_some (kinds_under n q)) e ∙ (ap (λ b. bytes_eq q (name_path r.owner) || b) (k.alone q) ∙ sym (any_one (is_at q) rs r)));
}

-- ---- what is found under the path of a name

stands_asked : (name : List (List ℕ)) (t : ℕ) (r : Record) → stands_under (name_path name) t r ≡ is_asked name t r
stands_asked name t r = ap (λ b. b && (nat_eq t 255 || is_of t r)) (nat_list_eq_equiv.symm (name_path name) (name_path r.owner) ∙ path_same r.owner name)

-- the places that are kept under the path of a name are those of its records
pub places_asked : (n : NamePlaces) (rs : List Record) (o : List ℕ) (name : List (List ℕ)) (t : ℕ) → KnowsPlaces n rs → o ≡ name_path name → places_under n o t ≡ places (is_asked name t) rs
places_asked n rs o name t k e = ap (λ p. places_under n p t) e ∙ (k.kept (name_path name) t ∙ places_agree (stands_under (name_path name) t) (is_asked name t) (stands_asked name t) rs 0)

-- ---- whether a path that is kept begins with octets

pub any_weaker : {X : Type 0} (p q : X → Bool) → ((x : X) → p x ≡ true → q x ≡ true) → (xs : List X) → list_any p xs ≡ true → list_any q xs ≡ true
any_weaker p q w [] h = h
any_weaker p q w (x ∷ xs) h = by_test (p x) (q x) (list_any p xs) (list_any q xs) (w x) (any_weaker p q w xs) h
  where
    by_test : (a b c d : Bool) → (a ≡ true → b ≡ true) → (c ≡ true → d ≡ true) → (a || c) ≡ true → (b || d) ≡ true
    by_test true b c d f g h = ap (λ x. x || d) (f refl)
    by_test false true c d f g h = refl
    by_test false false c d f g h = g h

-- an element that passes a test, by which each test that it passes is passed
pub record Passes {X : Type 0} (p : X → Bool) (xs : List X) : Type 0 where
  pub it : X
  pub passes : p it ≡ true
  pub among : (q : X → Bool) → q it ≡ true → list_any q xs ≡ true

passing_by : {X : Type 0} (p : X → Bool) (x : X) (xs : List X) (b : Bool) → p x ≡ b → (list_any p xs ≡ true → Passes p xs) → (b || list_any p xs) ≡ true → Passes p (x ∷ xs)
passing_by p x xs true e ih h = record { it = x; passes = e; among = λ q t. ap (λ c. c || list_any q xs) t }
passing_by p x xs false e ih h =
    let f = ih h in
    record { it = f.it; passes = f.passes; among = λ q t. either (q x) (list_any q xs) (f.among q t) }
  where
    either : (a b : Bool) → b ≡ true → (a || b) ≡ true
    either true b h = refl
    either false b h = h

pub passing : {X : Type 0} (p : X → Bool) (xs : List X) → list_any p xs ≡ true → Passes p xs
passing p [] h = absurd (cc)
passing p (x ∷ xs) h = passing_by p x xs (p x) refl (passing p xs) h

bytes_same : (a : List ℕ) → bytes_eq a a ≡ true
bytes_same a = (bytes_decides a a).1 refl

abbrev pub IsFrom : NamePlaces → Vec ℕ Global → List (Vec ℕ Global × Kinds) → Type 0
IsFrom n o range = IsRangeOf (λ (a b : Vec ℕ Global). slice_cmp nat_cmp a.items b.items) (Included o) Unbounded n.kinds range

module _ (n : NamePlaces) (rs : List Record) (o : Vec ℕ Global) (k : KnowsPlaces n rs) where
  -- a key of the map, if a record's path begins with octets
  key_behind : list_any (begins_at o.items) rs ≡ true → (q : Vec ℕ Global) × (starts_with ◌==◌ q.items o.items ≡ true) × (is_some (kinds_under n q.items) ≡ true)
  key_behind h =
      let r = passing (begins_at o.items) rs h in
      let p = name_path r.it.owner in
      let s : is_some (kinds_under n p) ≡ true = k.alone p ∙ r.among (is_at p) (bytes_same p) in
      let f = found_key (finds (λ (x : Vec ℕ Global). slice_cmp nat_cmp p x.items)) n.kinds.entries s in
      let e : p ≡ f.0.items = (bytes_decides p f.0.items).0 (sym (is_eq-slice_cmp p f.0.items) ∙ f.1) in
      (f.0, ap (λ l. starts_with ◌==◌ l o.items) (sym e) ∙ r.passes, ap (λ l. is_some (kinds_under n l)) (sym e) ∙ s)

  in_range : (q : Vec ℕ Global) → starts_with ◌==◌ q.items o.items ≡ true → IsInRange (λ (a b : Vec ℕ Global). slice_cmp nat_cmp a.items b.items) (Included o) Unbounded q
  in_range q h = (begins_behind o.items q.items h, tt)

  pub none_behind : (range : List (Vec ℕ Global × Kinds)) → IsFrom n o range → range ≡ [] → false ≡ list_any (begins_at o.items) rs
  none_behind range f e = by_answer (list_any (begins_at o.items) rs) refl
    where
      by_answer : (b : Bool) → list_any (begins_at o.items) rs ≡ b → false ≡ b
      by_answer true h =
          let q = key_behind h in
          let x : is_some (kinds_under n q.0.items) ≡ false = ap is_some (f.5 e q.0 (in_range q.0 q.1)) in
          absurd (cc)
      by_answer false h = refl

  pub first_behind : (range rest : List (Vec ℕ Global × Kinds)) (key : Vec ℕ Global) (kinds : Kinds) → IsFrom n o range → range ≡ (key, kinds) ∷ rest → starts_with ◌==◌ key.items o.items ≡ list_any (begins_at o.items) rs
  first_behind range rest key kinds f e =
      let at = subst (λ (l : List (Vec ℕ Global × Kinds)). IfSome (slice_get l 0) (IsEntryInRange (λ (a b : Vec ℕ Global). slice_cmp nat_cmp a.items b.items) (Included o) Unbounded n.kinds)) e f.1 in
      let there : starts_with ◌==◌ key.items o.items ≡ true → list_any (begins_at o.items) rs ≡ true = λ h.
      any_weaker (is_at key.items) (begins_at o.items) (λ r t. ap (λ l. starts_with ◌==◌ l o.items) (sym ((bytes_decides key.items (name_path r.owner)).0 t)) ∙ h) rs
      (sym (k.alone key.items) ∙ ap is_some at.1)
      in
      let back : list_any (begins_at o.items) rs ≡ true → starts_with ◌==◌ key.items o.items ≡ true = λ h.
      let q = key_behind h in
      let least = subst (λ (l : List (Vec ℕ Global × Kinds)). IfSome (slice_get l 0) (λ (x : Vec ℕ Global × Kinds). is_gt (slice_cmp nat_cmp x.0.items q.0.items) ≡ false)) e (f.2 q.0 (in_range q.0 q.1) q.2) in
      begins_between o.items key.items q.0.items at.0.0 least q.1
      in
      both_ways _ _ there back

-- whether the path of a record's owner begins with the path of a name
pub behind_name : (rs : List Record) (o : List ℕ) (name : List (List ℕ)) → o ≡ name_path name → list_any (begins_at o) rs ≡ list_any (λ (r : Record). ends_name r.owner name) rs
behind_name [] o name e = refl
behind_name (r ∷ rs) o name e = ap (λ b. b || list_any (begins_at o) rs) (ap (λ l. starts_with ◌==◌ (name_path r.owner) l) e ∙ path_begins r.owner name) ∙ ap (λ b. ends_name r.owner name || b) (behind_name rs o name e)

-- the places of one record more
pub next_known : (n m : NamePlaces) (rs : List Record) (i : ℕ) (r : Record) (o : List ℕ) (t : ℕ) → KnowsPlaces n (take i rs) → i < length rs → r ≡ get_or rs i r → o ≡ name_path r.owner → t ≡ data_type r.rdata → Puts n o t i m → KnowsPlaces m (take (i + 1) rs)
next_known n m rs i r o t k h is e f p =
    let s : take (i + 1) rs ≡ take i rs ++ r ∷ [] = take_more rs i r h ∙ ap (λ x. take i rs ++ x ∷ []) (sym is) in
    subst (KnowsPlaces m) (sym s) (knows_more n m (take i rs) r o t i k e f (sym (length-take-le i rs (omega arith))) p)

-- the records that a name owns, by what is kept under its path
pub owned_of : (n : NamePlaces) (rs : List Record) (o : List ℕ) (name : List (List ℕ)) (t : ℕ) (r : Option (Bor (List ℕ))) → KnowsPlaces n rs → o ≡ name_path name →
    MatchOption r (places_under n o t ≡ []) (λ s. (s.now ≡ places_under n o t) × (0 < length s.now)) → MatchOption r (list_any (is_asked name t) rs ≡ false) (λ s. (list_any (is_asked name t) rs ≡ true) × (s.now ≡ places (is_asked name t) rs))
owned_of n rs o name t None k e h = places_none (is_asked name t) rs (sym (places_asked n rs o name t k e) ∙ h)
owned_of n rs o name t (Some s) k e h =
    let f : s.now ≡ places (is_asked name t) rs = h.0 ∙ places_asked n rs o name t k e in
    (places_some (is_asked name t) rs (omega (arith, h.1, ap length f)), f)

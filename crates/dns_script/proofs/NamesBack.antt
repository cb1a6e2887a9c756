-- A name that was read is spelled as it was read.
use Rattle.std.proofs.Common.{◌≡◌, ℕ, zero, suc, ◌+◌, ◌-◌, ◌<◌, ◌≤◌, Bool, true, false, ◌&&◌, List, [], ◌∷◌, ◌++◌, length, length-append, refl, ap, sym, ◌∙◌, arith, append_assoc, append-nil}
use Rattle.std.specs.Prelude.{Ok, Err, Result, not, nat_eq, nat_lt, codes, flat_map, if◌then◌else◌}
use Rattle.std.specs.Int.{is_in_range}
use Rattle.std.specs.List.{list_all}
use Rattle.std.proofs.lemmas.Bool.{and_parts, false≢true}
use Rattle.std.proofs.lemmas.Bool.Decides.{nat_tests}
use Rattle.std.proofs.lemmas.List.Elements.{All-weaker}
use Rattle.std.proofs.lemmas.List.Folds.{list_all-append}
use Rattle.std.proofs.lemmas.List.Sums.{AllPass-from_list_all, list_all-from_AllPass}
use Rattle.dns_name.specs.FromText.{Front, before_labels, before_octets, by_label, by_octet, ends_label, first_octet, fitting, is_dot, label_octets, labels_up_to, octets_up_to, text_labels, text_name}
use Rattle.dns_name.specs.Labels.{FitBehind, IsName, spell}
use Rattle.dns_name.specs.declared.from_text.FromTextError.{FromTextError}
use Rattle.dns_name.specs.declared.from_text.FromTextError.TheVariants.{EmptyLabel, LongLabel, LongName}
use Rattle.dns_trace.proofs.Joined.{IsWord}
use Rattle.dns_trace.specs.NameWords.{ends_in_dot, from_name, is_name_character, name_word}
use Rattle.dns_trace.specs.declared.reason.Reason.{Reason}
use Rattle.dns_trace.specs.declared.reason.Reason.TheVariants.{Value}
use Rattle.dns_script.proofs.ReadRange.{same_ok}
use Rattle.dns_script.specs.Spelled.{spelled_name}

-- ---- characters

abbrev AreNameCharacters : List ℕ → Type 0
AreNameCharacters w = list_all is_name_character w ≡ true

abbrev not_dot : ℕ → Bool
not_dot c = not (nat_eq c 46)

no_escape : (c : ℕ) → is_name_character c ≡ true → nat_eq c 92 ≡ false
no_escape c h = grind (arith, nat_tests)

printing : (c : ℕ) → is_name_character c ≡ true → is_in_range 33 126 c ≡ true
printing c h = grind (arith, nat_tests)

itself : (x : ℕ) (rest : List ℕ) → is_name_character x ≡ true → first_octet (x ∷ rest) ≡ Ok (x, rest)
itself x rest h = rw (no_escape x h, printing x h) refl

is_dot_octet : (c : ℕ) → nat_eq c 46 ≡ true → c ≡ 46
is_dot_octet c h = grind (arith, nat_tests)

-- ---- a label

-- a text is a label without dots and what is after it, which a dot begins
record Label (t l rest : List ℕ) : Type 0 where
  parts : t ≡ l ++ rest
  ends : ends_label rest ≡ true
  undotted : list_all not_dot l ≡ true

abbrev IsFront : List ℕ → Front (List ℕ) → Type 0
IsFront t (Ok (l, rest)) = Label t l rest
IsFront t (Err e) = Unit {0}

one_more : (x : ℕ) (t : List ℕ) (front : Front (List ℕ)) → nat_eq x 46 ≡ false → IsFront t front → IsFront (x ∷ t) (before_octets (x ∷ []) front)
one_more x t (Ok (l, rest)) dot h = record {
  parts = ap (λ q. x ∷ q) h.parts;
  ends = h.ends;
  undotted = rw (dot, h.undotted) refl;
}
one_more x t (Err e) dot h = tt

module _ (go : List ℕ → Front (List ℕ)) (goes : (t : List ℕ) → AreNameCharacters t → IsFront t (go t)) where
  by_dot : (x : ℕ) (t : List ℕ) (b : Bool) → nat_eq x 46 ≡ b → is_name_character x ≡ true → AreNameCharacters t
      → IsFront (x ∷ t) (if b then Ok ([], x ∷ t) else by_octet go (first_octet (x ∷ t)))
  by_dot x t true e here h = record { parts = refl; ends = e; undotted = refl }
  by_dot x t false e here h = rw (itself x t here) (one_more x t (go t) e (goes t h))

  front_of : (t : List ℕ) → AreNameCharacters t → IsFront t (if ends_label t then Ok ([], t) else by_octet go (first_octet t))
  front_of [] h = record { parts = refl; ends = refl; undotted = refl }
  front_of (x ∷ t) h =
      let all = and_parts (is_name_character x) (list_all is_name_character t) h in
      by_dot x t (nat_eq x 46) refl all.0 all.1

label_front : (k : ℕ) (t : List ℕ) → AreNameCharacters t → IsFront t (octets_up_to k t)
label_front zero t h = front_of (λ _. Err LongLabel) (λ r a. tt) t h
label_front (suc k) t h = front_of (octets_up_to k) (label_front k) t h

-- ---- where a text ends

flipped : (b : Bool) → (not b && true) ≡ true → b ≡ false
flipped true h = absurd (false≢true h)
flipped false h = refl

same_last : (x y : ℕ) (l : List ℕ) → ends_in_dot (x ∷ y ∷ l) ≡ ends_in_dot (y ∷ l)
same_last x y l = let e : length (x ∷ y ∷ l) - 1 ≡ suc (length (y ∷ l) - 1) = omega arith in rw e refl

undotted_end : (l : List ℕ) → list_all not_dot l ≡ true → ends_in_dot l ≡ false
undotted_end [] h = refl
undotted_end (x ∷ []) h = flipped (nat_eq x 46) h
undotted_end (x ∷ y ∷ l) h = same_last x y l ∙ undotted_end (y ∷ l) (and_parts (not_dot x) (list_all not_dot (y ∷ l)) h).1

same_end : (l : List ℕ) (x : ℕ) (rest : List ℕ) → ends_in_dot (l ++ (x ∷ rest)) ≡ ends_in_dot (x ∷ rest)
same_end [] x rest = refl
same_end (y ∷ []) x rest = same_last y x rest
same_end (y ∷ z ∷ l) x rest = same_last y z (l ++ (x ∷ rest)) ∙ same_end (z ∷ l) x rest

-- ---- the labels

abbrev dotted : List ℕ → List ℕ
dotted label = label ++ codes "."

abbrev IsSpelled : List ℕ → Result (List (List ℕ)) FromTextError → Type 0
IsSpelled t (Ok ls) = flat_map dotted ls ≡ t
IsSpelled t (Err e) = Unit {0}

in_front : (l t : List ℕ) (read : Result (List (List ℕ)) FromTextError) → IsSpelled t read → IsSpelled (dotted l ++ t) (before_labels l read)
in_front l t (Ok ls) h = ap (λ q. dotted l ++ q) h
in_front l t (Err e) h = tt

module _ (go : ℕ → List ℕ → Result (List (List ℕ)) FromTextError) (goes : (size : ℕ) (t : List ℕ) → AreNameCharacters t → ends_in_dot t ≡ true → IsSpelled t (go size t)) where
  by_rest : (size : ℕ) (t l rest : List ℕ) → AreNameCharacters t → ends_in_dot t ≡ true → Label t l rest → IsSpelled t (by_label go size (Ok (l, rest)))
  by_rest size t l [] all end h =
      let whole : t ≡ l = h.parts ∙ append-nil l in
      absurd (false≢true (sym (undotted_end l h.undotted) ∙ ap ends_in_dot (sym whole) ∙ end))
  by_rest size t l (dot ∷ []) all end h =
      let is : dot ≡ 46 = is_dot_octet dot h.ends in
      append-nil (dotted l) ∙ ap (λ c. l ++ (c ∷ [])) (sym is) ∙ sym h.parts
  by_rest size t l (dot ∷ c ∷ rest) all end h =
      let is : dot ≡ 46 = is_dot_octet dot h.ends in
      let whole : dotted l ++ (c ∷ rest) ≡ t = append_assoc l (codes ".") (c ∷ rest) ∙ ap (λ d. l ++ (d ∷ c ∷ rest)) (sym is) ∙ sym h.parts in
      let each = and_parts (list_all is_name_character l) (list_all is_name_character (dot ∷ c ∷ rest)) (sym (list_all-append is_name_character l (dot ∷ c ∷ rest)) ∙ ap (list_all is_name_character) (sym h.parts) ∙ all) in
      let behind = (and_parts (is_name_character dot) (list_all is_name_character (c ∷ rest)) each.1).1 in
      let ends : ends_in_dot (c ∷ rest) ≡ true = sym (same_end (dot ∷ []) c rest) ∙ sym (same_end l dot (c ∷ rest)) ∙ ap ends_in_dot (sym h.parts) ∙ end in
      rw whole at (in_front l (c ∷ rest) (go (size + length l + 1) (c ∷ rest)) (goes (size + length l + 1) (c ∷ rest) behind ends))

  by_bounds : (a b : Bool) (size : ℕ) (t l rest : List ℕ) → AreNameCharacters t → ends_in_dot t ≡ true → Label t l rest
      → IsSpelled t (by_label go size (if a then Err EmptyLabel else (if b then Err LongName else Ok (l, rest))))
  by_bounds true b size t l rest all end h = tt
  by_bounds false true size t l rest all end h = tt
  by_bounds false false size t l rest all end h = by_rest size t l rest all end h

  by_front : (size : ℕ) (t : List ℕ) (front : Front (List ℕ)) → AreNameCharacters t → ends_in_dot t ≡ true → IsFront t front → IsSpelled t (by_label go size (fitting size front))
  by_front size t (Ok (l, rest)) all end h = by_bounds _ _ size t l rest all end h
  by_front size t (Err e) all end h = tt

labels_spelled : (k size : ℕ) (t : List ℕ) → AreNameCharacters t → ends_in_dot t ≡ true → IsSpelled t (labels_up_to k size t)
unfolding label_octets
labels_spelled zero size t all end = tt
labels_spelled (suc k) size t all end = by_front (labels_up_to k) (labels_spelled k) size t (label_octets t) all end (label_front 63 t all)

-- ---- the name

read_spelled : (t : List ℕ) (read : Result (List (List ℕ)) FromTextError) (n : List (List ℕ)) → ends_in_dot t ≡ true → IsSpelled t read → from_name read ≡ Ok n → spelled_name n ≡ t
read_spelled t (Ok []) n end h e = absurd (false≢true (ap ends_in_dot h ∙ end))
read_spelled t (Ok (l ∷ ls)) n end h e = let same : l ∷ ls ≡ n = same_ok (from_name (Ok (l ∷ ls))) (l ∷ ls) n refl e in rw (← same) h
read_spelled t (Err x) n end h e = cc e

is_root : (t : List ℕ) → is_dot t ≡ true → t ≡ codes "."
is_root [] e = absurd (false≢true e)
is_root (x ∷ []) e = ap (λ c. c ∷ []) (is_dot_octet x e)
is_root (x ∷ y ∷ t) e = absurd (false≢true e)

by_root : (b : Bool) (t : List ℕ) (n : List (List ℕ)) → is_dot t ≡ b → AreNameCharacters t → ends_in_dot t ≡ true → from_name (if b then Ok [] else text_labels t) ≡ Ok n → spelled_name n ≡ t
unfolding text_labels
by_root true t n dot all end e = let root : [] ≡ n = same_ok (from_name (Ok [])) [] n refl e in rw (← root) (sym (is_root t dot))
by_root false t n dot all end e = read_spelled t (text_labels t) n end (labels_spelled 128 0 t all end) e

by_test : (b : Bool) (t : List ℕ) (n : List (List ℕ)) → (ends_in_dot t && list_all is_name_character t) ≡ b → (if b then from_name (text_name t) else Err Value) ≡ Ok n → spelled_name n ≡ t
by_test true t n test e =
    let parts = and_parts (ends_in_dot t) (list_all is_name_character t) test in
    by_root (is_dot t) t n refl parts.1 parts.0 e
by_test false t n test e = cc e

pub spelled_as_read : (w : List ℕ) (n : List (List ℕ)) → name_word w ≡ Ok n → spelled_name n ≡ w
unfolding name_word
spelled_as_read w n e = by_test (ends_in_dot w && list_all is_name_character w) w n refl e

-- ---- the word

test_holds : (b : Bool) (read : Result (List (List ℕ)) Reason) (n : List (List ℕ)) → (if b then read else Err Value) ≡ Ok n → b ≡ true
test_holds true read n e = refl
test_holds false read n e = cc e

characters_of : (w : List ℕ) (n : List (List ℕ)) → name_word w ≡ Ok n → (ends_in_dot w ≡ true) × (AreNameCharacters w)
unfolding name_word
characters_of w n e = and_parts (ends_in_dot w) (list_all is_name_character w) (test_holds (ends_in_dot w && list_all is_name_character w) (from_name (text_name w)) n e)

visible_at : (c : ℕ) → is_name_character c ≡ true → is_in_range 33 126 c ≡ true
visible_at c h = grind (arith, nat_tests)

some_octet : (w : List ℕ) → ends_in_dot w ≡ true → 0 < length w
some_octet [] e = absurd (false≢true e)
some_octet (c ∷ w) e = omega arith

word_of_name : (w : List ℕ) → ends_in_dot w ≡ true → AreNameCharacters w → IsWord w
word_of_name w end all = record {
  some = some_octet w end;
  visible = record {
    within =
        list_all-from_AllPass (is_in_range 33 126) w
        (All-weaker (λ c. is_name_character c ≡ true) (λ c. is_in_range 33 126 c ≡ true) visible_at w (AllPass-from_list_all is_name_character w all));
  };
}

-- a name that is spelled so that it reads back
pub record IsReadName (n : List (List ℕ)) : Type 0 where
  pub word : IsWord (spelled_name n)
  pub reads : name_word (spelled_name n) ≡ Ok n
  pub ends : ends_in_dot (spelled_name n) ≡ true

pub name_reads : (w : List ℕ) (n : List (List ℕ)) → name_word w ≡ Ok n → IsReadName n
name_reads w n e =
    let same : w ≡ spelled_name n = sym (spelled_as_read w n e) in
    let characters = characters_of w n e in
    record {
      word = rw same at (word_of_name w characters.0 characters.1);
      reads = rw same at e;
      ends = rw same at characters.0;
    }

-- ---- the bounds of a name

IsShort : ℕ → Front (List ℕ) → Type 0
IsShort k (Ok (l, rest)) = length l ≤ k
IsShort k (Err e) = Unit {0}

one_longer : (x k : ℕ) (front : Front (List ℕ)) → IsShort k front → IsShort (suc k) (before_octets (x ∷ []) front)
unfolding IsShort
one_longer x k (Ok (l, rest)) h = omega (arith, h)
one_longer x k (Err e) h = tt

at_end : (b : Bool) (k : ℕ) (t : List ℕ) (front : Front (List ℕ)) → IsShort k front → IsShort k (if b then Ok ([], t) else front)
unfolding IsShort
at_end true k t front h = omega arith
at_end false k t front h = h

none_longer : (f : Front ℕ) → IsShort zero (by_octet (λ _. Err LongLabel) f)
unfolding IsShort
none_longer (Ok (b, rest)) = tt
none_longer (Err e) = tt

octet_longer : (k : ℕ) (f : Front ℕ) → ((t : List ℕ) → IsShort k (octets_up_to k t)) → IsShort (suc k) (by_octet (octets_up_to k) f)
unfolding IsShort
octet_longer k (Ok (b, rest)) h = one_longer b k (octets_up_to k rest) (h rest)
octet_longer k (Err e) h = tt

short_label : (k : ℕ) (t : List ℕ) → IsShort k (octets_up_to k t)
short_label zero t = at_end (ends_label t) zero t _ (none_longer (first_octet t))
short_label (suc k) t = at_end (ends_label t) (suc k) t _ (octet_longer k (first_octet t) (short_label k))

-- labels that fit after others
IsFitting : ℕ → Result (List (List ℕ)) FromTextError → Type 0
IsFitting size (Ok ls) = FitBehind size ls
IsFitting size (Err e) = Unit {0}

-- a label of at least one octet and few, which has room
record HasRoom (size : ℕ) (l : List ℕ) : Type 0 where
  some : 0 < length l
  few : length l < 64
  room : size + length l + 2 ≤ 255

last_fits : (size : ℕ) (l : List ℕ) → HasRoom size l → FitBehind size (l ∷ [])
last_fits size l h = record {
  labels = (h.some, h.few, tt);
  room = let e = length-append l (0 ∷ []) in omega (arith, h.room, e);
}

front_fits : (size : ℕ) (l : List ℕ) (read : Result (List (List ℕ)) FromTextError) → HasRoom size l → IsFitting (size + length l + 1) read → IsFitting size (before_labels l read)
unfolding IsFitting
front_fits size l (Ok ls) h k = record {
  labels = (h.some, h.few, k.labels);
  room = let e = length-append l (spell ls) in omega (arith, k.room, e);
}
front_fits size l (Err e) h k = tt

rest_fits : (k size : ℕ) (l rest : List ℕ) → HasRoom size l → ((n : ℕ) (t : List ℕ) → IsFitting n (labels_up_to k n t)) → IsFitting size (by_label (labels_up_to k) size (Ok (l, rest)))
unfolding IsFitting
rest_fits k size l [] h g = last_fits size l h
rest_fits k size l (dot ∷ []) h g = last_fits size l h
rest_fits k size l (dot ∷ c ∷ rest) h g = front_fits size l (labels_up_to k (size + length l + 1) (c ∷ rest)) h (g (size + length l + 1) (c ∷ rest))

bounds_fit : (a b : Bool) (k size : ℕ) (l rest : List ℕ) → nat_eq (length l) 0 ≡ a → nat_lt 255 (size + length l + 2) ≡ b → length l < 64 → ((n : ℕ) (t : List ℕ) → IsFitting n (labels_up_to k n t))
    → IsFitting size (by_label (labels_up_to k) size (if a then Err EmptyLabel else (if b then Err LongName else Ok (l, rest))))
unfolding IsFitting
bounds_fit true b k size l rest ea eb few g = tt
bounds_fit false true k size l rest ea eb few g = tt
bounds_fit false false k size l rest ea eb few g =
    rest_fits k size l rest (record { some = grind (arith, nat_tests); few = few; room = grind (arith, nat_tests) }) g

label_fits : (k size : ℕ) (front : Front (List ℕ)) → IsShort 63 front → ((n : ℕ) (t : List ℕ) → IsFitting n (labels_up_to k n t)) → IsFitting size (by_label (labels_up_to k) size (fitting size front))
unfolding IsFitting IsShort
label_fits k size (Ok (l, rest)) h g = bounds_fit _ _ k size l rest refl refl (omega (arith, h)) g
label_fits k size (Err e) h g = tt

labels_fit : (k size : ℕ) (t : List ℕ) → IsFitting size (labels_up_to k size t)
unfolding IsFitting label_octets
labels_fit zero size t = tt
labels_fit (suc k) size t = label_fits k size (label_octets t) (short_label 63 t) (labels_fit k)

fits_read : (read : Result (List (List ℕ)) FromTextError) (n : List (List ℕ)) → IsFitting 0 read → from_name read ≡ Ok n → IsName n
unfolding IsFitting
fits_read (Ok ls) n h e = let same : ls ≡ n = same_ok (from_name (Ok ls)) ls n refl e in rw (← same) h
fits_read (Err x) n h e = cc e

by_dot_alone : (b : Bool) (t : List ℕ) (n : List (List ℕ)) → from_name (if b then Ok [] else text_labels t) ≡ Ok n → IsName n
unfolding text_labels IsFitting
by_dot_alone true t n e = fits_read (Ok []) n (record { labels = tt; room = omega arith }) e
by_dot_alone false t n e = fits_read (text_labels t) n (labels_fit 128 0 t) e

tested_name : (b : Bool) (t : List ℕ) (n : List (List ℕ)) → (if b then from_name (text_name t) else Err Value) ≡ Ok n → IsName n
tested_name true t n e = by_dot_alone (is_dot t) t n e
tested_name false t n e = cc e

pub read_is_name : (w : List ℕ) (n : List (List ℕ)) → name_word w ≡ Ok n → IsName n
unfolding name_word
read_is_name w n e = tested_name (ends_in_dot w && list_all is_name_character w) w n e

-- What is read of a zone file alone is read of it among others.
use Rattle.std.proofs.Common.{◌≡◌, ℕ, ◌+◌, List, [], ◌∷◌, Bool, true, false, Ok, Err, refl, ap, ◌∙◌}
use Rattle.dns_entries.specs.Entries.{after_octet, scan_begins}
use Rattle.dns_entries.specs.Reading.{LineRead, ◌>>=◌}
use Rattle.dns_entries.specs.declared.scan.Scan.{Scan}
use Rattle.dns_message.specs.declared.record.Record.{Record}
use Rattle.dns_zone_file.specs.ZoneFile.{ZoneDraft, after_entry, closed, draft_begun, step, steps, zone_file, by_entry as by_entry_alone}
use Rattle.dns_zone_include.specs.Including.{Included, Texts, by_entry, entry_of, included, octet_of, octets_of, text_of, zone_including}
use Rattle.dns_zone_include.specs.Refusals.{TextRead, in_text}
use Rattle.dns_zone_include.specs.declared.level.TheConstants.{MOST_LEVELS}
use Rattle.dns_zone_include.proofs.Entries.{entry_taken}

abbrev GivesAlone : {A : Type 0} → LineRead A → A → Type 0
GivesAlone r q = r ≡ Ok q

abbrev GivesHere : {A : Type 0} → TextRead A → A → Type 0
GivesHere t q = t ≡ Ok q

-- what goes on with what is read
on : {A B : Type 0} (r : LineRead A) (t : TextRead A) (f : A → LineRead B) (g : A → TextRead B) (q : B)
    → ((a : A) → GivesAlone r a → GivesHere t a) → ((a : A) → GivesAlone (f a) q → GivesHere (g a) q) → GivesAlone (r >>= f) q → GivesHere (t >>= g) q
on (Ok a) t f g q first next h = ap (λ (u : TextRead _). u >>= g) (first a refl) ∙ next a h
on (Err e) t f g q first next h = cc

same_ok : {A : Type 0} (a q : A) → GivesAlone (Ok a) q → GivesHere (Ok a) q
same_ok a q h = cc

after_scan : (name : List ℕ) (include : Included) (d : ZoneDraft) (x : Scan) (b : Bool) (q : Scan × ZoneDraft) → GivesAlone (by_entry_alone d (x, b)) q → GivesHere (by_entry name include d (x, b)) q
after_scan name include d x true q h =
    let f : ZoneDraft → LineRead (Scan × ZoneDraft) = λ e. Ok (scan_begins (x.line + 1), e) in
    let g : ZoneDraft → TextRead (Scan × ZoneDraft) = λ e. Ok (scan_begins (x.line + 1), e) in
    on (after_entry d x.line x.blank x.words) (entry_of name include d x.line x.blank x.words) f g q
    (λ e k. entry_taken name include d e x.line x.blank x.words k) (λ e k. same_ok (scan_begins (x.line + 1), e) q k) h
after_scan name include d x false q h = same_ok (x, d) q h

octet_same : (name : List ℕ) (include : Included) (x : Scan) (d : ZoneDraft) (c : ℕ) (q : Scan × ZoneDraft) → GivesAlone (step x d c) q → GivesHere (octet_of name include x d c) q
octet_same name include x d c q h =
    on (after_octet x c) (in_text name (after_octet x c)) (by_entry_alone d) (by_entry name include d) q (λ s k. ap (in_text name) k) (λ s k. after_scan name include d s.0 s.1 q k) h

octets_same : (name : List ℕ) (include : Included) (cs : List ℕ) (x : Scan) (d : ZoneDraft) (q : Scan × ZoneDraft) → GivesAlone (steps x d cs) q → GivesHere (octets_of name include x d cs) q
octets_same name include [] x d q h = same_ok (x, d) q h
octets_same name include (c ∷ cs) x d q h =
    let f : Scan × ZoneDraft → LineRead (Scan × ZoneDraft) = λ s. steps s.0 s.1 cs in
    let g : Scan × ZoneDraft → TextRead (Scan × ZoneDraft) = λ s. octets_of name include s.0 s.1 cs in
    on (step x d c) (octet_of name include x d c) f g q (λ s k. octet_same name include x d c s k) (λ s k. octets_same name include cs s.0 s.1 q k) h

-- ---- the records of all

abbrev Begun : Type 0
Begun = Scan × ZoneDraft

abbrev records_here : ZoneDraft → TextRead (List Record)
records_here d = Ok d.records

last_read : (t : Begun) (c : TextRead (Unit {0})) → ((c >>= λ _. Ok t.1) >>= records_here) ≡ (c >>= λ _. records_here t.1)
last_read t (Ok u) = refl
last_read t (Err e) = refl

then_read : (b : TextRead Begun) (c : Begun → TextRead (Unit {0})) → ((b >>= λ t. c t >>= λ _. Ok t.1) >>= records_here) ≡ (b >>= λ t. c t >>= λ _. records_here t.1)
then_read (Ok t) c = last_read t (c t)
then_read (Err e) c = refl

first_read : (a : TextRead Begun) (b : Begun → TextRead Begun) (c : Begun → TextRead (Unit {0}))
    → ((a >>= λ s. b s >>= λ t. c t >>= λ _. Ok t.1) >>= records_here) ≡ (a >>= λ s. b s >>= λ t. c t >>= λ _. records_here t.1)
first_read (Ok s) b c = then_read (b s) c
first_read (Err e) b c = refl

-- the records if no parenthesis is open, and after the last octet
abbrev closed_alone : Begun → LineRead (List Record)
closed_alone t = closed t.0.opened >>= λ _. Ok t.1.records

abbrev closed_here : List ℕ → Begun → TextRead (List Record)
closed_here name t = in_text name (closed t.0.opened) >>= λ _. records_here t.1

abbrev ended_alone : Begun → LineRead (List Record)
ended_alone s = step s.0 s.1 10 >>= closed_alone

abbrev ended_here : List ℕ → Included → Begun → TextRead (List Record)
ended_here name include s = octet_of name include s.0 s.1 10 >>= closed_here name

closed_same : (name : List ℕ) (t : Begun) (rs : List Record) → GivesAlone (closed_alone t) rs → GivesHere (closed_here name t) rs
closed_same name t rs h =
    let f : Unit {0} → LineRead (List Record) = λ _. Ok t.1.records in
    let g : Unit {0} → TextRead (List Record) = λ _. records_here t.1 in
    on (closed t.0.opened) (in_text name (closed t.0.opened)) f g rs (λ u k. ap (in_text name) k) (λ u k. same_ok t.1.records rs k) h

ended_same : (name : List ℕ) (include : Included) (s : Begun) (rs : List Record) → GivesAlone (ended_alone s) rs → GivesHere (ended_here name include s) rs
ended_same name include s rs h =
    on (step s.0 s.1 10) (octet_of name include s.0 s.1 10) closed_alone (closed_here name) rs (λ t k. octet_same name include s.0 s.1 10 t k) (λ t k. closed_same name t rs k) h

pub zone_same : (texts : Texts) (origin : List (List ℕ)) (name text : List ℕ) (rs : List Record) → zone_file origin text ≡ Ok rs → zone_including texts origin name text ≡ Ok rs
unfolding zone_file zone_including text_of
zone_same texts origin name text rs h =
    let include : Included = included texts MOST_LEVELS (name ∷ []) name in
    let a : TextRead Begun = octets_of name include (scan_begins 1) (draft_begun origin) text in
    first_read a (λ s. octet_of name include s.0 s.1 10) (λ t. in_text name (closed t.0.opened))
    ∙ on (steps (scan_begins 1) (draft_begun origin) text) a ended_alone (ended_here name include) rs
    (λ s k. octets_same name include text (scan_begins 1) (draft_begun origin) s k) (λ s k. ended_same name include s rs k) h

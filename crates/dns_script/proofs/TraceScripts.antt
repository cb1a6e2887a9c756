-- A trace says what a script without lines of a service says.
use Rattle.std.proofs.Common.{◌≡◌, ℕ, ◌+◌, ◌==◌, Bool, true, false, ◌||◌, cond, List, [], ◌∷◌, ◌++◌, length, inl, inr, Option, Some, None, refl, ap, sym, ◌∙◌, arith}
use Rattle.std.specs.Prelude.{Err, Ok, Result, codes, slice_index}
use Rattle.std.specs.Str.{bytes_eq}
use Rattle.std.specs.Str.Lines.{lines}
use Rattle.std.proofs.lemmas.Bool.{ne_eqb, or_cases, or_from, or_parts}
use Rattle.std.proofs.lemmas.List.Elements.{All-head, All-tail}
use Rattle.std.proofs.lemmas.Slice.Eq.{bytes_eq-Decides}
use Rattle.dns_events.specs.declared.event.Event.{Event}
use Rattle.dns_trace.specs.EventLines.{event_line}
use Rattle.dns_trace.specs.Lines.{is_skipped, is_text}
use Rattle.dns_trace.specs.Reading.{◌>>=◌, unless}
use Rattle.dns_trace.specs.Said.{Said}
use Rattle.dns_trace.specs.SettingLines.{setting_line, setting_named}
use Rattle.dns_trace.specs.TextLines.{after_line, after_lines, after_words, numbered}
use Rattle.dns_trace.specs.Traced.{TraceSaid, next_event, next_said, next_setting, nothing_traced, trace_line, traced, whole_trace}
use Rattle.dns_trace.specs.Words.{word_at, words_of}
use Rattle.dns_trace.specs.declared.reason.Reason.{Reason}
use Rattle.dns_trace.specs.declared.reason.Reason.TheVariants.{Text, Word}
use Rattle.dns_trace.specs.declared.setting.Setting.{Setting}
use Rattle.dns_script.specs.Draft.{Draft, empty_draft, finished}
use Rattle.dns_script.specs.Plan.{Plan, empty_plan}
use Rattle.dns_script.specs.Script.{every_word, next_event_line, next_line, next_setting_line, of_plan, plan_line, said_line, script, service_line, zone_number}
use Rattle.dns_script.specs.Scripts.{event_script}
use Rattle.dns_script.specs.TraceScript.{AreNoServices, is_service_line, is_service_word, refused_behind, script_lines, script_trace, service_reason}

-- what a trace says of what a script says
abbrev pub traced_of : Plan Event → TraceSaid
traced_of p = record { settings = p.said; events = p.events }

abbrev pub of_read : {X : Type 0} → Result (Plan Event) X → Result TraceSaid X
of_read (Ok p) = Ok (traced_of p)
of_read (Err e) = Err e

setting_same : (p : Plan Event) (r : Result Said Reason)
    → (r >>= λ s. Ok (record (traced_of p) { settings = s })) ≡ of_read (r >>= λ s. Ok (record p { said = s }))
setting_same p (Ok s) = refl
setting_same p (Err e) = refl

event_same : (p : Plan Event) (r : Result Event Reason)
    → (r >>= λ e. Ok (record (traced_of p) { events = p.events ++ e ∷ [] })) ≡ of_read (r >>= λ e. Ok (record p { events = p.events ++ e ∷ [] }))
event_same p (Ok e) = refl
event_same p (Err e) = refl

pub next_same : (o : Option Setting) (p : Plan Event) (ws : List (List ℕ)) → next_said o (traced_of p) ws ≡ of_read (next_line every_word event_line o p ws)
unfolding next_setting next_setting_line next_event next_event_line
next_same (Some setting) p ws = setting_same p (setting_line setting (length p.events == 0) p.said ws)
next_same None p ws = event_same p (event_line ws)

-- the line of a setting or of an event
abbrev pub plain_line : Plan Event → List (List ℕ) → Result (Plan Event) Reason
plain_line p ws = next_line every_word event_line (setting_named (word_at ws 0)) p ws

-- a line that is none of a service, of a target or of a zone
pub said_plainly : (d : Draft Event) (ws : List (List ℕ)) → is_service_word (word_at ws 0) ≡ false → said_line every_word event_line d ws ≡ of_plan d (plain_line d.plan ws)
unfolding said_line service_line plan_line
said_plainly d ws h =
    let w = word_at ws 0 in
    let first = or_parts (bytes_eq w (codes "rule")) (bytes_eq w (codes "notify") || (bytes_eq w (codes "upstream") || (bytes_eq w (codes "zone") || bytes_eq w (codes "record")))) h in
    let second = or_parts (bytes_eq w (codes "notify")) (bytes_eq w (codes "upstream") || (bytes_eq w (codes "zone") || bytes_eq w (codes "record"))) first.1 in
    let third = or_parts (bytes_eq w (codes "upstream")) (bytes_eq w (codes "zone") || bytes_eq w (codes "record")) second.1 in
    let fourth = or_parts (bytes_eq w (codes "zone")) (bytes_eq w (codes "record")) third.1 in
    rw (first.0, second.0, third.0, fourth.0, fourth.1) refl

-- a draft of plans alone
abbrev drafted : {X : Type 0} → Draft Event → Result (Plan Event) X → Result (Draft Event) X
drafted d r = r >>= λ p. Ok (record d { plan = p })

words_drafted : (skipped text : Bool) (d : Draft Event) (x : Result (Draft Event) Reason) (y : Result (Plan Event) Reason) → x ≡ drafted d y
    → cond skipped (Ok d) (unless Text text >>= λ _. x) ≡ drafted d (cond skipped (Ok d.plan) (unless Text text >>= λ _. y))
words_drafted true text d x y h = refl
words_drafted false true d x y h = h
words_drafted false false d x y h = refl

line_drafted : (d : Draft Event) (l : List ℕ) → is_service_line l ≡ false → after_line (said_line every_word event_line) d l ≡ drafted d (after_line plain_line d.plan l)
unfolding after_words
line_drafted d l h = words_drafted (is_skipped (words_of l)) (is_text l) d (said_line every_word event_line d (words_of l)) (plain_line d.plan (words_of l)) (said_plainly d (words_of l) h)

then_drafted : (n : ℕ) (d : Draft Event) (r : Result (Plan Event) Reason) (f : Draft Event → Result (Draft Event) (ℕ × Reason)) (g : Plan Event → Result (Plan Event) (ℕ × Reason))
    → ((p : Plan Event) → f (record d { plan = p }) ≡ drafted d (g p)) → (numbered n (drafted d r) >>= f) ≡ drafted d (numbered n r >>= g)
then_drafted n d (Ok p) f g h = h p
then_drafted n d (Err e) f g h = refl

lines_drafted : (ls : List (List ℕ)) (n : ℕ) (d : Draft Event) → AreNoServices ls
    → after_lines (said_line every_word event_line) n d ls ≡ drafted d (after_lines plain_line n d.plan ls)
lines_drafted [] n d h = refl
lines_drafted (l ∷ ls) n d h =
    rw (line_drafted d l (All-head (λ x. is_service_line x ≡ false) l ls h))
    (then_drafted n d (after_line plain_line d.plan l) (λ e. after_lines (said_line every_word event_line) (n + 1) e ls) (λ p. after_lines plain_line (n + 1) p ls)
    (λ p. lines_drafted ls (n + 1) (record d { plan = p }) (All-tail (λ x. is_service_line x ≡ false) l ls h)))

words_same : (skipped text : Bool) (p : Plan Event) (x : Result (Plan Event) Reason) (y : Result TraceSaid Reason) → y ≡ of_read x
    → cond skipped (Ok (traced_of p)) (unless Text text >>= λ _. y) ≡ of_read (cond skipped (Ok p) (unless Text text >>= λ _. x))
words_same true text p x y h = refl
words_same false true p x y h = h
words_same false false p x y h = refl

after_same : (p : Plan Event) (l : List ℕ) → after_line trace_line (traced_of p) l ≡ of_read (after_line plain_line p l)
unfolding after_words
after_same p l =
    words_same (is_skipped (words_of l)) (is_text l) p (plain_line p (words_of l)) (trace_line (traced_of p) (words_of l)) (next_same (setting_named (word_at (words_of l) 0)) p (words_of l))

-- lines after one that was read
then_same : (n : ℕ) (r : Result (Plan Event) Reason) (f : Plan Event → Result (Plan Event) (ℕ × Reason)) (g : TraceSaid → Result TraceSaid (ℕ × Reason))
    → ((q : Plan Event) → g (traced_of q) ≡ of_read (f q)) → (numbered n (of_read r) >>= g) ≡ of_read (numbered n r >>= f)
then_same n (Ok q) f g h = h q
then_same n (Err e) f g h = refl

lines_same : (ls : List (List ℕ)) (n : ℕ) (p : Plan Event) → after_lines trace_line n (traced_of p) ls ≡ of_read (after_lines plain_line n p ls)
lines_same [] n p = refl
lines_same (l ∷ ls) n p =
    rw (after_same p l)
    (then_same n (after_line plain_line p l) (λ q. after_lines plain_line (n + 1) q ls) (λ t. after_lines trace_line (n + 1) t ls)
    (λ q. lines_same ls (n + 1) q))

-- a script of such lines is finished as it was read
whole_same : (k : ℕ) (r : Result (Plan Event) (ℕ × Reason)) → whole_trace (of_read r) ≡ script_trace (drafted empty_draft r >>= λ d. numbered k (finished d))
whole_same k (Ok p) = refl
whole_same k (Err e) = refl

pub plain_trace : (t : List ℕ) → AreNoServices (lines t) → traced t ≡ script_trace (event_script t)
unfolding traced script
plain_trace t h =
    ap whole_trace (lines_same (lines t) 1 empty_plan)
    ∙ (whole_same (zone_number 0 (lines t)) (after_lines plain_line 1 empty_plan (lines t))
    ∙ sym (ap (λ (r : Result (Draft Event) (ℕ × Reason)). script_trace (r >>= λ d. numbered (zone_number 0 (lines t)) (finished d))) (lines_drafted (lines t) 1 empty_draft h)))

-- ---- the first line of a service

-- a word of a service is one of these
abbrev OneOf : List ℕ → Type 1
OneOf w = (P : List ℕ → Type 0) → P (codes "rule") → P (codes "notify") → P (codes "upstream") → P (codes "zone") → P (codes "record") → P w

one_of : (w : List ℕ) → is_service_word w ≡ true → OneOf w
one_of w h P rule notify upstream zone record' =
    elim (or_cases (bytes_eq w (codes "rule")) _ h) [
      | inl e ↦ rw ((bytes_eq-Decides w (codes "rule")).0 e) rule
      | inr h1 ↦
          elim (or_cases (bytes_eq w (codes "notify")) _ h1) [
            | inl e ↦ rw ((bytes_eq-Decides w (codes "notify")).0 e) notify
            | inr h2 ↦
                elim (or_cases (bytes_eq w (codes "upstream")) _ h2) [
                  | inl e ↦ rw ((bytes_eq-Decides w (codes "upstream")).0 e) upstream
                  | inr h3 ↦
                      elim (or_cases (bytes_eq w (codes "zone")) (bytes_eq w (codes "record")) h3) [
                        | inl e ↦ rw ((bytes_eq-Decides w (codes "zone")).0 e) zone
                        | inr e ↦ rw ((bytes_eq-Decides w (codes "record")).0 e) record'
                      ]
                ]
          ]
    ]

-- such a line is that of no setting and of no event
unknown : (t : TraceSaid) (w : List ℕ) (ws : List (List ℕ)) → is_service_word w ≡ true → trace_line t (w ∷ ws) ≡ Err Word
unfolding next_event
unknown t w ws h = one_of w h (λ v. trace_line t (v ∷ ws) ≡ Err Word) refl refl refl refl refl

not_skipped : (w : List ℕ) (ws : List (List ℕ)) → is_service_word w ≡ true → is_skipped (w ∷ ws) ≡ false
not_skipped w ws h =
    or_from (length (w ∷ ws) == 0) (slice_index w 0 == 35) (ne_eqb (length (w ∷ ws)) 0 (λ e. omega arith))
    (one_of w h (λ v. (slice_index v 0 == 35) ≡ false) refl refl refl refl refl)

service_words : (t : TraceSaid) (text : Bool) (ws : List (List ℕ)) → is_service_word (word_at ws 0) ≡ true
    → after_words trace_line t text ws ≡ Err (cond text Word Text)
unfolding after_words
service_words t text [] h = cc h
service_words t true (w ∷ ws) h = rw (not_skipped w ws h) (unknown t w ws h)
service_words t false (w ∷ ws) h = rw (not_skipped w ws h) refl

refused_line : (t : TraceSaid) (l : List ℕ) → is_service_line l ≡ true → after_line trace_line t l ≡ Err (service_reason l)
refused_line t l h = service_words t (is_text l) (words_of l) h

-- if a line was read, the lines after it decide
decided_behind : (n m : ℕ) (l : List ℕ) (r : Result (Plan Event) Reason) (f : Plan Event → Result (Plan Event) (ℕ × Reason)) (g : TraceSaid → Result TraceSaid (ℕ × Reason))
    → ((q : Plan Event) → whole_trace (g (traced_of q)) ≡ refused_behind m l (drafted empty_draft (f q)))
    → whole_trace (numbered n (of_read r) >>= g) ≡ refused_behind m l (drafted empty_draft (numbered n r >>= f))
decided_behind n m l (Ok q) f g h = h q
decided_behind n m l (Err e) f g h = refl

refused_after : (before : List (List ℕ)) (l : List ℕ) (after : List (List ℕ)) (n m : ℕ) (p : Plan Event) → is_service_line l ≡ true
    → m ≡ n + length before
    → whole_trace (after_lines trace_line n (traced_of p) (before ++ l ∷ after)) ≡ refused_behind m l (drafted empty_draft (after_lines plain_line n p before))
refused_after [] l after n m p k e =
    let same : n ≡ m = omega arith in
    rw (refused_line (traced_of p) l k) (ap (λ (i : ℕ). Err (i, service_reason l)) same)
refused_after (x ∷ before) l after n m p k e =
    rw (after_same p x)
    (decided_behind n m l (after_line plain_line p x) (λ q. after_lines plain_line (n + 1) q before) (λ t. after_lines trace_line (n + 1) t (before ++ l ∷ after))
    (λ q. refused_after before l after (n + 1) m q k (omega arith)))

pub service_trace : (t l : List ℕ) (before after : List (List ℕ)) → lines t ≡ before ++ l ∷ after → AreNoServices before → is_service_line l ≡ true
    → traced t ≡ refused_behind (length before + 1) l (script_lines before)
unfolding traced
service_trace t l before after e h k =
    ap (λ (ls : List (List ℕ)). whole_trace (after_lines trace_line 1 nothing_traced ls)) e
    ∙ (refused_after before l after 1 (length before + 1) empty_plan k (omega arith)
    ∙ sym (ap (refused_behind (length before + 1) l) (lines_drafted before 1 empty_draft h)))

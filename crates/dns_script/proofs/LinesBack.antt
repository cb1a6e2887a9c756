-- The lines of rules, of upstreams and of a target that were read, spelled anew, read as these.
use Rattle.std.proofs.Common.{◌≡◌, ℕ, zero, suc, ◌+◌, ◌-◌, ◌<◌, ◌≤◌, true, false, List, [], ◌∷◌, ◌++◌, map, drop, take, replicate, length, length-drop, refl, ap, arith}
use Rattle.std.specs.Prelude.{IfSome, Ok, Err, Result, Option, Some, None, codes, nat_le}
use Rattle.std.specs.List.{AllByRecursion, list_all}
use Rattle.std.specs.Str.{bytes_eq}
use Rattle.std.proofs.lemmas.Bool.{false_from_ne_true, false≢true, le-leb}
use Rattle.std.proofs.lemmas.Bool.Decides.{nat_tests}
use Rattle.std.proofs.lemmas.Slice.Eq.{bytes_eq-Decides}
use Rattle.dns_layers.specs.declared.notifiable.NotifyError.{NotifyError}
use Rattle.dns_layers.specs.declared.notifiable.NotifyError.TheVariants.{NotAuthForZone, Other}
use Rattle.dns_trace.proofs.Joined.{AreWords, IsWord}
use Rattle.dns_trace.proofs.Names.{named}
use Rattle.dns_trace.specs.NameWords.{ends_in_dot, name_word}
use Rattle.dns_trace.specs.Reading.{unless}
use Rattle.dns_trace.specs.Words.{word_at}
use Rattle.dns_trace.specs.declared.reason.Reason.{Reason}
use Rattle.dns_trace.specs.declared.reason.Reason.TheVariants.{Count, Value}
use Rattle.dns_script.proofs.AnswersBack.{AreRead, IsAnswer, IsUpstreamWord, answers_are_words, answers_back, answers_read, events_are_words, events_back, events_read}
use Rattle.dns_script.proofs.NamesBack.{IsReadName, name_reads}
use Rattle.dns_script.proofs.ReadRange.{Reads, at_ok, bound, choice, given, holds, refused}
use Rattle.dns_script.specs.AnswerWords.{answers_after}
use Rattle.dns_script.specs.Script.{for_name, notify_of, rule_name, rule_of, verdict_word, words_between}
use Rattle.dns_script.specs.ScriptText.{words_of_notify, words_of_rule, words_of_upstream}
use Rattle.dns_script.specs.ServiceLines.{upstream_of, upstream_words_after}
use Rattle.dns_script.specs.Spelled.{name_or_star, spelled_answer, spelled_event, spelled_name, spelled_verdict}
use Rattle.dns_script.specs.declared.notify_rule.NotifyRule.{NotifyRule}
use Rattle.dns_script.specs.declared.rule.Rule.{Rule}
use Rattle.dns_script.specs.declared.upstream.UpstreamLine.{UpstreamLine}

-- ---- rules

pub record IsReadRule (r : Rule) : Type 0 where
  pub name : IfSome r.name IsReadName
  pub answers : AllByRecursion IsAnswer r.answers
  pub some : 0 < length r.answers

for_name_read : (w : List ℕ) (read : Result (List (List ℕ)) Reason) → name_word w ≡ read → Reads (λ o. IfSome o IsReadName) (for_name read)
for_name_read w (Ok n) e = record { each = name_reads w n e }
for_name_read w (Err x) e = refused

rule_name_read : (w : List ℕ) → Reads (λ o. IfSome o IsReadName) (rule_name w)
unfolding rule_name
rule_name_read w = choice (λ o. IfSome o IsReadName) (bytes_eq w (codes "*")) _ _ (λ e. given _ _ tt) (λ e. for_name_read w (name_word w) refl)

at_least : (n : ℕ) → nat_le 3 n ≡ true → 3 ≤ n
at_least n h = grind (arith, nat_tests)

-- three words and more have one after the second
behind_two : (ws : List (List ℕ)) (n : ℕ) → nat_le 3 (length ws) ≡ true → n ≡ length {A = ℕ} [] + length (drop 2 ws) → 0 < n
behind_two ws n h e = let d = length-drop 2 ws in let l = at_least (length ws) h in omega arith

pub rule_read : (ws : List (List ℕ)) → Reads IsReadRule (rule_of ws)
unfolding rule_of
rule_read ws =
    bound IsReadRule (unless Count (nat_le 3 (length ws))) _ (λ u e.
    bound _ (rule_name (word_at ws 1)) _ (λ n e2.
    bound _ (answers_after [] (drop 2 ws)) _ (λ answers e3.
    let read = at_ok (AreRead IsAnswer [] (length (drop 2 ws))) (answers_after [] (drop 2 ws)) answers (answers_read (drop 2 ws) [] tt) e3 in
    given _ _ (record {
      name = at_ok (λ o. IfSome o IsReadName) (rule_name (word_at ws 1)) n (rule_name_read (word_at ws 1)) e2;
      answers = read.each;
      some = behind_two ws (length answers) (holds Count (nat_le 3 (length ws)) u e) read.many;
    }))))

-- no name is a star
not_star : (n : List (List ℕ)) → IsReadName n → bytes_eq (spelled_name n) (codes "*") ≡ false
not_star n h =
    false_from_ne_true (bytes_eq (spelled_name n) (codes "*"))
    (λ same.
    let e : spelled_name n ≡ codes "*" = (bytes_eq-Decides (spelled_name n) (codes "*")).0 same in
    let end : ends_in_dot (codes "*") ≡ true = rw e at h.ends in
    false≢true end)

name_or_star_back : (o : Option (List (List ℕ))) → IfSome o IsReadName → rule_name (name_or_star o) ≡ Ok o
unfolding rule_name
name_or_star_back None h = refl
name_or_star_back (Some n) h = rw (not_star n h, h.reads) refl

name_or_star_word : (o : Option (List (List ℕ))) → IfSome o IsReadName → IsWord (name_or_star o)
name_or_star_word None h = named (codes "*") refl (omega arith)
name_or_star_word (Some n) h = h.word

-- a name and words after it are three words
three_words : {A : Type 0} (spelled : A → List ℕ) (answers : List A) (v w : List ℕ) → 0 < length answers → nat_le 3 (length (v ∷ w ∷ map spelled answers)) ≡ true
three_words spelled [] v w h = absurd (omega (arith, h))
three_words spelled (a ∷ answers) v w h = le-leb 3 (length (v ∷ w ∷ map spelled (a ∷ answers))) (omega arith)

pub rule_back : (r : Rule) → IsReadRule r → rule_of (words_of_rule r) ≡ Ok r
unfolding rule_of
rule_back r h =
    rw (three_words spelled_answer r.answers (codes "rule") (name_or_star r.name) h.some, name_or_star_back r.name h.name, answers_back r.answers [] h.answers) refl

pub rule_are_words : (r : Rule) → IsReadRule r → AreWords (words_of_rule r)
rule_are_words r h = (named (codes "rule") refl (omega arith), (name_or_star_word r.name h.name, answers_are_words r.answers h.answers))

-- ---- upstreams

pub record IsReadUpstream (u : UpstreamLine) : Type 0 where
  pub name : IsReadName u.name
  pub words : AllByRecursion IsUpstreamWord u.words
  pub some : 0 < length u.words

pub upstream_read : (ws : List (List ℕ)) → Reads IsReadUpstream (upstream_of ws)
unfolding upstream_of
upstream_read ws =
    bound IsReadUpstream (unless Count (nat_le 3 (length ws))) _ (λ u e.
    bound _ (name_word (word_at ws 1)) _ (λ n e2.
    bound _ (upstream_words_after [] (drop 2 ws)) _ (λ us e3.
    let read = at_ok (AreRead IsUpstreamWord [] (length (drop 2 ws))) (upstream_words_after [] (drop 2 ws)) us (events_read (drop 2 ws) [] tt) e3 in
    given _ _ (record {
      name = name_reads (word_at ws 1) n e2;
      words = read.each;
      some = behind_two ws (length us) (holds Count (nat_le 3 (length ws)) u e) read.many;
    }))))

pub upstream_back : (u : UpstreamLine) → IsReadUpstream u → upstream_of (words_of_upstream u) ≡ Ok u
unfolding upstream_of
upstream_back u h =
    rw (three_words spelled_event u.words (codes "upstream") (spelled_name u.name) h.some, h.name.reads, events_back u.words [] h.words) refl

pub upstream_are_words : (u : UpstreamLine) → IsReadUpstream u → AreWords (words_of_upstream u)
upstream_are_words u h = (named (codes "upstream") refl (omega arith), (h.name.word, events_are_words u.words h.words))

-- ---- the target

pub record IsReadNotify (n : NotifyRule) : Type 0 where
  pub apex : IsReadName n.apex

pub notify_read : (ws : List (List ℕ)) → Reads IsReadNotify (notify_of ws)
unfolding notify_of
notify_read ws =
    bound IsReadNotify (unless Count (nat_le 3 (length ws))) _ (λ u e.
    bound _ (name_word (word_at ws 1)) _ (λ n e2.
    bound _ (unless Value (list_all (λ w. bytes_eq w (codes "pend")) (words_between ws))) _ (λ v e3. bound _ (verdict_word (word_at ws (length ws - 1))) _ (λ verdict e4. given _ _ (record { apex = name_reads (word_at ws 1) n e2 })))))

many : (k : ℕ) (v : List ℕ) → length (replicate k (codes "pend") ++ v ∷ []) ≡ suc k
many zero v = refl
many (suc k) v = ap suc (many k v)

front : (k : ℕ) (v : List ℕ) → take k (replicate k (codes "pend") ++ v ∷ []) ≡ replicate k (codes "pend")
front zero v = refl
front (suc k) v = ap (λ (q : List (List ℕ)). codes "pend" ∷ q) (front k v)

all_pend : (k : ℕ) → list_all (λ w. bytes_eq w (codes "pend")) (replicate k (codes "pend")) ≡ true
all_pend zero = refl
all_pend (suc k) = all_pend k

last : (k : ℕ) (v : List ℕ) → word_at (replicate k (codes "pend") ++ v ∷ []) k ≡ v
last zero v = refl
last (suc k) v = last k v

verdict_back : (v : Result (Unit {0}) NotifyError) → verdict_word (spelled_verdict v) ≡ Ok v
unfolding verdict_word
verdict_back (Ok u) = refl
verdict_back (Err NotAuthForZone) = refl
verdict_back (Err Other) = refl

verdict_is_word : (v : Result (Unit {0}) NotifyError) → IsWord (spelled_verdict v)
verdict_is_word (Ok u) = named (codes "ok") refl (omega arith)
verdict_is_word (Err NotAuthForZone) = named (codes "notauth") refl (omega arith)
verdict_is_word (Err Other) = named (codes "other") refl (omega arith)

pub notify_back : (n : NotifyRule) → IsReadNotify n → notify_of (words_of_notify n) ≡ Ok n
unfolding notify_of
notify_back n h =
    let k = n.pends in
    let v = spelled_verdict n.verdict in
    let enough : nat_le 3 (suc (suc (suc k))) ≡ true = le-leb 3 (suc (suc (suc k))) (omega arith) in
    let pends : suc (suc (suc k)) - 3 ≡ k = omega arith in
    let end : suc (suc (suc k)) - 1 ≡ suc (suc k) = omega arith in
    rw (many k v, enough, h.apex.reads, pends, end, front k v, all_pend k, last k v, verdict_back n.verdict) refl

pend_words : (k : ℕ) (v : List ℕ) → IsWord v → AreWords (replicate k (codes "pend") ++ v ∷ [])
pend_words zero v h = (h, tt)
pend_words (suc k) v h = (named (codes "pend") refl (omega arith), pend_words k v h)

pub notify_are_words : (n : NotifyRule) → IsReadNotify n → AreWords (words_of_notify n)
notify_are_words n h = (named (codes "notify") refl (omega arith), (h.apex.word, pend_words n.pends (spelled_verdict n.verdict) (verdict_is_word n.verdict)))

-- Words that spell answers, one by one.
use Rattle.std.proofs.Common.{◌≡◌, ◌∙◌, ◌<◌, ◌+◌, ℕ, suc, List, [], ◌∷◌, ◌++◌, length, drop, get_or, ap, sym, arith, drop-cons}
use Rattle.std.specs.Prelude.{Result, Ok, Err}
use Rattle.dns_trace.specs.Reading.{◌>>=◌, Fails}
use Rattle.dns_trace.specs.Words.{word_at}
use Rattle.dns_trace.specs.declared.reason.LineError.{LineError}
use Rattle.dns_trace.specs.declared.reason.LineError.TheVariants.{OutOfMemory, Refused}
use Rattle.dns_trace.specs.declared.reason.Reason.{Reason}
use Rattle.dns_script.specs.AnswerWords.{answer_of, answers_after}
use Rattle.dns_script.specs.declared.rule.ScriptAnswer.{ScriptAnswer}

-- the first of the words that are left, and the others
first_left : (front : List ScriptAnswer) (ws : List (List ℕ)) (i : ℕ) → i < length ws
    → answers_after front (drop i ws) ≡ (answer_of (word_at ws i) >>= λ a. answers_after (front ++ a ∷ []) (drop (i + 1) ws))
first_left front ws i lt =
    let s : suc i ≡ i + 1 = omega arith in
    let d : drop i ws ≡ get_or ws i [] ∷ drop (suc i) ws = drop-cons ws i [] lt in
    let t : drop i ws ≡ get_or ws i [] ∷ drop (i + 1) ws = d ∙ ap (λ k. get_or ws i [] ∷ drop k ws) s in
    ap (λ (more : List (List ℕ)). answers_after front more) t

-- a word that spells an answer
pub answer_on : (front more : List ScriptAnswer) (ws : List (List ℕ)) (i : ℕ) (a : ScriptAnswer) (whole : Result (List ScriptAnswer) Reason)
    → i < length ws → answers_after front (drop i ws) ≡ whole → answer_of (word_at ws i) ≡ Ok a → more ≡ front ++ a ∷ []
    → answers_after more (drop (i + 1) ws) ≡ whole
answer_on front more ws i a whole lt w h is =
    let on : answers_after front (drop i ws) ≡ answers_after (front ++ a ∷ []) (drop (i + 1) ws)
    = first_left front ws i lt ∙ ap (λ (x : Result ScriptAnswer Reason). x >>= λ b. answers_after (front ++ b ∷ []) (drop (i + 1) ws)) h in
    ap (λ (xs : List ScriptAnswer). answers_after xs (drop (i + 1) ws)) is ∙ (sym on ∙ w)

-- a word that spells none
pub refused_on : (front : List ScriptAnswer) (ws : List (List ℕ)) (i : ℕ) (whole : Result (List ScriptAnswer) Reason) (e : LineError)
    → i < length ws → answers_after front (drop i ws) ≡ whole → Fails e (answer_of (word_at ws i)) → Fails e whole
refused_on front ws i whole OutOfMemory lt w h = tt
refused_on front ws i whole (Refused r) lt w h =
    sym w ∙ (first_left front ws i lt ∙ ap (λ (x : Result ScriptAnswer Reason). x >>= λ b. answers_after (front ++ b ∷ []) (drop (i + 1) ws)) h)

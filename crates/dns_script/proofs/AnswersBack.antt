-- The answers of rules and the words of upstreams that were read, spelled anew, read as these.
use Rattle.std.proofs.Common.{◌≡◌, ℕ, suc, ◌<◌, ◌^◌, ◌==◌, false, List, [], ◌∷◌, ◌++◌, map, drop, take, length, length-append, ◌+◌, refl, ap, sym, ◌∙◌, arith, append_assoc, append-nil}
use Rattle.std.specs.Prelude.{Ok, Err, Result, Option, Some, None, codes, decimal}
use Rattle.std.specs.List.{All, AllByRecursion, slice_split}
use Rattle.std.specs.Str.{bytes_eq}
use Rattle.std.proofs.lemmas.List.Splits.{slice_split_at, slice_split_none}
use Rattle.dns_service.specs.declared.service.ServiceError.{ServiceError}
use Rattle.dns_service.specs.declared.service.ServiceError.TheVariants.{FormatError, InternalError, NotImplemented, Refused}
use Rattle.dns_service.specs.declared.service.ServiceFeedback.{ServiceFeedback}
use Rattle.dns_service.specs.declared.service.ServiceFeedback.TheVariants.{Reconfigure, BeginTransaction, EndTransaction}
use Rattle.dns_trace.proofs.Decimals.{decimal_digits, num_back, number_back}
use Rattle.dns_trace.proofs.Joined.{AreWords, IsWord}
use Rattle.dns_trace.proofs.Ranges.{AreFrom, from_append, from_cons, lacks, wider}
use Rattle.dns_trace.specs.Words.{word_at}
use Rattle.dns_trace.specs.declared.reason.Reason.{Reason}
use Rattle.dns_trace.specs.declared.reason.Reason.TheVariants.{Value}
use Rattle.dns_script.proofs.ReadRange.{Reads, at_ok, below, bound, choice, given, refused}
use Rattle.dns_script.specs.AnswerWords.{answer_in, answer_of, answers_after, double_answer, error_word, feedback_or, feedback_word, or_read, reply_word, single_answer, sized_reply}
use Rattle.dns_script.specs.ServiceLines.{upstream_word, upstream_words_after}
use Rattle.dns_script.specs.Spelled.{spelled_answer, spelled_error, spelled_event, spelled_feedback, spelled_reply}
use Rattle.dns_script.specs.declared.rule.ScriptAnswer.{ScriptAnswer}
use Rattle.dns_script.specs.declared.rule.ScriptAnswer.TheVariants.{Pend, Error, Feedback, Reply, Both}
use Rattle.dns_script.specs.declared.rule.ScriptReply.{ScriptReply}
use Rattle.dns_script.specs.declared.rule.ScriptReply.TheVariants.{Rcode, Blank, Fill, Opt, Live}
use Rattle.dns_script.specs.declared.upstream.UpstreamWord.{UpstreamWord}
use Rattle.dns_script.specs.declared.upstream.UpstreamWord.TheVariants.{Pend as NoArrival, Rcode as Replies, Stray, Late}

-- ---- what is read is in range

abbrev pub IsReply : ScriptReply → Type 0
IsReply (Rcode code) = code < 16
IsReply (Blank code) = code < 16
IsReply (Fill n) = n < 65001
IsReply (Opt n) = n < 65001
IsReply (Live seconds) = seconds < 4294967296

abbrev pub IsFeedback : ServiceFeedback → Type 0
IsFeedback (Reconfigure None) = ⊥
IsFeedback (Reconfigure (Some n)) = n < 2 ^ 64
IsFeedback BeginTransaction = Unit {0}
IsFeedback EndTransaction = Unit {0}

abbrev pub IsAnswer : ScriptAnswer → Type 0
IsAnswer Pend = Unit {0}
IsAnswer (Error e) = Unit {0}
IsAnswer (Feedback feedback) = IsFeedback feedback
IsAnswer (Reply reply) = IsReply reply
IsAnswer (Both feedback reply) = IsFeedback feedback × IsReply reply

sized_read : (w : List ℕ) → Reads IsReply (sized_reply w)
unfolding sized_reply
sized_read w =
    choice IsReply (bytes_eq (take 5 w) (codes "fill:")) _ _ (λ e. bound _ _ _ (λ n e2. given _ _ (below 20 65001 (drop 5 w) n e2)))
    (λ e. choice _ (bytes_eq (take 4 w) (codes "opt:")) _ _ (λ e2. bound _ _ _ (λ n e3. given _ _ (below 20 65001 (drop 4 w) n e3))) (λ e2. refused))

reply_read : (w : List ℕ) → Reads IsReply (reply_word w)
unfolding reply_word
reply_read w =
    choice IsReply (bytes_eq (take 6 w) (codes "rcode:")) _ _ (λ e. bound _ _ _ (λ n e2. given _ _ (below 20 16 (drop 6 w) n e2)))
    (λ e. choice _ (bytes_eq (take 6 w) (codes "blank:")) _ _ (λ e2. bound _ _ _ (λ n e3. given _ _ (below 20 16 (drop 6 w) n e3)))
    (λ e2. choice _ (bytes_eq (take 5 w) (codes "live:")) _ _ (λ e3. bound _ _ _ (λ n e4. given _ _ (below 20 4294967296 (drop 5 w) n e4))) (λ e3. sized_read w)))

feedback_read : (w : List ℕ) → Reads IsFeedback (feedback_word w)
unfolding feedback_word
feedback_read w =
    choice IsFeedback (bytes_eq w (codes "begin")) _ _ (λ e. given _ _ tt)
    (λ e. choice _ (bytes_eq w (codes "end")) _ _ (λ e2. given _ _ tt)
    (λ e2. choice _ (bytes_eq (take 5 w) (codes "idle:")) _ _ (λ e3. bound _ _ _ (λ n e4. given _ _ (below 20 18446744073709551616 (drop 5 w) n e4))) (λ e3. refused)))

reply_or_feedback : (f : Result ServiceFeedback Reason) (r : Result ScriptReply Reason) → Reads IsFeedback f → Reads IsReply r → Reads IsAnswer (feedback_or f r)
reply_or_feedback (Ok feedback) r h k = record { each = h.each }
reply_or_feedback (Err e) (Ok reply) h k = record { each = k.each }
reply_or_feedback (Err e) (Err e2) h k = refused

or_error : (o : Option ServiceError) (r : Result ScriptAnswer Reason) → Reads IsAnswer r → Reads IsAnswer (or_read o r)
or_error (Some e) r h = given _ _ tt
or_error None r h = h

single_read : (w : List ℕ) → Reads IsAnswer (single_answer w)
unfolding single_answer
single_read w =
    choice IsAnswer (bytes_eq w (codes "pend")) _ _ (λ e. given _ _ tt)
    (λ e. or_error (error_word w) _ (reply_or_feedback (feedback_word w) (reply_word w) (feedback_read w) (reply_read w)))

double_read : (v w : List ℕ) → Reads IsAnswer (double_answer v w)
unfolding double_answer
double_read v w =
    bound IsAnswer (feedback_word v) _ (λ f e. bound _ _ _ (λ r e2. given IsAnswer (Both f r) (at_ok IsFeedback (feedback_word v) f (feedback_read v) e, at_ok IsReply (reply_word w) r (reply_read w) e2)))

answer_read : (w : List ℕ) → Reads IsAnswer (answer_of w)
answer_read w =
    let ps = slice_split (λ b. b == 43) w in
    choice IsAnswer (length ps == 1) _ _ (λ e. single_read (word_at ps 0)) (λ e. choice _ (length ps == 2) _ _ (λ e2. double_read (word_at ps 0) (word_at ps 1)) (λ e2. refused))

-- ---- what is in range is spelled so that it reads back

decimal_plain : (n : ℕ) → n < 2 ^ 64 → AreFrom 44 126 (decimal n)
decimal_plain n small = wider 48 57 44 126 (decimal n) (omega arith) (omega arith) (decimal_digits n small)

behind_word : (w : List ℕ) (n : ℕ) → AreFrom 44 126 w → n < 2 ^ 64 → AreFrom 44 126 (w ++ decimal n)
behind_word w n h small = from_append 44 126 w (decimal n) h (decimal_plain n small)

reply_plain : (r : ScriptReply) → IsReply r → AreFrom 44 126 (spelled_reply r)
reply_plain (Rcode code) h = behind_word (codes "rcode:") code (record { within = refl }) (omega arith)
reply_plain (Blank code) h = behind_word (codes "blank:") code (record { within = refl }) (omega arith)
reply_plain (Fill n) h = behind_word (codes "fill:") n (record { within = refl }) (omega arith)
reply_plain (Opt n) h = behind_word (codes "opt:") n (record { within = refl }) (omega arith)
reply_plain (Live seconds) h = behind_word (codes "live:") seconds (record { within = refl }) (omega arith)

feedback_plain : (f : ServiceFeedback) → IsFeedback f → AreFrom 44 126 (spelled_feedback f)
feedback_plain (Reconfigure None) h = absurd h
feedback_plain (Reconfigure (Some n)) h = behind_word (codes "idle:") n (record { within = refl }) h
feedback_plain BeginTransaction h = record { within = refl }
feedback_plain EndTransaction h = record { within = refl }

error_plain : (e : ServiceError) → AreFrom 44 126 (spelled_error e)
error_plain FormatError = record { within = refl }
error_plain InternalError = record { within = refl }
error_plain NotImplemented = record { within = refl }
error_plain Refused = record { within = refl }

reply_back : (r : ScriptReply) → IsReply r → reply_word (spelled_reply r) ≡ Ok r
unfolding reply_word sized_reply
reply_back (Rcode code) h = rw (number_back 20 16 code (omega arith) (omega arith) h (omega arith)) refl
reply_back (Blank code) h = rw (number_back 20 16 code (omega arith) (omega arith) h (omega arith)) refl
reply_back (Fill n) h = rw (number_back 20 65001 n (omega arith) (omega arith) h (omega arith)) refl
reply_back (Opt n) h = rw (number_back 20 65001 n (omega arith) (omega arith) h (omega arith)) refl
reply_back (Live seconds) h = rw (number_back 20 4294967296 seconds (omega arith) (omega arith) h (omega arith)) refl

feedback_back : (f : ServiceFeedback) → IsFeedback f → feedback_word (spelled_feedback f) ≡ Ok f
unfolding feedback_word
feedback_back (Reconfigure None) h = absurd h
feedback_back (Reconfigure (Some n)) h = rw (num_back n h) refl
feedback_back BeginTransaction h = refl
feedback_back EndTransaction h = refl

-- the spelling of a reply is that of no feedback
no_feedback : (r : ScriptReply) → feedback_word (spelled_reply r) ≡ Err Value
unfolding feedback_word
no_feedback (Rcode code) = refl
no_feedback (Blank code) = refl
no_feedback (Fill n) = refl
no_feedback (Opt n) = refl
no_feedback (Live seconds) = refl

single_reply : (r : ScriptReply) → IsReply r → single_answer (spelled_reply r) ≡ Ok (Reply r)
unfolding single_answer
single_reply (Rcode code) h = rw (no_feedback (Rcode code), reply_back (Rcode code) h) refl
single_reply (Blank code) h = rw (no_feedback (Blank code), reply_back (Blank code) h) refl
single_reply (Fill n) h = rw (no_feedback (Fill n), reply_back (Fill n) h) refl
single_reply (Opt n) h = rw (no_feedback (Opt n), reply_back (Opt n) h) refl
single_reply (Live seconds) h = rw (no_feedback (Live seconds), reply_back (Live seconds) h) refl

single_feedback : (f : ServiceFeedback) → IsFeedback f → single_answer (spelled_feedback f) ≡ Ok (Feedback f)
unfolding single_answer
single_feedback (Reconfigure None) h = absurd h
single_feedback (Reconfigure (Some n)) h = rw (feedback_back (Reconfigure (Some n)) h) refl
single_feedback BeginTransaction h = rw (feedback_back BeginTransaction h) refl
single_feedback EndTransaction h = rw (feedback_back EndTransaction h) refl

single_error : (e : ServiceError) → single_answer (spelled_error e) ≡ Ok (Error e)
unfolding single_answer
single_error FormatError = refl
single_error InternalError = refl
single_error NotImplemented = refl
single_error Refused = refl

no_plus : (w : List ℕ) → AreFrom 44 126 w → All (λ b. (b == 43) ≡ false) w
no_plus w h = lacks 44 126 43 w (omega arith) h

-- what has no `+` is read alone
alone : (w : List ℕ) → AreFrom 44 126 w → answer_of w ≡ single_answer w
alone w h = ap answer_in (slice_split_none (λ b. b == 43) w (no_plus w h))

both : (v w : List ℕ) → AreFrom 44 126 v → AreFrom 44 126 w → answer_of (v ++ 43 ∷ w) ≡ double_answer v w
both v w h k =
    ap answer_in (slice_split_at (λ b. b == 43) v 43 w (no_plus v h) refl ∙ ap (λ (ps : List (List ℕ)). v ∷ ps) (slice_split_none (λ b. b == 43) w (no_plus w k)))

double_back : (f : ServiceFeedback) (r : ScriptReply) → IsFeedback f → IsReply r → double_answer (spelled_feedback f) (spelled_reply r) ≡ Ok (Both f r)
unfolding double_answer
double_back f r h k = rw (feedback_back f h, reply_back r k) refl

pub answer_back : (a : ScriptAnswer) → IsAnswer a → answer_of (spelled_answer a) ≡ Ok a
unfolding single_answer
answer_back Pend h = refl
answer_back (Error e) h = alone (spelled_error e) (error_plain e) ∙ single_error e
answer_back (Feedback f) h = alone (spelled_feedback f) (feedback_plain f h) ∙ single_feedback f h
answer_back (Reply r) h = alone (spelled_reply r) (reply_plain r h) ∙ single_reply r h
answer_back (Both f r) h = both (spelled_feedback f) (spelled_reply r) (feedback_plain f h.0) (reply_plain r h.1) ∙ double_back f r h.0 h.1

-- ---- words

visible : (w : List ℕ) → AreFrom 44 126 w → AreFrom 33 126 w
visible w h = wider 44 126 33 126 w (omega arith) (omega arith) h

reply_some : (r : ScriptReply) → 0 < length (spelled_reply r)
reply_some (Rcode code) = omega arith
reply_some (Blank code) = omega arith
reply_some (Fill n) = omega arith
reply_some (Opt n) = omega arith
reply_some (Live seconds) = omega arith

feedback_some : (f : ServiceFeedback) → 0 < length (spelled_feedback f)
feedback_some (Reconfigure timeout) = omega arith
feedback_some BeginTransaction = omega arith
feedback_some EndTransaction = omega arith

both_some : (v w : List ℕ) → 0 < length (v ++ 43 ∷ w)
both_some [] w = omega arith
both_some (c ∷ v) w = omega arith

error_some : (e : ServiceError) → 0 < length (spelled_error e)
error_some FormatError = omega arith
error_some InternalError = omega arith
error_some NotImplemented = omega arith
error_some Refused = omega arith

pub answer_is_word : (a : ScriptAnswer) → IsAnswer a → IsWord (spelled_answer a)
answer_is_word Pend h = record { some = omega arith; visible = record { within = refl } }
answer_is_word (Error e) h = record { some = error_some e; visible = visible (spelled_error e) (error_plain e) }
answer_is_word (Feedback f) h = record { some = feedback_some f; visible = visible (spelled_feedback f) (feedback_plain f h) }
answer_is_word (Reply r) h = record { some = reply_some r; visible = visible (spelled_reply r) (reply_plain r h) }
answer_is_word (Both f r) h = record {
  some = both_some (spelled_feedback f) (spelled_reply r);
  visible =
      from_append 33 126 (spelled_feedback f) (43 ∷ spelled_reply r) (visible (spelled_feedback f) (feedback_plain f h.0))
      (from_cons 33 126 43 (spelled_reply r) refl (visible (spelled_reply r) (reply_plain r h.1)));
}

-- ---- lists of answers

-- those in front and those that are read after them, as many as there are words
pub record AreRead {A : Type 0} (P : A → Type 0) (front : List A) (count : ℕ) (all : List A) : Type 0 where
  pub each : AllByRecursion P all
  pub many : length all ≡ length front + count

pub one_behind : {A : Type 0} (P : A → Type 0) (front : List A) (a : A) → AllByRecursion P front → P a → AllByRecursion P (front ++ a ∷ [])
one_behind P [] a h k = (k, tt)
one_behind P (x ∷ front) a h k = (h.0, one_behind P front a h.1 k)

more_read : {A : Type 0} (P : A → Type 0) (r : Result (List A) Reason) (front : List A) (a : A) (n : ℕ) → Reads (AreRead P (front ++ a ∷ []) n) r → Reads (AreRead P front (suc n)) r
more_read P (Ok all) front a n h = record {
  each = record { each = h.each.each; many = let l : length (front ++ a ∷ []) ≡ length front + 1 = length-append front (a ∷ []) in omega (arith, h.each.many, l) };
}
more_read P (Err e) front a n h = refused

pub answers_read : (ws : List (List ℕ)) (front : List ScriptAnswer) → AllByRecursion IsAnswer front → Reads (AreRead IsAnswer front (length ws)) (answers_after front ws)
answers_read [] front h = record { each = record { each = h; many = omega arith } }
answers_read (w ∷ ws) front h =
    bound (AreRead IsAnswer front (length (w ∷ ws))) (answer_of w) (λ a. answers_after (front ++ a ∷ []) ws)
    (λ a e. more_read IsAnswer (answers_after (front ++ a ∷ []) ws) front a (length ws)
    (answers_read ws (front ++ a ∷ []) (one_behind IsAnswer front a h (at_ok IsAnswer (answer_of w) a (answer_read w) e))))

pub answers_back : (answers : List ScriptAnswer) (front : List ScriptAnswer) → AllByRecursion IsAnswer answers → answers_after front (map spelled_answer answers) ≡ Ok (front ++ answers)
answers_back [] front h = ap (λ (q : List ScriptAnswer). Ok q) (sym (append-nil front))
answers_back (a ∷ answers) front h =
    rw (answer_back a h.0) (answers_back answers (front ++ a ∷ []) h.1 ∙ ap (λ (q : List ScriptAnswer). Ok q) (append_assoc front (a ∷ []) answers))

pub answers_are_words : (answers : List ScriptAnswer) → AllByRecursion IsAnswer answers → AreWords (map spelled_answer answers)
answers_are_words [] h = tt
answers_are_words (a ∷ answers) h = (answer_is_word a h.0, answers_are_words answers h.1)

-- ---- the words of upstreams

abbrev pub IsUpstreamWord : UpstreamWord → Type 0
IsUpstreamWord NoArrival = Unit {0}
IsUpstreamWord (Replies code) = code < 16
IsUpstreamWord (Stray code) = code < 16
IsUpstreamWord Late = Unit {0}

event_read : (w : List ℕ) → Reads IsUpstreamWord (upstream_word w)
unfolding upstream_word
event_read w =
    choice IsUpstreamWord (bytes_eq w (codes "pend")) _ _ (λ e. given _ _ tt)
    (λ e. choice _ (bytes_eq w (codes "late")) _ _ (λ e2. given _ _ tt)
    (λ e2. choice _ (bytes_eq (take 6 w) (codes "rcode:")) _ _ (λ e3. bound _ _ _ (λ n e4. given _ _ (below 20 16 (drop 6 w) n e4)))
    (λ e3. choice _ (bytes_eq (take 6 w) (codes "stray:")) _ _ (λ e4. bound _ _ _ (λ n e5. given _ _ (below 20 16 (drop 6 w) n e5))) (λ e4. refused))))

event_back : (u : UpstreamWord) → IsUpstreamWord u → upstream_word (spelled_event u) ≡ Ok u
unfolding upstream_word
event_back NoArrival h = refl
event_back (Replies code) h = rw (number_back 20 16 code (omega arith) (omega arith) h (omega arith)) refl
event_back (Stray code) h = rw (number_back 20 16 code (omega arith) (omega arith) h (omega arith)) refl
event_back Late h = refl

event_is_word : (u : UpstreamWord) → IsUpstreamWord u → IsWord (spelled_event u)
event_is_word NoArrival h = record { some = omega arith; visible = record { within = refl } }
event_is_word (Replies code) h = record { some = omega arith; visible = visible _ (behind_word (codes "rcode:") code (record { within = refl }) (omega arith)) }
event_is_word (Stray code) h = record { some = omega arith; visible = visible _ (behind_word (codes "stray:") code (record { within = refl }) (omega arith)) }
event_is_word Late h = record { some = omega arith; visible = record { within = refl } }

pub events_read : (ws : List (List ℕ)) (front : List UpstreamWord) → AllByRecursion IsUpstreamWord front → Reads (AreRead IsUpstreamWord front (length ws)) (upstream_words_after front ws)
events_read [] front h = record { each = record { each = h; many = omega arith } }
events_read (w ∷ ws) front h =
    bound (AreRead IsUpstreamWord front (length (w ∷ ws))) (upstream_word w) (λ u. upstream_words_after (front ++ u ∷ []) ws)
    (λ u e. more_read IsUpstreamWord (upstream_words_after (front ++ u ∷ []) ws) front u (length ws)
    (events_read ws (front ++ u ∷ []) (one_behind IsUpstreamWord front u h (at_ok IsUpstreamWord (upstream_word w) u (event_read w) e))))

pub events_back : (us : List UpstreamWord) (front : List UpstreamWord) → AllByRecursion IsUpstreamWord us → upstream_words_after front (map spelled_event us) ≡ Ok (front ++ us)
events_back [] front h = ap (λ (q : List UpstreamWord). Ok q) (sym (append-nil front))
events_back (u ∷ us) front h =
    rw (event_back u h.0) (events_back us (front ++ u ∷ []) h.1 ∙ ap (λ (q : List UpstreamWord). Ok q) (append_assoc front (u ∷ []) us))

pub events_are_words : (us : List UpstreamWord) → AllByRecursion IsUpstreamWord us → AreWords (map spelled_event us)
events_are_words [] h = tt
events_are_words (u ∷ us) h = (event_is_word u h.0, events_are_words us h.1)

-- Which route is chosen says nothing of the services, so what is answered by it is the answer of the service that is chosen.
use Rattle.std.proofs.Common.{◌≡◌, ℕ, Bool, true, false, List, [], ◌∷◌, ◌++◌, length, cond, nat_eq, max, Option, Some, None, Result, refl, ap, sym, subst, ◌∙◌}
use Rattle.std.specs.Prelude.{OnOk, option_map}
use Rattle.std.specs.List.{filter, last_or}
use Rattle.std.proofs.Math.Path.{fun_ext}
use Rattle.std.proofs.lemmas.List.{map_push}
use Rattle.std.proofs.lemmas.Result.{on_ok_weaker}
use Rattle.dns_base.specs.Sections.{first_of, questions_of}
use Rattle.dns_message.specs.declared.question.Question.{Question}
use Rattle.dns_service.specs.Req.{Req}
use Rattle.dns_route.specs.Routes.{Route, chosen, ends_name, matching, most_labels, of_labels, routed, routed_by, served_by}
use Rattle.dns_route.specs.Relays.{relayed}
use Rattle.dns_forward.specs.Forwarded.{Forwards, SingleAnswers, Upstream, answered_under}

-- routes by a test of their names
filter_under : {S : Type 0} (p : List (List ℕ) → Bool) (answer : S → SingleAnswers) (rs : List (Route S))
    → filter (λ (r : Route SingleAnswers). p r.0) (answered_under answer rs) ≡ answered_under answer (filter (λ (r : Route S). p r.0) rs)
filter_under p answer [] = refl
filter_under {S} p answer (r ∷ rs) =
    let ih = filter_under p answer rs in
    let named : Route S → Bool = λ (x : Route S). p x.0 in
    let step : cond (p r.0) ((r.0, answer r.1) ∷ answered_under answer (filter named rs)) (answered_under answer (filter named rs)) ≡ answered_under answer (cond (p r.0) (r ∷ filter named rs) (filter named rs)) =
    elim (p r.0) as (λ (b : Bool). cond b ((r.0, answer r.1) ∷ answered_under answer (filter named rs)) (answered_under answer (filter named rs)) ≡ answered_under answer (cond b (r ∷ filter named rs) (filter named rs))) [
      | true ↦ refl
      | false ↦ refl
    ]
    in
    ap (λ (l : List (Route SingleAnswers)). cond (p r.0) ((r.0, answer r.1) ∷ l) l) ih ∙ step

most_under : {S : Type 0} (answer : S → SingleAnswers) (rs : List (Route S)) → most_labels (answered_under answer rs) ≡ most_labels rs
most_under answer [] = refl
most_under answer (r ∷ rs) = ap (λ n. max (length r.0) n) (most_under answer rs)

last_under : {S : Type 0} (answer : S → SingleAnswers) (o : Option (Route S)) (rs : List (Route S))
    → last_or (option_map (λ (r : Route S). let s : Route SingleAnswers = (r.0, answer r.1) in s) o) (answered_under answer rs) ≡ option_map (λ (r : Route S). let s : Route SingleAnswers = (r.0, answer r.1) in s) (last_or o rs)
last_under answer o [] = refl
last_under answer o (r ∷ rs) = last_under answer (Some r) rs

service_of : {S : Type 0} (answer : S → SingleAnswers) (o : Option (Route S))
    → option_map (λ (r : Route SingleAnswers). r.1) (option_map (λ (r : Route S). let s : Route SingleAnswers = (r.0, answer r.1) in s) o) ≡ option_map answer (option_map (λ (r : Route S). r.1) o)
service_of answer None = refl
service_of answer (Some r) = refl

matching_under : {S : Type 0} (answer : S → SingleAnswers) (q : List (List ℕ)) (rs : List (Route S)) → matching q (answered_under answer rs) ≡ answered_under answer (matching q rs)
matching_under answer q rs = filter_under (ends_name q) answer rs

labels_under : {S : Type 0} (answer : S → SingleAnswers) (n : ℕ) (rs : List (Route S)) → of_labels n (answered_under answer rs) ≡ answered_under answer (of_labels n rs)
labels_under answer n rs = filter_under (λ (name : List (List ℕ)). nat_eq (length name) n) answer rs

deepest_under : {S : Type 0} (answer : S → SingleAnswers) (rs : List (Route S)) → of_labels (most_labels (answered_under answer rs)) (answered_under answer rs) ≡ answered_under answer (of_labels (most_labels rs) rs)
deepest_under answer rs = ap (λ n. of_labels n (answered_under answer rs)) (most_under answer rs) ∙ labels_under answer (most_labels rs) rs

-- what is chosen is what the chosen service answers
chosen_under : {S : Type 0} (answer : S → SingleAnswers) (q : List (List ℕ)) (rs : List (Route S)) → chosen q (answered_under answer rs) ≡ option_map answer (chosen q rs)
chosen_under {S} answer q rs =
    let ms = matching q rs in
    let all : of_labels (most_labels (matching q (answered_under answer rs))) (matching q (answered_under answer rs)) ≡ answered_under answer (of_labels (most_labels ms) ms) =
    ap (λ (l : List (Route SingleAnswers)). of_labels (most_labels l) l) (matching_under answer q rs) ∙ deepest_under answer ms
    in
    ap (λ (l : List (Route SingleAnswers)). option_map (λ (r : Route SingleAnswers). r.1) (last_or None l)) all
    ∙ (ap (option_map (λ (r : Route SingleAnswers). r.1)) (last_under answer None (of_labels (most_labels ms) ms)) ∙ service_of answer (last_or None (of_labels (most_labels ms) ms)))

served_so : {S : Type 0} (answer : S → SingleAnswers) (r : Req (Unit {0})) (k : ℕ) (o : Option S) → served_by (λ (s : SingleAnswers). s) r k (option_map answer o) ≡ served_by answer r k o
served_so answer r k None = refl
served_so answer r k (Some s) = refl

routed_so : {S : Type 0} (answer : S → SingleAnswers) (rs : List (Route S)) (r : Req (Unit {0})) (k : ℕ) (o : Option Question) → routed_by (λ (s : SingleAnswers). s) (answered_under answer rs) r k o ≡ routed_by answer rs r k o
routed_so answer rs r k None = refl
routed_so answer rs r k (Some q) = ap (served_by (λ (s : SingleAnswers). s) r k) (chosen_under answer q.qname rs) ∙ served_so answer r k (chosen q.qname rs)

-- what is answered by routes that hold answers, and by those that hold services
held_so : {S : Type 0} (answer : S → SingleAnswers) (rs : List (Route S)) (r : Req (Unit {0})) (k : ℕ) → routed (λ (s : SingleAnswers). s) (answered_under answer rs) r k ≡ routed answer rs r k
held_so answer rs r k = routed_so answer rs r k (first_of (questions_of r.octets).0)

held : {S : Type 0} (answer : S → SingleAnswers) (rs : List (Route S)) → routed (λ (s : SingleAnswers). s) (answered_under answer rs) ≡ routed answer rs
held answer rs = fun_ext (λ r. fun_ext (λ k. held_so answer rs r k))

-- services that answer as upstreams are relayed are routed as these are
pub forwards_so : {S : Type 0} (answer : S → SingleAnswers) (us : List (Route Upstream)) (rs : List (Route S)) → answered_under answer rs ≡ answered_under relayed us → Forwards answer us rs
forwards_so answer us rs e = record {
  relays = e;
  answers = sym (held answer rs) ∙ (ap (λ (l : List (Route SingleAnswers)). routed (λ (s : SingleAnswers). s) l) e ∙ held relayed us);
}

pub forwards_none : {S : Type 0} (answer : S → SingleAnswers) → Forwards answer [] []
forwards_none answer = forwards_so answer [] [] refl

-- one upstream more
pub forwards_more : {S : Type 0} (answer : S → SingleAnswers) (us : List (Route Upstream)) (rs : List (Route S)) (name : List (List ℕ)) (u : Upstream) (s : S)
    → answer s ≡ relayed u → Forwards answer us rs → Forwards answer (us ++ (name, u) ∷ []) (rs ++ (name, s) ∷ [])
forwards_more {S} answer us rs name u s e f =
    forwards_so answer (us ++ (name, u) ∷ []) (rs ++ (name, s) ∷ [])
    (map_push (λ (r : Route S). let t : Route SingleAnswers = (r.0, answer r.1) in t) rs (name, s)
    ∙ (ap (λ (l : List (Route SingleAnswers)). l ++ (name, answer s) ∷ []) f.relays
    ∙ (ap (λ (t : SingleAnswers). answered_under relayed us ++ (name, t) ∷ []) e
    ∙ sym (map_push (λ (r : Route Upstream). let t : Route SingleAnswers = (r.0, relayed r.1) in t) us (name, u)))))

-- one upstream added to what a forwarder holds, if it is
pub forwards_added : {S T E : Type 0} (answer : S → SingleAnswers) (us : List (Route Upstream)) (old inside new : List (Route S)) (name : List (List ℕ)) (u : Upstream) (s : S) (r : Result T E)
    → answer s ≡ relayed u → old ≡ inside → OnOk r (new ≡ inside ++ (name, s) ∷ []) → Forwards answer us old → OnOk r (Forwards answer (us ++ (name, u) ∷ []) new)
forwards_added {S} answer us old inside new name u s r e same added f =
    on_ok_weaker r
    (λ (more : new ≡ inside ++ (name, s) ∷ []).
    subst (λ (rs : List (Route S)). Forwards answer (us ++ (name, u) ∷ []) rs) (sym more)
    (forwards_more answer us inside name u s e (subst (λ (rs : List (Route S)). Forwards answer us rs) same f)))
    added

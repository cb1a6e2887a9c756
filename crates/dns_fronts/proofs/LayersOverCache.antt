-- What a cache behind the layers does to how they take a request.
use Rattle.std.proofs.Common.{◌≡◌, ◌∙◌, ℕ, true, List, Option, Some, None, Result, Ok, Err, refl, ap, sym, subst}
use Rattle.std.specs.Prelude.{OnOk, is_some}
use Rattle.dns_base.specs.Msg.{Msg}
use Rattle.dns_events.specs.declared.settings.Settings.{Settings}
use Rattle.dns_service.specs.Answer.{Item}
use Rattle.dns_service.specs.Req.{Req}
use Rattle.dns_service.specs.declared.service.Polled.TheVariants.{Pending}
use Rattle.dns_service.specs.declared.service.ServiceError.TheVariants.{InternalError}
use Rattle.dns_route.specs.Turns.{TurnAnswer}
use Rattle.dns_base.specs.Built.{Built}
use Rattle.dns_service.specs.declared.service.CallResult.{CallResult}
use Rattle.dns_cache.specs.Steps.{GivesBuilt}
use Rattle.dns_cache.specs.AskedCache.{AnswersCached, Cached, asked_cache, behind_call, cached_message}
use Rattle.dns_cache.specs.Keys.{AskedKey, key_of}
use Rattle.dns_middleware.specs.declared.wrap_post.WrapPost.{WrapPost}
use Rattle.dns_middleware.specs.WrappedStreams.{wrap_by}
use Rattle.dns_proxy.specs.Fronts.{IsTaken}
use Rattle.dns_proxy.specs.declared.front.Taken.{Taken}
use Rattle.dns_proxy.specs.declared.front.Taken.TheVariants.{Own, Passed}
use Rattle.dns_layers.specs.Rewritten.{rewritten}
use Rattle.dns_fronts.specs.Caching.{cache_taken, cached_asks, cached_over, item_of, looked_up, taken_by, unless_young, young_item, young_or}
use Rattle.dns_fronts.specs.Layered.{asked_message, layered}
use Rattle.dns_fronts.specs.Passed.{passed_to, passed_unless, taken_unless}

none-asked : (x : Option Msg) (m : Option (List ℕ)) → m ≡ None → unless_young x m ≡ None
none-asked None m h = h
none-asked (Some y) m h = refl

-- a request that the layers answer
pub own-cached : (s : Settings) (c : Cached) (r : Req (Unit {0})) (own : Item) → IsTaken wrap_by (λ i. layered s i r) (asked_message s r) (Own own) → IsTaken wrap_by (λ i. cached_over s c i r) (cached_asks s c r) (Own own)
own-cached s c r own h = (none-asked (looked_up c r).cached (asked_message s r) h.0, λ i k. h.1 (young_or (looked_up c r).cached i) k)

pub own-behind : (s : Settings) (c : Cached) (r : Req (Unit {0})) (own : Item) → IsTaken wrap_by (λ i. layered s i r) (asked_message s r) (Own own) → c ≡ cache_taken s c r
own-behind s c r own h = sym (ap (λ (m : Option (List ℕ)). taken_by m c (looked_up c r).behind) h.0)

-- one that they pass on
passed-by : (s : Settings) (r : Req (Unit {0})) (rule : WrapPost) (message : List ℕ) (x : Option Msg) → IsTaken wrap_by (λ i. layered s i r) (asked_message s r) (Passed rule message)
    → IsTaken wrap_by (λ i. layered s (young_or x i) r) (unless_young x (asked_message s r)) (taken_unless rule message x)
passed-by s r rule message None h = h
passed-by s r rule message (Some m) h = (refl, λ i k. h.1 (young_or (Some m) i) k)

pub passed-cached : (s : Settings) (c : Cached) (r : Req (Unit {0})) (rule : WrapPost) (message : List ℕ) → IsTaken wrap_by (λ i. layered s i r) (asked_message s r) (Passed rule message)
    → IsTaken wrap_by (λ i. cached_over s c i r) (cached_asks s c r) (taken_unless rule message (looked_up c r).cached)
passed-cached s c r rule message h = passed-by s r rule message (looked_up c r).cached h

pub passed-behind : (s : Settings) (c : Cached) (r : Req (Unit {0})) (rule : WrapPost) (message : List ℕ) → IsTaken wrap_by (λ i. layered s i r) (asked_message s r) (Passed rule message) → (looked_up c r).behind ≡ cache_taken s c r
passed-behind s c r rule message h = sym (ap (λ (m : Option (List ℕ)). taken_by m c (looked_up c r).behind) h.0)

-- by the message that can be sent for it
pub on-passed : (s : Settings) (c : Cached) (r : Req (Unit {0})) (rule : WrapPost) (m : Option (List ℕ)) → IsTaken wrap_by (λ i. layered s i r) (asked_message s r) (passed_to rule m)
    → IsTaken wrap_by (λ i. cached_over s c i r) (cached_asks s c r) (passed_unless rule m (looked_up c r).cached)
on-passed s c r rule None h = own-cached s c r (Err InternalError) h
on-passed s c r rule (Some message) h = passed-cached s c r rule message h

pub behind-passed : (s : Settings) (c : Cached) (r : Req (Unit {0})) (rule : WrapPost) (m : Option (List ℕ)) → IsTaken wrap_by (λ i. layered s i r) (asked_message s r) (passed_to rule m)
    → taken_by m c (looked_up c r).behind ≡ cache_taken s c r
behind-passed s c r rule None h = own-behind s c r (Err InternalError) h
behind-passed s c r rule (Some message) h = passed-behind s c r rule message h

pub taken-some : (m : Option (List ℕ)) (c behind : Cached) → is_some m ≡ true → behind ≡ taken_by m c behind
taken-some None c behind h = absurd (cc)
taken-some (Some message) c behind h = refl

-- at a later turn than 0 nothing is taken out of the cache
later-none : (c : Cached) (r : Req (Unit {0})) (key : Option AskedKey) → cached_message c r 1 key ≡ None
later-none c r None = refl
later-none c r (Some key) = refl

pub answered-so : (c : Cached) (r : Req (Unit {0})) (a turned : TurnAnswer) → AnswersCached (asked_cache c r 1 a).cached a turned → turned ≡ a
answered-so c r a turned h = subst (λ (x : Option Msg). AnswersCached x a turned) (later-none c r (key_of r.octets)) h

-- what a request is given out of the cache
pub young-none : (x : Option Msg) (b : Option Built) → GivesBuilt x b → b ≡ None → None ≡ young_item x
young-none None b h e = refl
young-none (Some m) None h e = absurd h
young-none (Some m) (Some b) h e = absurd (cc)

pub young-some : (x : Option Msg) (b : Option Built) (built : Built) (r : CallResult) → GivesBuilt x b → b ≡ Some built → r ≡ record { response = Some built.message; feedback = None }
    → Some (Ok r) ≡ young_item x
young-some None None built r h e is = absurd (cc)
young-some None (Some b) built r h e is = absurd h
young-some (Some m) None built r h e is = absurd (cc)
young-some (Some m) (Some b) built r h e is =
    let same : b ≡ built = cc in
    let message : built.message ≡ m = ap (λ (x : Built). x.message) (sym same) ∙ h in
    ap (λ (x : CallResult). let i : Item = Ok x in Some i) is ∙ ap (λ (x : Msg). Some (item_of x)) message

pub young-taken : (rule : WrapPost) (message : List ℕ) (x : Option Msg) (young : Option Item) (item : Item) → young ≡ young_item x → young ≡ Some item → Own (rewritten (wrap_by rule) item) ≡ taken_unless rule message x
young-taken rule message None young item e is = let no : Some item ≡ None = sym is ∙ e in absurd (cc)
young-taken rule message (Some m) young item e is =
    let same : Some item ≡ Some (item_of m) = sym is ∙ e in
    let one : item ≡ item_of m = cc in
    ap (λ (i : Item). let t : Taken WrapPost = Own (rewritten (wrap_by rule) i) in t) one

-- where a message can be sent
pub young-found : (rule : WrapPost) (m : Option (List ℕ)) (x : Option Msg) (young : Option Item) (item : Item) → is_some m ≡ true → young ≡ young_item x → young ≡ Some item → Own (rewritten (wrap_by rule) item) ≡ passed_unless rule m x
young-found rule None x young item some e is = absurd (cc)
young-found rule (Some message) x young item some e is = young-taken rule message x young item e is

pub none-found : (rule : WrapPost) (m : Option (List ℕ)) (x : Option Msg) (young : Option Item) → young ≡ young_item x → young ≡ None → passed_to rule m ≡ passed_unless rule m x
none-found rule None x young e is = refl
none-found rule (Some message) None young e is = refl
none-found rule (Some message) (Some m) young e is = let no : Some (item_of m) ≡ None = sym e ∙ is in absurd (cc)

-- where there is no young reply the cache stays
none-young : (x : Option Msg) → young_item x ≡ None → x ≡ None
none-young None h = refl
none-young (Some m) h = let no : Some (item_of m) ≡ None = h in absurd (cc)

left-there : (c : Cached) (r : Req (Unit {0})) (key : Option AskedKey) → behind_call c r Pending key None ≡ c
left-there c r None = refl
left-there c r (Some key) = refl

pub none-behind : (c : Cached) (r : Req (Unit {0})) (m : Option (List ℕ)) (young : Option Item) → young ≡ young_item (looked_up c r).cached → young ≡ None → (looked_up c r).behind ≡ taken_by m c (looked_up c r).behind
none-behind c r None young e is =
    ap (behind_call c r Pending (key_of r.octets)) (none-young (looked_up c r).cached (sym e ∙ is)) ∙ left-there c r (key_of r.octets)
none-behind c r (Some message) young e is = refl

-- what holds anyway
pub on-ok : {T E P : Type 0} (r : Result T E) → P → OnOk r P
on-ok (Ok x) p = p
on-ok (Err e) p = tt

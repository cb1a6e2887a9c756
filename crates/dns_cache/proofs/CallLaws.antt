-- Lists of calls: where the entries of a cache come from.
use Rattle.std.proofs.Common.{◌≡◌, ℕ, zero, suc, ◌-◌, ◌≤◌, ◌<◌, Bool, true, false, ◌&&◌, cond, List, [], ◌∷◌, take, Contains, Option, Some, None, Result, Ok, Err, refl, ap, sym, subst, ◌∙◌, arith}
use Rattle.std.specs.Prelude.{nat_eq, nat_lt, nat_le, if◌then◌else◌, option_and_then}
use Rattle.std.specs.Cmp.{first_so, second_so}
use Rattle.std.specs.List.{AllByRecursion}
use Rattle.std.specs.Map.{lookup, remove_entry}
use Rattle.std.proofs.lemmas.Bool.{leb-true, ltb-true}
use Rattle.std.proofs.lemmas.Option.{cond_some}
use Rattle.dns_name.specs.declared.error.ParseError.{ParseError}
use Rattle.dns_base.specs.Msg.{Msg}
use Rattle.dns_service.specs.Req.{Req}
use Rattle.dns_service.specs.declared.service.Polled.TheVariants.{Pending, Ready}
use Rattle.dns_route.specs.ReplyMessage.{ReplyState, reply_message}
use Rattle.dns_route.specs.Turns.{TurnAnswer}
use Rattle.dns_cache.specs.Aged.{aged}
use Rattle.dns_cache.specs.AskedCache.{Cached, KeptReply, aged_for, behind_call, built_message, cached_message, can_keep, fits_frame, is_young, kept_answer, where_kept, with_kept, with_used, young_message}
use Rattle.dns_cache.specs.Calls.{CacheCall, IsEarlier, TurnAnswers, cache_behind, called}
use Rattle.dns_cache.specs.Keys.{AskedKey, key_of, same_key, same_key_Decides}
use Rattle.dns_cache.specs.Ttls.{least_ttl}

-- ---- what holds of each entry

module _ {A : Type 0} (P : A → Type 0) where
  all_taken : (n : ℕ) (es : List A) → AllByRecursion P es → AllByRecursion P (take n es)
  all_taken zero es h = tt
  all_taken (suc n) [] h = tt
  all_taken (suc n) (e ∷ es) h = (h.0, all_taken n es h.1)

module _ (P : AskedKey × KeptReply → Type 0) (key : AskedKey) where
  all_removed : (es : List (AskedKey × KeptReply)) → AllByRecursion P es → AllByRecursion P (remove_entry (same_key key) es)
  all_removed [] h = tt
  all_removed (e ∷ es) h = elim (same_key key e.0) as (λ b. AllByRecursion P (cond b es (e ∷ remove_entry (same_key key) es))) [
    | true ↦ h.1
    | false ↦ (h.0, all_removed es h.1)
  ]

  one_found : (es : List (AskedKey × KeptReply)) (v : KeptReply) → AllByRecursion P es → lookup (same_key key) es ≡ Some v → P (key, v)
  one_found [] v h g = cc
  one_found (e ∷ es) v h g = (elim (same_key key e.0) as (λ b. same_key key e.0 ≡ b → cond b (Some e.1) (lookup (same_key key) es) ≡ Some v → P (key, v)) [
    | true ↦ λ t g. let w : e.1 ≡ v = cc in subst (λ (x : KeptReply). P (key, x)) w (subst (λ (k : AskedKey). P (k, e.1)) (sym ((same_key_Decides key e.0).0 t)) h.0)
    | false ↦ λ t g. one_found es v h.1 g
  ]) refl g

-- ---- what is kept of an answer

-- a reply that was given, and its message
pub record IsGiven (r : Req (Unit {0})) (answer : TurnAnswer) (e : KeptReply) : Type 0 where
  pub reply : ReplyState
  pub answered : answer ≡ Ready (Ok reply)
  pub built : reply_message reply ≡ Ok e.message
  pub secs : r.received_secs ≡ e.secs

kept_where : (r : Req (Unit {0})) (m : Msg) (e : KeptReply) → where_kept r m ≡ Some e → (m ≡ e.message) × (r.received_secs ≡ e.secs)
kept_where r m e h =
    let k = (cond_some (can_keep m r.octets) (record { secs = r.received_secs; message = m }) e h).1 in
    (ap (λ (x : KeptReply). x.message) k, ap (λ (x : KeptReply). x.secs) k)

built_where : (r : Req (Unit {0})) (m : Msg) (e : KeptReply) (b : Bool) → option_and_then (where_kept r) (if b then Some m else None) ≡ Some e → (m ≡ e.message) × (r.received_secs ≡ e.secs)
built_where r m e true h = kept_where r m e h
built_where r m e false h = cc

built_from : (r : Req (Unit {0})) (reply : ReplyState) (e : KeptReply) (x : Result Msg ParseError) → reply_message reply ≡ x → option_and_then (where_kept r) (built_message x) ≡ Some e → IsGiven r (Ready (Ok reply)) e
built_from r reply e (Ok m) g h =
    let k = built_where r m e (fits_frame m) h in
    record { reply = reply; answered = refl; built = g ∙ ap (λ (m : Msg). Ok m) k.0; secs = k.1 }
built_from r reply e (Err x) g h = cc

given : (r : Req (Unit {0})) (answer : TurnAnswer) (e : KeptReply) → kept_answer r answer ≡ Some e → IsGiven r answer e
given r (Ready (Ok reply)) e h = built_from r reply e (reply_message reply) refl h
given r (Ready (Err x)) e h = cc
given r Pending e h = cc

-- ---- where an entry comes from

module _ (answer : TurnAnswers) where
  -- an entry is what was kept of an earlier call
  pub record IsFrom (before : List CacheCall) (e : AskedKey × KeptReply) : Type 0 where
    pub call : CacheCall
    pub made : Contains before call
    pub key : key_of call.request.octets ≡ Some e.0
    pub given : IsGiven call.request (answer call.request call.k) e.1

  later : (call : CacheCall) (before : List CacheCall) (e : AskedKey × KeptReply) → IsFrom before e → IsFrom (call ∷ before) e
  later call before e f = record { call = f.call; made = let within = f.made.1 in (suc f.made.0, omega arith, f.made.2); key = f.key; given = f.given }

  all_later : (call : CacheCall) (before : List CacheCall) (es : List (AskedKey × KeptReply)) → AllByRecursion (IsFrom before) es → AllByRecursion (IsFrom (call ∷ before)) es
  all_later call before [] h = tt
  all_later call before (e ∷ es) h = (later call before e h.0, all_later call before es h.1)

  module _ (call : CacheCall) (before : List CacheCall) (c : Cached) (h : AllByRecursion (IsFrom (call ∷ before)) c.entries) where
    used_from : (key : AskedKey) (o : Option KeptReply) → lookup (same_key key) c.entries ≡ o → AllByRecursion (IsFrom (call ∷ before)) (with_used key c o).entries
    used_from key None g = h
    used_from key (Some e) g = (one_found (IsFrom (call ∷ before)) key c.entries e h g, all_removed (IsFrom (call ∷ before)) key c.entries h)

    kept_from : (key : AskedKey) (o : Option KeptReply) → key_of call.request.octets ≡ Some key → kept_answer call.request (answer call.request call.k) ≡ o → AllByRecursion (IsFrom (call ∷ before)) (with_kept key c o).entries
    kept_from key None i g = h
    kept_from key (Some e) i g =
        all_taken (IsFrom (call ∷ before)) c.cap ((key, e) ∷ remove_entry (same_key key) c.entries)
        (record { call = call; made = (0, omega arith, refl); key = i; given = given call.request (answer call.request call.k) e g }, all_removed (IsFrom (call ∷ before)) key c.entries h)

    behind_from : (key : Option AskedKey) (cached : Option Msg) → key_of call.request.octets ≡ key → AllByRecursion (IsFrom (call ∷ before)) (behind_call c call.request (answer call.request call.k) key cached).entries
    behind_from None cached i = h
    behind_from (Some key) (Some m) i = used_from key (lookup (same_key key) c.entries) refl
    behind_from (Some key) None i = kept_from key (kept_answer call.request (answer call.request call.k)) i refl

  entries_from : (capacity : ℕ) (before : List CacheCall) → AllByRecursion (IsFrom before) (cache_behind answer capacity before).entries
  entries_from capacity [] = tt
  entries_from capacity (call ∷ before) =
      let c = cache_behind answer capacity before in
      behind_from call before c (all_later call before c.entries (entries_from capacity before)) (key_of call.request.octets) (cached_message c call.request call.k (key_of call.request.octets)) refl

  -- ---- a reply out of the cache

  aged_earlier : (before : List CacheCall) (r : Req (Unit {0})) (m : Msg) (key : AskedKey) (e : KeptReply) → key_of r.octets ≡ Some key → IsFrom before (key, e) → young_message r e ≡ Some m → IsEarlier answer before r m
  aged_earlier before r m key e i f h =
      let g = f.given in
      let y = cond_some (is_young e r.received_secs && fits_frame (aged_for e r)) (aged_for e r) m h in
      let young : is_young e r.received_secs ≡ true = first_so (is_young e r.received_secs) (fits_frame (aged_for e r)) y.0 in
      let a : e.secs ≤ r.received_secs = leb-true e.secs r.received_secs (first_so (nat_le e.secs r.received_secs) (nat_lt (r.received_secs - e.secs) (least_ttl e.message)) young) in
      let b : r.received_secs - e.secs < least_ttl e.message = ltb-true (r.received_secs - e.secs) (least_ttl e.message) (second_so (nat_le e.secs r.received_secs) (nat_lt (r.received_secs - e.secs) (least_ttl e.message)) young) in
      record {
        call = f.call;
        made = f.made;
        reply = g.reply;
        answered = g.answered;
        message = e.message;
        built = g.built;
        same = f.key ∙ sym i;
        earlier = subst (λ (n : ℕ). n ≤ r.received_secs) (sym g.secs) a;
        young = subst (λ (n : ℕ). r.received_secs - n < least_ttl e.message) (sym g.secs) b;
        lowered = sym y.1 ∙ ap (λ (n : ℕ). aged e.message r.octets (r.received_secs - n)) (sym g.secs);
      }

  found_earlier : (before : List CacheCall) (r : Req (Unit {0})) (m : Msg) (key : AskedKey) (es : List (AskedKey × KeptReply)) (o : Option KeptReply) → key_of r.octets ≡ Some key → AllByRecursion (IsFrom before) es → lookup (same_key key) es ≡ o → option_and_then (young_message r) o ≡ Some m → IsEarlier answer before r m
  found_earlier before r m key es None i all g h = cc
  found_earlier before r m key es (Some e) i all g h = aged_earlier before r m key e i (one_found (IsFrom before) key es e all g) h

  first_earlier : (before : List CacheCall) (r : Req (Unit {0})) (m : Msg) (key : AskedKey) (c : Cached) (b : Bool) → key_of r.octets ≡ Some key → AllByRecursion (IsFrom before) c.entries → (if b then option_and_then (young_message r) (lookup (same_key key) c.entries) else None) ≡ Some m → IsEarlier answer before r m
  first_earlier before r m key c true i all h = found_earlier before r m key c.entries (lookup (same_key key) c.entries) i all refl h
  first_earlier before r m key c false i all h = cc

  cached_earlier : (before : List CacheCall) (call : CacheCall) (m : Msg) (c : Cached) (key : Option AskedKey) → key_of call.request.octets ≡ key → AllByRecursion (IsFrom before) c.entries → cached_message c call.request call.k key ≡ Some m → IsEarlier answer before call.request m
  cached_earlier before call m c None i all h = cc
  cached_earlier before call m c (Some key) i all h = first_earlier before call.request m key c (nat_eq call.k 0) i all h

pub earlier : (answer : TurnAnswers) (capacity : ℕ) (before : List CacheCall) (call : CacheCall) (m : Msg) → (called answer (cache_behind answer capacity before) call).cached ≡ Some m → IsEarlier answer before call.request m
earlier answer capacity before call m h = cached_earlier answer before call m (cache_behind answer capacity before) (key_of call.request.octets) refl (entries_from answer capacity before) h

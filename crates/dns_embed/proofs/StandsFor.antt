-- When a caller's connection stands for the slate of its client.
use Rattle.std.proofs.Common.{◌≡◌, ℕ, zero, suc, ◌+◌, ◌-◌, ◌≤◌, List, [], ◌∷◌, length, Bool, true, false, Option, Some, refl, ap, sym, ◌∙◌, subst, arith, length-set}
use Rattle.std.specs.Prelude.{slice_get, slice_set, min, not, ◌&&◌, if◌then◌else◌}
use Rattle.dns_events.specs.declared.event.Output.{Output}
use Rattle.dns_events.specs.declared.event.Why.{Why}
use Rattle.dns_framing.specs.Frames.{frames, behind_frames}
use Rattle.dns_framing.specs.declared.invoker.ConnectionInvoker.{ConnectionInvoker}
use Rattle.dns_session.specs.Connections.{close, in_transaction}
use Rattle.dns_session.specs.Requests.{most_requests}
use Rattle.dns_session.specs.Slate.{Slate, SlateRequest, Effect, Phase, Open, Flushing, Closed, Conf, with_conf}
use Rattle.dns_session.proofs.Transactions.{passing, recount_one}
use Rattle.dns_embed.specs.declared.connection.Connection.{Connection}
use Rattle.dns_embed.specs.Caller.{Caller, Sending, closed}
use Rattle.dns_embed.specs.Connections.{SameQueue, at_moment, unless_closing}
use Rattle.dns_embed.specs.Transactions.{counted}
use Rattle.dns_embed.specs.Turned.{ShowsIn}

pub record IsOpenFor (k : Caller) (s : Slate) : Type 0 where
  pub here : k.phase ≡ Open
  pub client : k.client ≡ s.client
  pub addr : k.addr ≡ s.addr
  pub phase : s.phase ≡ Open
  pub is_open : k.connection.is_closing ≡ false
  pub shows : ShowsIn k.connection.invoker s
  pub timer : k.connection.timer ≡ s.reset_at
  pub write_timeout : k.connection.write_timeout ≡ s.connection.response_write_timeout
  pub requests : k.requests ≡ s.requests
  pub transactions : k.connection.transactions ≡ passing in_transaction s.requests
  pub few : length s.requests ≤ most_requests
  pub taken : s.taken ≡ length (frames s.received)
  pub whole : behind_frames s.received ≡ []

pub record IsFlushingFor (why : Why) (k : Caller) (s : Slate) : Type 0 where
  pub here : k.phase ≡ Flushing why
  pub client : k.client ≡ s.client
  pub phase : s.phase ≡ Flushing why
  pub write_timeout : k.connection.write_timeout ≡ s.connection.response_write_timeout
  pub queue : k.connection.invoker.queue.items ≡ s.queue

abbrev pub StandsIn : Phase → Caller → Slate → Type 0
StandsIn Open k s = IsOpenFor k s
StandsIn (Flushing why) k s = IsFlushingFor why k s
StandsIn Closed k s = s.phase ≡ Closed
StandsIn _ k s = ⊥

abbrev pub StandsFor : Caller → Slate → Type 0
StandsFor k s = StandsIn k.phase k s

-- what was sent is what the rules send, and the caller's connection stands for the slate after it
abbrev pub Follows : Sending → Effect → Type 0
Follows x t = (x.1 ≡ t.1) × StandsFor x.0 t.0

pub open_for : (k : Caller) (s : Slate) → IsOpenFor k s → StandsFor k s
open_for k s h = subst (λ (p : Phase). StandsIn p k s) (sym h.here) h

pub flushing_for : (why : Why) (k : Caller) (s : Slate) → IsFlushingFor why k s → StandsFor k s
flushing_for why k s h = subst (λ (p : Phase). StandsIn p k s) (sym h.here) h

pub follows_open : (k : Caller) (outs : List Output) (s : Slate) → IsOpenFor k s → Follows (k, outs) (s, outs)
follows_open k outs s h = (refl, open_for k s h)

pub follows_closed : (why : Why) (k : Caller) (s : Slate) → k.client ≡ s.client → Follows (closed why k) (close why s)
follows_closed why k s e = (ap (λ (n : ℕ). (closed why (record k { client = n })).1) e, refl)

-- the configurations that a slate shows are others
pub conf_open : (conf : Conf) (k : Caller) (s : Slate) → IsOpenFor k s → IsOpenFor k (with_conf conf s)
conf_open conf k s h = record {
  here = h.here;
  client = h.client;
  addr = h.addr;
  phase = h.phase;
  is_open = h.is_open;
  shows = record { queue = h.shows.queue; budget = h.shows.budget; idle_timeout = h.shows.idle_timeout };
  timer = h.timer;
  write_timeout = h.write_timeout;
  requests = h.requests;
  transactions = h.transactions;
  few = h.few;
  taken = h.taken;
  whole = h.whole;
}

pub conf_flushing : (why : Why) (conf : Conf) (k : Caller) (s : Slate) → IsFlushingFor why k s → IsFlushingFor why k (with_conf conf s)
conf_flushing why conf k s h = record { here = h.here; client = h.client; phase = h.phase; write_timeout = h.write_timeout; queue = h.queue }

-- octets that are fed change nothing of this
fed_open : (d : Connection) (k : Caller) (s : Slate) → SameQueue (at_moment 0 k.connection) (at_moment 0 d) → IsOpenFor k s → IsOpenFor (record k { connection = d }) s
fed_open d k s same h = record {
  here = h.here;
  client = h.client;
  addr = h.addr;
  phase = h.phase;
  is_open = same.is_closing ∙ h.is_open;
  shows = record {
    queue = ap (λ (i : ConnectionInvoker). i.queue) same.invoker ∙ h.shows.queue;
    budget = ap (λ (i : ConnectionInvoker). i.budget) same.invoker ∙ h.shows.budget;
    idle_timeout = ap (λ (i : ConnectionInvoker). i.idle_timeout) same.invoker ∙ h.shows.idle_timeout;
  };
  timer = same.timer ∙ h.timer;
  write_timeout = same.write_timeout ∙ h.write_timeout;
  requests = h.requests;
  transactions = same.transactions ∙ h.transactions;
  few = h.few;
  taken = h.taken;
  whole = h.whole;
}

fed_flushing : (why : Why) (d : Connection) (k : Caller) (s : Slate) → SameQueue (at_moment 0 k.connection) (at_moment 0 d) → IsFlushingFor why k s
    → IsFlushingFor why (record k { connection = d }) s
fed_flushing why d k s same h = record {
  here = h.here;
  client = h.client;
  phase = h.phase;
  write_timeout = same.write_timeout ∙ h.write_timeout;
  queue = ap (λ (i : ConnectionInvoker). i.queue.items) same.invoker ∙ h.queue;
}

pub feeds : (d : Connection) (p : Phase) (k : Caller) (s : Slate) → SameQueue (at_moment 0 k.connection) (at_moment 0 d) → StandsIn p k s → StandsIn p (record k { connection = d }) s
feeds d Open k s same h = fed_open d k s same h
feeds d (Flushing why) k s same h = fed_flushing why d k s same h
feeds d Closed k s same h = h
feeds d _ k s same h = absurd h

-- one that isn't to be closed goes on
pub goes : (c d : Connection) → c.is_closing ≡ false → unless_closing c d ≡ d
goes c d e = ap (λ (b : Bool). if b then c else d) e

-- as many pass as there are at most, and fewer if one doesn't
module _ (p : SlateRequest → Bool) where
  at_most_by : (r : SlateRequest) (rs : List SlateRequest) (b : Bool) → p r ≡ b → passing p rs ≤ length rs → passing p (r ∷ rs) ≤ suc (length rs)
  at_most_by r rs true e h = rw (e) (omega arith)
  at_most_by r rs false e h = rw (e) (omega arith)

  at_most : (rs : List SlateRequest) → passing p rs ≤ length rs
  at_most [] = omega arith
  at_most (r ∷ rs) = at_most_by r rs (p r) refl (at_most rs)

  fewer_by : (r : SlateRequest) (rs : List SlateRequest) (b : Bool) → p r ≡ b → suc (passing p rs) ≤ length rs → suc (passing p (r ∷ rs)) ≤ suc (length rs)
  fewer_by r rs true e h = rw (e) (omega arith)
  fewer_by r rs false e h = rw (e) (omega arith)

  fewer : (rs : List SlateRequest) (n : ℕ) (r : SlateRequest) → slice_get rs n ≡ Some r → p r ≡ false → suc (passing p rs) ≤ length rs
  fewer [] n r is e = cc
  fewer (x ∷ rs) zero r is e =
      let same : x ≡ r = cc in
      let most = at_most rs in
      rw (ap p same ∙ e) (omega (arith, most))
  fewer (x ∷ rs) (suc n) r is e = fewer_by x rs (p x) refl (fewer rs n r is e)

-- how many are in a transaction
counted_within : (was now : Bool) (t many : ℕ) → (was ≡ false → suc t ≤ many) → many ≤ most_requests
    → counted t was now ≡ (if now && not was then min (t + 1) many else (if was && not now then t - 1 else t))
counted_within true true t many h few = refl
counted_within true false t many h few = refl
counted_within false true t many h few = let below = h refl in omega (arith, below, few)
counted_within false false t many h few = refl

pub counted-same : (b : Bool) (n : ℕ) → counted n b b ≡ n
counted-same true n = refl
counted-same false n = refl

-- a slate with another request at a number, queue, budget and idle timeout
abbrev pub moved : ℕ → SlateRequest → ℕ → List (List ℕ) → Option ℕ → ℕ → Slate → Slate
moved n r timeout queue mark spent s = record s {
  connection = record s.connection { idle_timeout = timeout };
  requests = slice_set s.requests n r;
  queue = queue;
  mark = mark;
  spent = spent;
}

-- all else of a connection stays
pub record SameBeside (c d : Connection) : Type 0 where
  pub timer : d.timer ≡ c.timer
  pub write_timeout : d.write_timeout ≡ c.write_timeout
  pub is_closing : d.is_closing ≡ c.is_closing

module _ (n timeout : ℕ) (queue : List (List ℕ)) (mark : Option ℕ) (spent : ℕ) (k : Caller) (s : Slate) where
  pub moves : (r r' : SlateRequest) (d : Connection) (was now : Bool) → IsOpenFor k s → slice_get s.requests n ≡ Some r
      → was ≡ in_transaction r → now ≡ in_transaction r' → d.transactions ≡ counted k.connection.transactions was now
      → SameBeside k.connection d → ShowsIn d.invoker (moved n r' timeout queue mark spent s)
      → IsOpenFor (record k { connection = d; requests = slice_set k.requests n r' }) (moved n r' timeout queue mark spent s)
  moves r r' d was now h is before after count same shows =
      let rs = s.requests in
      let counted_now : d.transactions ≡ (if now && not was then min (k.connection.transactions + 1) (length rs) else (if was && not now then k.connection.transactions - 1 else k.connection.transactions)) =
      count ∙ counted_within was now k.connection.transactions (length rs)
      (λ e. subst (λ (t : ℕ). suc t ≤ length rs) (sym h.transactions) (fewer in_transaction rs n r is (sym before ∙ e))) h.few in
      let many = length-set rs n r' in
      let few = h.few in
      record {
        here = h.here;
        client = h.client;
        addr = h.addr;
        phase = h.phase;
        is_open = same.is_closing ∙ h.is_open;
        shows = shows;
        timer = same.timer ∙ h.timer;
        write_timeout = same.write_timeout ∙ h.write_timeout;
        requests = ap (λ (rs : List SlateRequest). slice_set rs n r') h.requests;
        transactions = recount_one in_transaction rs n r r' was now (length rs) d.transactions k.connection.transactions is before after refl h.transactions counted_now;
        few = omega (arith, many, few);
        taken = h.taken;
        whole = h.whole;
      }

-- what stands at a number, written there, changes nothing
pub set_same : (rs : List SlateRequest) (n : ℕ) (r : SlateRequest) → slice_get rs n ≡ Some r → slice_set rs n r ≡ rs
set_same [] n r e = cc
set_same (x ∷ rs) zero r e = let same : x ≡ r = cc in ap (λ (y : SlateRequest). y ∷ rs) (sym same)
set_same (x ∷ rs) (suc n) r e = ap (λ (ys : List SlateRequest). x ∷ ys) (set_same rs n r e)

-- The order of the events of a driver of datagrams, with a look more, or an own event.
use Rattle.std.proofs.Common.{◌≡◌, List, [], ◌∷◌, ◌++◌, Bool, true, false, refl, ap, sym, ◌∙◌, append_assoc, append-nil, Option}
use Rattle.std.specs.Prelude.{◌==◌, ◌||◌, if◌then◌else◌}
use Rattle.std.proofs.lemmas.Bool.{eq-eqb}
use Rattle.dns_events.specs.declared.look.Look.{Look}
use Rattle.dns_events.specs.declared.event.Event.{Event}
use Rattle.dns_recorder.specs.Woven.{kinds, news_kinds, seen_with}
use Rattle.dns_dgram_driver.specs.Events.{IsOwnKind}
use Rattle.dns_dgram_driver.specs.Order.{RecordedPart, looked, acted, fault_events, events_of, looks_of, all_events_of, all_looks_of, IsFaultOf, AreInOrder}
use Rattle.dns_dgram_driver.specs.Steps.{hears}
use Rattle.dns_dgram_driver.specs.Rounds.{is_ready, seen_in, Ordered}

events_snoc : (rs : List RecordedPart) (r : RecordedPart) → all_events_of (rs ++ r ∷ []) ≡ all_events_of rs ++ events_of r
events_snoc [] r = append-nil (events_of r)
events_snoc (x ∷ rs) r = rw (events_snoc rs r) (simp append_assoc)

looks_snoc : (rs : List RecordedPart) (r : RecordedPart) → all_looks_of (rs ++ r ∷ []) ≡ all_looks_of rs ++ looks_of r
looks_snoc [] r = append-nil (looks_of r)
looks_snoc (x ∷ rs) r = rw (looks_snoc rs r) (simp append_assoc)

order_looked : (before : Look) (ready : Bool) (rs : List RecordedPart) (look : Look) (es : List Event) → AreInOrder before ready rs → kinds es ≡ news_kinds (seen_in before rs) look → AreInOrder before ready (rs ++ looked look es ∷ [])
order_looked before ready [] look es o k = (k, tt)
order_looked before ready (looked l ns ∷ rs) look es o k = (o.0, order_looked (seen_with before l) true rs look es o.1 k)
order_looked before ready (acted e f ∷ rs) look es o k = (o.0, o.1, o.2, order_looked before false rs look es o.3 k)

order_acted : (before : Look) (ready : Bool) (rs : List RecordedPart) (e : Event) (f : Option Event) → AreInOrder before ready rs → is_ready ready rs ≡ true → IsOwnKind e.kind → IsFaultOf e f → AreInOrder before ready (rs ++ acted e f ∷ [])
order_acted before ready [] e f o r k i = (r, k, i, tt)
order_acted before ready (looked l ns ∷ rs) e f o r k i = (o.0, order_acted (seen_with before l) true rs e f o.1 r k i)
order_acted before ready (acted x g ∷ rs) e f o r k i = (o.0, o.1, o.2, order_acted before false rs e f o.3 r k i)

ready_looked : (ready : Bool) (rs : List RecordedPart) (look : Look) (es : List Event) → is_ready ready (rs ++ looked look es ∷ []) ≡ true
ready_looked ready [] look es = refl
ready_looked ready (looked l ns ∷ rs) look es = ready_looked true rs look es
ready_looked ready (acted e f ∷ rs) look es = ready_looked false rs look es

seen_looked : (before : Look) (rs : List RecordedPart) (look : Look) (es : List Event) → seen_in before (rs ++ looked look es ∷ []) ≡ seen_with (seen_in before rs) look
seen_looked before [] look es = refl
seen_looked before (looked l ns ∷ rs) look es = seen_looked (seen_with before l) rs look es
seen_looked before (acted e f ∷ rs) look es = seen_looked before rs look es

seen_acted : (before : Look) (rs : List RecordedPart) (e : Event) (f : Option Event) → seen_in before (rs ++ acted e f ∷ []) ≡ seen_in before rs
seen_acted before [] e f = refl
seen_acted before (looked l ns ∷ rs) e f = seen_acted (seen_with before l) rs e f
seen_acted before (acted x g ∷ rs) e f = seen_acted before rs e f

-- what is heard of a look
heard_case : (heard look : Look) (b : Bool) →
    let h : Look = (if b then record heard { version = look.version; closed = heard.closed || look.closed } else record look { closed = heard.closed || look.closed }) in
    (h.version ≡ look.version) × (h.closed ≡ (heard.closed || look.closed))
heard_case heard look true = (refl, refl)
heard_case heard look false = (refl, refl)

pub hears_version : (heard look : Look) → (hears heard look).version ≡ look.version
hears_version heard look = (heard_case heard look (heard.closed || (look.version == heard.version))).0

pub hears_closed : (heard look : Look) → (hears heard look).closed ≡ (heard.closed || look.closed)
hears_closed heard look = (heard_case heard look (heard.closed || (look.version == heard.version))).1

-- the news depend on the version and the end that were seen
same_news : (a b look : Look) → a.version ≡ b.version → a.closed ≡ b.closed → news_kinds a look ≡ news_kinds b look
same_news a b look v c = rw (v, c) refl

-- a look, and its news
pub ordered_look : (first : Look) (looks : List Look) (events : List Event) (heard : Look) (ready : Bool) (look : Look) (es : List Event) → kinds es ≡ news_kinds heard look
    → Ordered first looks events heard ready → Ordered first (looks ++ look ∷ []) (events ++ es) (hears heard look) true
ordered_look first looks events heard ready look es k o =
    let i = o.order in
    let r = looked look es in
    record {
      order = record {
        opening = i.opening;
        records = i.records ++ r ∷ [];
        recorded = rw (events_snoc i.records r, i.recorded) (append_assoc i.opening (all_events_of i.records) es);
        seen = rw (looks_snoc i.records r, i.seen) refl;
        opened = i.opened;
        order = order_looked first true i.records look es i.order (k ∙ same_news heard (seen_in first i.records) look (sym o.version) (sym o.closed));
      };
      readied = λ _. ready_looked true i.records look es;
      version = ap (λ (l : Look). l.version) (seen_looked first i.records look es) ∙ sym (hears_version heard look);
      closed = ap (λ (l : Look). l.closed) (seen_looked first i.records look es) ∙ ap (λ (b : Bool). b || look.closed) o.closed ∙ sym (hears_closed heard look);
    }

-- an own event, and the Fault of its exchange if one follows
pub ordered_own : (first : Look) (looks : List Look) (events : List Event) (heard : Look) (e : Event) (fault : Option Event) → IsOwnKind e.kind → IsFaultOf e fault
    → Ordered first looks events heard true → Ordered first looks (events ++ e ∷ fault_events fault) heard false
ordered_own first looks events heard e fault k f o =
    let i = o.order in
    let r = acted e fault in
    record {
      order = record {
        opening = i.opening;
        records = i.records ++ r ∷ [];
        recorded = rw (events_snoc i.records r, i.recorded) (append_assoc i.opening (all_events_of i.records) (e ∷ fault_events fault));
        seen = rw (looks_snoc i.records r, i.seen) (sym (append-nil (all_looks_of i.records)));
        opened = i.opened;
        order = order_acted first true i.records e fault i.order (o.readied refl) k f;
      };
      readied = λ h. cc;
      version = ap (λ (l : Look). l.version) (seen_acted first i.records e fault) ∙ o.version;
      closed = ap (λ (l : Look). l.closed) (seen_acted first i.records e fault) ∙ o.closed;
    }

-- the first look: no shutdown was heard before it
pub ordered_first : (first : Look) (es : List Event) → kinds es ≡ news_kinds (record first { closed = false }) first → Ordered first [] es (hears (record first { closed = false }) first) true
ordered_first first es k = record {
  order = record {
    opening = es;
    records = [];
    recorded = sym (append-nil es);
    seen = refl;
    opened = let same : (first.version == first.version) ≡ true = eq-eqb first.version first.version refl in rw same at k;
    order = tt;
  };
  readied = λ _. refl;
  version = sym (hears_version (record first { closed = false }) first);
  closed = sym (hears_closed (record first { closed = false }) first);
}

-- if an own event may come, none needs to
pub ordered_rest : (first : Look) (looks : List Look) (events : List Event) (heard : Look) (ready : Bool) → Ordered first looks events heard ready → Ordered first looks events heard false
ordered_rest first looks events heard ready o = record { order = o.order; readied = λ h. cc; version = o.version; closed = o.closed }

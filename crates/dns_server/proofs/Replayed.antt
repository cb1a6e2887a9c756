-- The events of a connection that was served, when they are served again.
use Rattle.std.proofs.Common.{◌≡◌, ◌≤◌, ℕ, List, [], ◌∷◌, ◌++◌, Bool, true, false, refl, ap, sym, ◌∙◌, length, arith}
use Rattle.std.proofs.Math.Logic.{∥∥₁_elim}
use Rattle.std.specs.Coded.{Coded-set}
use Rattle.std.specs.Prelude.{◌==◌, ◌||◌, not, nat_eq, filter, if◌then◌else◌, Ok}
use Rattle.std.specs.List.{All, list_any}
use Rattle.std.proofs.lemmas.Bool.{eq-eqb, lt-ltb}
use Rattle.dns_name.specs.declared.address.SocketAddr.{SocketAddr}
use Rattle.dns_events.specs.declared.look.Look.{Look}
use Rattle.dns_book.specs.declared.history.Known.{Known}
use Rattle.dns_io.specs.Traffic.{Traffic}
use Rattle.dns_service.specs.Config.{IsStream}
use Rattle.dns_events.specs.contracts.settings.Settings as settings_row
use Rattle.dns_events.specs.declared.event.Event.{Event}
use Rattle.dns_events.specs.declared.event.EventKind.{EventKind}
use Rattle.dns_events.specs.declared.event.EventKind.TheVariants.{Piece}
use Rattle.dns_events.specs.declared.event.Why.{Why}
use Rattle.dns_events.specs.declared.settings.Settings.{Settings}
use Rattle.dns_session.specs.Serving.{Serving}
use Rattle.dns_session.specs.Connections.{opened}
use Rattle.dns_session.specs.Slate.{Conf, conf_of, fresh}
use Rattle.dns_session.specs.After.{slate_after, sent_after}
use Rattle.dns_recorder.specs.Woven.{AllOf}
use Rattle.dns_stream_driver.specs.Story.{all_but_last, began}
use Rattle.dns_stream_driver.specs.Endings.{WasServed, offer}
use Rattle.dns_core.specs.ByClient.{is_for, is_member}
use Rattle.dns_core.specs.Own.{concerns, is_wide, own}
use Rattle.dns_core.specs.Out.{has_room, is_new, joined, joins, members, members_after, out, put, taken}
use Rattle.dns_core.specs.Sent.{conf, sent, slate}
use Rattle.dns_core.specs.Settings.{opening}
use Rattle.dns_core.proofs.Counted.{put_keeps, put_there}
use Rattle.dns_trace.specs.InRange.{IsEvent, IsSettings}
use Rattle.dns_trace.specs.Trace.{settings_text, trace}
use Rattle.dns_trace.specs.Traced.{traced}
use Rattle.dns_server.proofs.Noted.{same_lines}
use Rattle.dns_server.specs.Recorded.{TraceReadsBack, settings_event}
use Rattle.dns_server.specs.Replays.{Replays}

-- a connection hears all events of its trace
wide_or : (w : Bool) (d c : ℕ) → d ≡ (if w then 0 else c) → (w || (d == c)) ≡ true
wide_or true d c h = refl
wide_or false d c h = eq-eqb d c h

hears : (c : ℕ) (e : Event) → e.client ≡ (if is_wide e.kind then 0 else c) → concerns c e ≡ true
hears c e h = wide_or (is_wide e.kind) e.client c h

own_all : (c : ℕ) (es : List Event) → AllOf c es → own c es ≡ es
own_all c [] h = refl
own_all c (e ∷ es) h = rw (hears c e h.0, own_all c es h.1) refl

all_of_front : (c : ℕ) (es : List Event) → AllOf c es → AllOf c (all_but_last es)
all_of_front c [] h = tt
all_of_front c (e ∷ []) h = tt
all_of_front c (e ∷ f ∷ es) h = (h.0, all_of_front c (f ∷ es) h.1)

-- it is a member, and stays one
joined_keeps : (b : Bool) (c d : ℕ) (ms : List ℕ) → list_any (nat_eq c) ms ≡ true → list_any (nat_eq c) (if b then put d ms else ms) ≡ true
joined_keeps true c d ms h = put_keeps c d ms h
joined_keeps false c d ms h = h

stays : (answers : Serving) (settings : Settings) (c : ℕ) (q : List Event) (ms : List ℕ) (es : List Event) → list_any (nat_eq c) ms ≡ true → list_any (nat_eq c) (members_after answers settings q ms es) ≡ true
stays answers settings c q ms [] h = h
stays answers settings c q ms (e ∷ es) h =
    stays answers settings c (q ++ e ∷ []) (joined answers settings q ms e) es (joined_keeps (joins answers settings q ms e) c e.client ms h)

either : (b held : Bool) → b ≡ true → (not held || b) ≡ true
either b true h = h
either b false h = refl

module _ (answers : Serving) (settings : Settings) (client : ℕ) (addr : SocketAddr) (at secs : ℕ) where
  abbrev first : Event
  first = offer client addr at secs

  begins : is_new answers settings [] first ≡ true
  unfolding is_new slate
  begins = rw (hears client first refl) refl

  room : IsStream settings.stream → has_room answers settings [] [] ≡ true
  unfolding has_room taken conf
  room h = lt-ltb 0 settings.stream.max_concurrent_connections (let m : 1 ≤ settings.stream.max_concurrent_connections = h.max_concurrent_connections.0 in omega arith)

  enters : IsStream settings.stream → joins answers settings [] [] first ≡ true
  enters h = rw begins (either (has_room answers settings [] []) _ (room h))

  member : IsStream settings.stream → (es : List Event) → is_member answers settings client (first ∷ es) ≡ true
  unfolding members
  member h es = stays answers settings client (first ∷ []) (joined answers settings [] [] first) es (rw (enters h) (put_there client []))

  -- what the client is sent, and its slate
  sent_is : (look : Look) (es : List Event) → conf_of look ≡ opening settings → AllOf client es → sent answers settings (own client (first ∷ es)) ≡ sent_after answers (began client addr at look) es
  unfolding sent
  sent_is look es c mine =
      ap (sent_after answers (fresh (opening settings))) (own_all client (first ∷ es) (refl, mine))
      ∙ ap (λ (s : Conf). sent_after answers (opened client addr at (fresh s)) es) (sym c)

  slate_is : (look : Look) (es : List Event) → conf_of look ≡ opening settings → AllOf client es → slate answers settings client (first ∷ es) ≡ slate_after answers (began client addr at look) es
  unfolding slate
  slate_is look es c mine =
      ap (slate_after answers (fresh (opening settings))) (own_all client (first ∷ es) (refl, mine))
      ∙ ap (λ (s : Conf). slate_after answers (opened client addr at (fresh s)) es) (sym c)

-- some events, of which there is a last one
some_last : (first : Event) (es before : List Event) (event : Event) → es ≡ before ++ event ∷ [] → all_but_last (first ∷ es) ≡ first ∷ all_but_last es
some_last first (e ∷ es) before event is = refl
some_last first [] [] event is = let n : 0 ≡ length (event ∷ []) = ap length is in absurd (omega arith)
some_last first [] (b ∷ bs) event is = let n : 0 ≡ length (b ∷ (bs ++ event ∷ [])) = ap length is in absurd (omega arith)

conf_is : (settings : Settings) (look : Look) → look.dgram ≡ settings.dgram → look.stream ≡ settings.stream → look.closed ≡ false → conf_of look ≡ opening settings
conf_is settings look d s c = rw (d, s, c) refl

-- the octets of a piece
abbrev kind_octets : EventKind → List ℕ
kind_octets (Piece octets) = octets
kind_octets _ = []

abbrev behind : List Event → List Event
behind [] = []
behind (e ∷ es) = es

abbrev ahead : List Event → Event → Event
ahead [] d = d
ahead (e ∷ es) d = e

pub replays : (answers : Serving) (settings : Settings) (why : Why) (client : ℕ) (addr : SocketAddr) (look : Look) (text : List ℕ) (noted : List Event) (k k' : Known) (t t' : Traffic)
    → ((es : List Event) → is_member answers settings client es ≡ true → filter (is_for client) (out answers settings es) ≡ sent answers settings (own client es))
    → ((s : Settings) (es : List Event) → IsSettings s → All IsEvent es → traced (trace s es) ≡ Ok (s, es))
    → IsSettings settings → look.dgram ≡ settings.dgram → look.stream ≡ settings.stream → look.closed ≡ false
    → TraceReadsBack text noted → WasServed answers why client addr look (settings_event settings ∷ []) noted k k' t t' → Replays answers settings client why text t t'
replays answers settings why client addr look text noted k k' t t' law back_law range d s c back served =
    let opened = served.opened in
    let story = opened.story in
    let events = story.events in
    let start = offer client addr opened.at opened.secs in
    let conf = conf_is settings look d s c in
    let all : settings_event back.settings ∷ back.events ≡ settings_event settings ∷ start ∷ events = sym back.noted_are ∙ story.noted in
    let same : back.events ≡ start ∷ events = ap behind all in
    let lines : settings_text back.settings ≡ settings_text settings = ap (λ (es : List Event). kind_octets (ahead es start).kind) all in
    let these : back.settings ≡ settings = ∥∥₁_elim back.sound (Coded-set settings_row.the_row.coded _ _) (λ sound. same_lines back_law back.settings settings sound range lines) in
    let mine : filter (is_for client) (out answers settings (start ∷ events)) ≡ sent_after answers (began client addr opened.at look) events =
    law (start ∷ events) (member answers settings client addr opened.at opened.secs range.stream events)
    ∙ sent_is answers settings client addr opened.at opened.secs look events conf story.mine in
    let front : slate answers settings client (all_but_last (start ∷ events)) ≡ slate_after answers (began client addr opened.at look) (all_but_last events) =
    rw (some_last start events story.last.before story.last.event story.last.is)
    (slate_is answers settings client addr opened.at opened.secs look (all_but_last events) conf (all_of_front client events story.mine)) in
    record {
      events = back.events;
      extra = story.extra;
      is = back.is ∙ ap (λ (x : Settings). trace x back.events) these;
      read = back.read ∙ ap (λ (x : Settings). Ok (x, back.events)) these;
      went = rw (same, mine) story.went;
      cut = rw (same, front) story.cut;
    }

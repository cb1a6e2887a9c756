-- The news of a look, as they are noted.
use Rattle.std.proofs.Common.{◌≡◌, ◌+◌, List, [], ◌∷◌, ◌++◌, true, refl, sym, ◌∙◌, append_assoc, arith}
use Rattle.std.proofs.lemmas.List.{append_cancel_left}
use Rattle.dns_events.specs.declared.look.Look.{Look}
use Rattle.dns_io.specs.Causes.{Observed}
use Rattle.dns_events.specs.declared.event.Event.{Event}
use Rattle.dns_events.specs.declared.event.EventKind.{EventKind}
use Rattle.dns_events.specs.declared.event.EventKind.TheVariants.{Reconfigure, Shutdown}
use Rattle.dns_session.specs.News.{new_configurations, new_end}
use Rattle.dns_recorder.specs.Own.{is_wide}
use Rattle.dns_recorder.specs.Clocks.{ClockReading, Timed, write_count, writes_in, fault_count, faults_in}
use Rattle.dns_recorder.specs.Woven.{kinds, AreNobodys}
use Rattle.dns_recorder.specs.Notes.{AllWide, NotedKinds}
use Rattle.dns_recorder.proofs.NotedEvents.{kinds_append}
use Rattle.dns_dgram_driver.specs.DatagramsServed.{Clocked}
use Rattle.dns_dgram_driver.specs.Steps.{NewsNoted}
use Rattle.dns_dgram_driver.proofs.Clocks.{clocked_then}
use Rattle.dns_dgram_driver.proofs.KeptExchanges.{news_wide}

no_count : (k : EventKind) → is_wide k ≡ true → write_count k + fault_count k ≡ 0
no_count (Reconfigure dgram stream) w = refl
no_count Shutdown w = refl
no_count _ w = cc

no_counts : (es : List Event) → AllWide (kinds es) → writes_in es + faults_in es ≡ 0
no_counts [] w = refl
no_counts (e ∷ es) w = let a = no_count e.kind w.0 in let b = no_counts es w.1 in omega arith

timed_wide : (n n' es : List Event) (c c' : List ClockReading) → n' ≡ n ++ es → AllWide (kinds es) → Timed n n' 0 0 c c' → Clocked es c c' 0 0
timed_wide n n' es c c' h w t =
    let same : t.events ≡ es = append_cancel_left n t.events es (sym t.noted ∙ h) in
    let none = no_counts es w in record {
      readings = t.readings;
      clock = t.clock;
      dated = rw same at t.dated;
      count = let b = rw same at t.count in omega arith;
    }

wide_front : (es fs : List Event) → AllWide (kinds (es ++ fs)) → AllWide (kinds es) × AllWide (kinds fs)
wide_front [] fs w = (tt, w)
wide_front (e ∷ es) fs w = let x = wide_front es fs w.1 in ((w.0, x.0), x.1)

nobodys_both : (es fs : List Event) → AreNobodys es → AreNobodys fs → AreNobodys (es ++ fs)
nobodys_both [] fs a b = b
nobodys_both (e ∷ es) fs a b = (a.0, nobodys_both es fs a.1 b)

-- the configurations, and then the shutdown
news_by : (heard look : Look) (n n1 n2 : List Event) (c c1 c2 : List ClockReading) → NotedKinds (kinds (new_configurations heard.version look)) n n1 → NotedKinds (kinds (new_end heard.closed look)) n1 n2
    → Timed n n1 0 0 c c1 → Timed n1 n2 0 0 c1 c2 → NewsNoted heard look n n2 c c2
news_by heard look n n1 n2 c c1 c2 a b s t =
    let news : kinds (a.events ++ b.events) ≡ kinds (new_configurations heard.version look ++ new_end heard.closed look) =
    kinds_append a.events b.events ∙ rw (a.kinds_are, b.kinds_are) (sym (kinds_append (new_configurations heard.version look) (new_end heard.closed look))) in
    let wide = wide_front a.events b.events (news_wide heard look (a.events ++ b.events) news) in record {
      events = a.events ++ b.events;
      news = news;
      nobodys = nobodys_both a.events b.events a.nobodys b.nobodys;
      noted = rw (b.noted, a.noted) (append_assoc n a.events b.events);
      clock = clocked_then a.events b.events c c1 c2 0 0 0 (timed_wide n n1 a.events c c1 a.noted wide.0 s) (timed_wide n1 n2 b.events c1 c2 b.noted wide.1 t);
    }

-- if clock and recorder tell
pub tells_news : {c c1 c2 j j1 j2 : Type 0} {heard look : Look} {n n1 n2 : List Event} {r r1 r2 : List ClockReading}
    → Observed j1 j (NotedKinds (kinds (new_configurations heard.version look)) n n1) → Observed (c1 × j1) (c × j) (Timed n n1 0 0 r r1)
    → Observed j2 j1 (NotedKinds (kinds (new_end heard.closed look)) n1 n2) → Observed (c2 × j2) (c1 × j1) (Timed n1 n2 0 0 r1 r2)
    → Observed (c2 × j2) (c × j) (NewsNoted heard look n n2 r r2)
tells_news {heard = heard} {look = look} {n = n} {n1 = n1} {n2 = n2} {r = r} {r1 = r1} {r2 = r2} a s b t = record {
  observed = λ x.
      let y = t.observed x in
      let z = s.observed y.0 in
      (z.0, news_by heard look n n1 n2 r r1 r2 (a.observed y.0.1).1 (b.observed x.1).1 z.1 y.1);
}

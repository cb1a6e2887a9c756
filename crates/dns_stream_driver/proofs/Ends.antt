-- How a connection ends.
use Rattle.std.proofs.Common.{◌≡◌, ℕ, ◌≤◌, List, [], ◌∷◌, ◌++◌, refl, sym, ◌∙◌, arith, append_assoc, inl, inr, Some}
use Rattle.std.proofs.lemmas.List.{append_cancel_left}
use Rattle.dns_name.specs.declared.address.SocketAddr.{SocketAddr}
use Rattle.dns_events.specs.declared.look.Look.{Look}
use Rattle.dns_admission.specs.declared.call.Call.TheVariants.{Release}
use Rattle.dns_admission.specs.declared.call.Reply.TheVariants.{Left}
use Rattle.dns_book.specs.Seats.{Called}
use Rattle.dns_book.specs.declared.history.Known.{Known}
use Rattle.dns_io.specs.Traffic.{Traffic}
use Rattle.dns_events.specs.declared.event.Event.{Event}
use Rattle.dns_events.specs.declared.event.EventKind.TheVariants.{Offer}
use Rattle.dns_events.specs.declared.event.Why.{Why}
use Rattle.dns_service.specs.Answer.{Answer}
use Rattle.dns_service.specs.declared.polled.PolledRequest.{PolledRequest}
use Rattle.dns_session.specs.Connections.{opened}
use Rattle.dns_session.specs.Serving.{Serving}
use Rattle.dns_session.specs.Slate.{Slate, IsUnused, conf_of, fresh}
use Rattle.dns_session.specs.Stands.{Stands}
use Rattle.dns_session.specs.declared.client.ClientCore.{ClientCore}
use Rattle.dns_recorder.specs.Clocks.{ClockReading, Timed, TimedWhole, faults_in}
use Rattle.dns_recorder.specs.Notes.{NotedMoment}
use Rattle.dns_recorder.specs.Woven.{look_entries}
use Rattle.dns_stream_driver.specs.Endings.{offer, ShownFrom, WasOffered, WasServed, Unserved}
use Rattle.dns_stream_driver.specs.Shown.{Shown}
use Rattle.dns_stream_driver.specs.Story.{Story, Broken, LooksAlone, LooksAndRelease, began}
use Rattle.dns_stream_driver.specs.Turning.{BeginsOpen}
use Rattle.dns_stream_driver.proofs.Appends.{gained_more}

pub looks_release : (k k1 k2 : Known) (left : ℕ) → LooksAlone k k1 → Called k1 Release (Left left) k2 → LooksAndRelease k k2
looks_release k k1 k2 left a c = record {
  looks = a.looks;
  left = left;
  calls = gained_more k k1 k2 (look_entries k.name a.looks) Release (Left left) a.calls a.name c;
  name = c.same_name ∙ a.name;
}

-- a core that was admitted stands where a connection begins
pub begins : {W R F : Type 0} (answer : PolledRequest F R → ℕ → Answer) (answers : Serving) (core : ClientCore W R F) (client : ℕ) (addr : SocketAddr) (at : ℕ) (look : Look) →
    ((rules : Serving) (s : Slate) → IsUnused s → s.conf ≡ conf_of look → Stands answer rules core (opened client addr at s)) → core.version ≡ look.version → BeginsOpen answer answers core look (began client addr at look)
begins answer answers core client addr at look h v = record { stands = h answers (fresh (conf_of look)) refl refl; version = v; over = refl; opened = refl; nothing = refl }

module _ (answers : Serving) where
  pub offered : (why : Why) (client : ℕ) (addr : SocketAddr) (at : ℕ) (look : Look) (n n1 n2 : List Event) (k k' : Known) (t t' : Traffic) → NotedMoment client (Offer addr) at n n1 →
      Story answers (began client addr at look) client look (Some why) n1 n2 k k' t t' → WasOffered answers why client addr look n n2 k k' t t'
  offered why client addr at look n n1 n2 k k' t t' o s = let h = o.noted in record { at = at; secs = o.secs; story = rw h at s }

  pub shown_offered : (why : Why) (client : ℕ) (addr : SocketAddr) (at : ℕ) (look : Look) (n n1 n2 : List Event) (t t' : Traffic) → NotedMoment client (Offer addr) at n n1 →
      Shown answers (began client addr at look) why n1 n2 t t' → ShownFrom answers why client addr look n n2 t t'
  shown_offered why client addr at look n n1 n2 t t' o s = let h = o.noted in record { at = at; secs = o.secs; shown = rw h at s }

  pub unserved_early : (client : ℕ) (addr : SocketAddr) (look : Look) (n n1 : List Event) (t : Traffic) → n1 ≡ n → Unserved answers client addr look n n1 t t
  unserved_early client addr look n n1 t e = record { begun = inl (e, refl) }

  pub unserved_late : (client : ℕ) (addr : SocketAddr) (at : ℕ) (look : Look) (n n1 n2 : List Event) (t t' : Traffic) → NotedMoment client (Offer addr) at n n1 →
      Broken answers (began client addr at look) client n1 n2 t t' → Unserved answers client addr look n n2 t t'
  unserved_late client addr at look n n1 n2 t t' o b = let h = o.noted in record { begun = inr (record { at = at; secs = o.secs; broken = rw h at b }) }

  pub served : (why : Why) (client : ℕ) (addr : SocketAddr) (left : ℕ) (look : Look) (n n' : List Event) (k k1 k2 : Known) (t t1 t2 : Traffic) →
      WasOffered answers why client addr look n n' k k1 t t1 → Called k1 Release (Left left) k2 → t2 ≡ t1 → WasServed answers why client addr look n n' k k2 t t2
  served why client addr left look n n' k k1 k2 t t1 t2 o c e = record { between = k1; left = left; opened = rw e o; released = c }

  pub unserved_closed : (client : ℕ) (addr : SocketAddr) (look : Look) (n n' : List Event) (t t1 t2 : Traffic) → Unserved answers client addr look n n' t t1 → t2 ≡ t1 → Unserved answers client addr look n n' t t2
  unserved_closed client addr look n n' t t1 t2 u e = rw e u

  -- a connection has one Fault at most
  pub timed_whole : (why : Why) (client : ℕ) (addr : SocketAddr) (look : Look) (n n' : List Event) (k k' : Known) (t t1 t2 : Traffic) (f : ℕ) (c c' : List ClockReading) →
      WasOffered answers why client addr look n n' k k' t t1 → Timed n n' f t1.full_writes c c' → t2 ≡ t1 → TimedWhole n n' f t2.full_writes c c'
  timed_whole why client addr look n n' k k' t t1 t2 f c c' o m e =
      let first : Event = offer client addr o.at o.secs in
      let es : List Event = first ∷ o.story.events in
      let split : n' ≡ n ++ es = o.story.noted ∙ append_assoc n (first ∷ []) o.story.events in
      let same : m.events ≡ es = append_cancel_left n m.events es (sym m.noted ∙ split) in
      let one : faults_in m.events ≤ 1 = let u = o.story.one_fault in rw same (omega arith) in
      record { events = m.events; readings = m.readings; noted = m.noted; clock = m.clock; dated = m.dated; count = rw e (let p = m.count in omega arith) }

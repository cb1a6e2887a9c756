-- How a connection ends says that the rules were kept to.
use Rattle.std.proofs.Common.{◌≡◌, ◌⊎◌, inl, inr, ℕ, List, [], ◌∷◌, ◌++◌, refl, sym, append-nil, append_assoc, ◌∙◌, ap}
use Rattle.dns_name.specs.declared.address.SocketAddr.{SocketAddr}
use Rattle.dns_events.specs.declared.look.Look.{Look}
use Rattle.dns_events.specs.declared.event.Event.{Event}
use Rattle.dns_book.specs.declared.history.Known.{Known}
use Rattle.dns_io.specs.Traffic.{Traffic}
use Rattle.dns_session.specs.Serving.{Serving}
use Rattle.dns_stream_driver.specs.Endings.{EndsSo, BrokenOpen, offer}
use Rattle.dns_stream_driver.specs.Links.{pieces_in}
use Rattle.dns_stream_driver.specs.declared.connection.ConnectionEnd.{ConnectionEnd}
use Rattle.dns_stream_driver.specs.declared.connection.ConnectionEnd.TheVariants.{Closed, OutOfMemory}
use Rattle.dns_dgram_driver.specs.DatagramsServed.{World, ServedTo, ServedBy}
use Rattle.dns_dgram_driver.specs.Events.{packets_in}
use Rattle.dns_dgram_driver.specs.Sent.{settings_shown, packets_delivered}
use Rattle.dns_dgram_driver.specs.declared.serving.DgramEnd.{DgramEnd}
use Rattle.dns_dgram_driver.specs.declared.serving.DgramEnd.TheVariants.{Shutdown, Counted, Fault, OutOfMemory as NoMemory}
use Rattle.dns_dgram_driver.proofs.SentDatagrams.{packets_part}
use Rattle.dns_account.specs.Law.{KeptToTheRules, ByTheRules}
use Rattle.dns_account.specs.DatagramLaw.{DatagramsByTheRules}

pub lawful : (answers : Serving) (end : ConnectionEnd) (client : ℕ) (addr : SocketAddr) (look : Look) (n n' : List Event) (k k' : Known) (t t' : Traffic)
    → EndsSo answers end client addr look n n' k k' t t' → KeptToTheRules answers end client addr look n n' t t'
lawful answers (Closed why) client addr look n n' k k' t t' ends =
    let o = ends.opened in
    let s = o.story in
    inl (record {
      at = o.at;
      secs = o.secs;
      events = s.events;
      unheard = [];
      part = s.extra;
      noted = s.noted ∙ append_assoc n (offer client addr o.at o.secs ∷ []) s.events;
      mine = s.mine;
      taken = s.came ∙ ap (λ (l : List ℕ). t.came ++ l) (sym (append-nil (pieces_in s.events)));
      all_heard = refl;
      handed = s.went;
      cut = inr (rw (s.closed) s.cut);
    })
lawful answers OutOfMemory client addr look n n' k k' t t' ends = unserved ends.begun where
  unserved : ((n' ≡ n) × (t' ≡ t)) ⊎ BrokenOpen answers client addr look n n' t t' → KeptToTheRules answers OutOfMemory client addr look n n' t t'
  unserved (inl nothing) = inr nothing
  unserved (inr b) =
      let s = b.broken in
      inl (record {
        at = b.at;
        secs = b.secs;
        events = s.events;
        unheard = s.unread;
        part = s.extra;
        noted = s.noted ∙ append_assoc n (offer client addr b.at b.secs ∷ []) s.events;
        mine = s.mine;
        taken = s.came;
        all_heard = tt;
        handed = s.went;
        cut = s.cut;
      })

served_lawful : (answers : Serving) (end : DgramEnd) (count : ℕ) (start now : World) → ServedBy answers end count start now → DatagramsByTheRules answers start now
served_lawful answers end count start now s = record {
  first = s.first;
  events = s.events;
  came = s.input.came;
  unheard = [];
  number = s.number;
  packets = packets_delivered answers (settings_shown s.first) s.events;
  noted = s.noted;
  taken = s.input.received;
  heard = sym s.input.recorded ∙ sym (append-nil (packets_in s.events));
  numbered = s.input.numbered;
  handed = s.output.sent;
  part = packets_part answers (settings_shown s.first) s.events;
}

pub datagrams_lawful : (answers : Serving) (end : DgramEnd) (count : ℕ) (start now : World) → ServedTo answers end count start now → DatagramsByTheRules answers start now
datagrams_lawful answers NoMemory count start now s = record {
  first = s.first;
  events = s.events;
  came = s.came;
  unheard = s.unrecorded;
  number = s.number;
  packets = s.packets;
  noted = s.noted;
  taken = s.received;
  heard = s.recorded;
  numbered = s.numbered;
  handed = s.sent;
  part = s.part;
}
datagrams_lawful answers Shutdown count start now s = served_lawful answers Shutdown count start now s
datagrams_lawful answers Counted count start now s = served_lawful answers Counted count start now s
datagrams_lawful answers Fault count start now s = served_lawful answers Fault count start now s

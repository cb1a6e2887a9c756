-- Laws of lookups.
use Rattle.std.specs.Prelude.{◌≡◌, ℕ, List, true, false}
use Rattle.dns_name.specs.declared.address.SocketAddr.{SocketAddr}
use Rattle.dns_base.specs.Header.{header_of}
use Rattle.dns_forward.specs.Asked.{has_ended}
use Rattle.dns_forward.specs.Matching.{matches, with_id}
use Rattle.dns_forward.specs.declared.asking_event.AskingEvent.{AskingEvent}
use Rattle.dns_lookup.specs.declared.lookup_event.LookupEvent.TheVariants.{Datagram, Frame}
use Rattle.dns_lookup.specs.declared.lookup_event.LookupOutcome.TheVariants.{Nothing}
use Rattle.dns_lookup.specs.Lookups.{InDatagrams, OverConnection, Progress, Subject, by_answer, by_datagrams, lookup_step, same_socket}

-- a datagram from elsewhere than the upstream leaves a lookup, and leads to nothing
abbrev pub StrangersChangeNothing : Type 0
StrangersChangeNothing = (s : Subject) (p : Progress) (from : SocketAddr) (at : ℕ) (o : List ℕ)
    → same_socket from s.upstream.addr ≡ false → lookup_step s p (Datagram from at o) ≡ (p, Nothing)

-- octets that don't match what is looked up, in a datagram and over a connection
abbrev pub ForgeriesLeadToNothing : Type 0
ForgeriesLeadToNothing = (s : Subject) (p : Progress) (from : SocketAddr) (at : ℕ) (o : List ℕ) → matches s.message s.id o ≡ false
    → ((lookup_step s p (Datagram from at o)).1 ≡ Nothing) × ((lookup_step s p (Frame at o)).1 ≡ Nothing)

-- if none has ended it, a datagram of the upstream that matches is the answer, under the identifier of the message
abbrev pub FirstMatchAnswers : Type 0
FirstMatchAnswers = (s : Subject) (es : List AskingEvent) (from : SocketAddr) (at : ℕ) (o : List ℕ)
    → has_ended (by_datagrams s) es ≡ false → same_socket from s.upstream.addr ≡ true → matches s.message s.id o ≡ true
    → lookup_step s (InDatagrams es) (Datagram from at o) ≡ by_answer s at (with_id (header_of s.message).id o)

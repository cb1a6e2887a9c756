-- Laws of lookups.
use Rattle.std.proofs.Common.{◌≡◌, ℕ, Bool, true, false, cond, List, [], ◌∷◌, ◌++◌, Option, Some, None, refl, ap, sym, ◌∙◌}
use Rattle.dns_name.specs.declared.address.SocketAddr.{SocketAddr}
use Rattle.dns_base.specs.Header.{header_of}
use Rattle.dns_forward.specs.Asked.{Inquiry, has_ended, outcome}
use Rattle.dns_forward.specs.Matching.{matches, with_id}
use Rattle.dns_forward.specs.declared.asking_event.AskingEvent.{AskingEvent}
use Rattle.dns_forward.specs.declared.asking_event.AskingEvent.TheVariants.{Arrived}
use Rattle.dns_forward.specs.declared.asking_event.AskingOutcome.{AskingOutcome}
use Rattle.dns_forward.specs.declared.asking_event.AskingOutcome.TheVariants.{OfArrival}
use Rattle.dns_lookup.specs.declared.lookup_event.LookupEvent.TheVariants.{Datagram, Frame}
use Rattle.dns_lookup.specs.declared.lookup_event.LookupOutcome.{LookupOutcome}
use Rattle.dns_lookup.specs.declared.lookup_event.LookupOutcome.TheVariants.{Nothing}
use Rattle.dns_lookup.specs.Lookups.{InDatagrams, Led, Over, OverConnection, Progress, Subject, by_answer, by_connection, by_datagram, by_datagrams, by_frame, datagram_heard, frame_heard, lookup_step, same_socket}

pub strangers : (s : Subject) (p : Progress) (from : SocketAddr) (at : ℕ) (o : List ℕ) → same_socket from s.upstream.addr ≡ false → lookup_step s p (Datagram from at o) ≡ (p, Nothing)
strangers s (InDatagrams es) from at o h = ap (λ (b : Bool). datagram_heard s at es (cond b (Some (Arrived at o)) None)) h
strangers s (OverConnection m now es) from at o h = refl
strangers s Over from at o h = refl

-- what doesn't match has no answer
no-answer : (q : Inquiry) (es : List AskingEvent) (at : ℕ) (o : List ℕ) (answer : Option (List ℕ)) (ended found : Bool) → found ≡ false → OfArrival (cond ended None (cond found answer None)) ≡ OfArrival None
no-answer q es at o answer true found h = refl
no-answer q es at o answer false found h = ap (λ (b : Bool). OfArrival (cond b answer None)) h

unmatched : (q : Inquiry) (es : List AskingEvent) (at : ℕ) (o : List ℕ) → matches q.message q.id o ≡ false → outcome q es (Arrived at o) ≡ OfArrival None
unmatched q es at o h = no-answer q es at o (Some (with_id (header_of q.message).id o)) (has_ended q es) (matches q.message q.id o) h

forged-datagram : (s : Subject) (es : List AskingEvent) (at : ℕ) (o : List ℕ) (b : Bool) → matches s.message s.id o ≡ false → (datagram_heard s at es (cond b (Some (Arrived at o)) None)).1 ≡ Nothing
forged-datagram s es at o true h = ap (λ (w : AskingOutcome). (by_datagram s at (es ++ Arrived at o ∷ []) w).1) (unmatched (by_datagrams s) es at o h)
forged-datagram s es at o false h = refl

pub forgeries : (s : Subject) (p : Progress) (from : SocketAddr) (at : ℕ) (o : List ℕ) → matches s.message s.id o ≡ false
    → ((lookup_step s p (Datagram from at o)).1 ≡ Nothing) × ((lookup_step s p (Frame at o)).1 ≡ Nothing)
forgeries s (InDatagrams es) from at o h = (forged-datagram s es at o (same_socket from s.upstream.addr) h, refl)
forgeries s (OverConnection m now es) from at o h = (refl, ap (λ (w : AskingOutcome). (by_frame m now (es ++ Arrived at o ∷ []) w).1) (unmatched (by_connection s now) es at o h))
forgeries s Over from at o h = (refl, refl)

pub first : (s : Subject) (es : List AskingEvent) (from : SocketAddr) (at : ℕ) (o : List ℕ) → has_ended (by_datagrams s) es ≡ false → same_socket from s.upstream.addr ≡ true → matches s.message s.id o ≡ true
    → lookup_step s (InDatagrams es) (Datagram from at o) ≡ by_answer s at (with_id (header_of s.message).id o)
first s es from at o going here m =
    let answer : Option (List ℕ) = Some (with_id (header_of s.message).id o) in
    let comes : outcome (by_datagrams s) es (Arrived at o) ≡ OfArrival answer =
    ap (λ (b : Bool). OfArrival (cond b None (cond (matches s.message s.id o) answer None))) going ∙ ap (λ (b : Bool). OfArrival (cond b answer None)) m in
    ap (λ (b : Bool). datagram_heard s at es (cond b (Some (Arrived at o)) None)) here ∙ ap (by_datagram s at (es ++ Arrived at o ∷ [])) comes

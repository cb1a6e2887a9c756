-- What an event does to a lookup, by its stage and by what its asking heard.
use Rattle.std.proofs.Common.{◌≡◌, ℕ, Bool, true, false, cond, List, [], ◌∷◌, ◌++◌, Option, Some, None, Ok, refl, ap, sym, subst, ◌∙◌}
use Rattle.std.specs.Prelude.{max}
use Rattle.dns_base.specs.Header.{header_of}
use Rattle.dns_events.specs.Config.{in_range}
use Rattle.dns_forward.specs.Asked.{Inquiry, outcome}
use Rattle.dns_forward.specs.Askings.{HasHeard, Hears}
use Rattle.dns_forward.specs.Matching.{with_id}
use Rattle.dns_forward.specs.declared.asking.Asking.{Asking}
use Rattle.dns_forward.specs.declared.asking_event.AskingEvent.{AskingEvent}
use Rattle.dns_forward.specs.declared.asking_event.AskingOutcome.{AskingOutcome}
use Rattle.dns_lookup.specs.declared.lookup.Lookup.{Lookup}
use Rattle.dns_lookup.specs.declared.lookup.Stage.{Stage}
use Rattle.dns_lookup.specs.declared.lookup.Stage.TheVariants.{Datagrams, Connection, Ended}
use Rattle.dns_lookup.specs.declared.lookup_event.LookupEvent.{LookupEvent}
use Rattle.dns_lookup.specs.declared.lookup_event.LookupEvent.TheVariants.{Datagram, Frame, Lost, Tick}
use Rattle.dns_lookup.specs.declared.lookup_event.LookupOutcome.{LookupOutcome}
use Rattle.dns_lookup.specs.declared.lookup_event.LookupOutcome.TheVariants.{Nothing, Answer, Connect}
use Rattle.dns_lookup.specs.declared.lookup_event.UpstreamConfig.{UpstreamConfig}
use Rattle.dns_lookup.specs.Lookups.{HearsWhere, InDatagrams, Led, Over, OverConnection, Progress, Subject, by_answer, by_connection, by_datagram, by_datagrams, by_frame, datagram_heard, frame_heard, heard_datagram, heard_frame, is_lost, lookup_step, moment, question}
use Rattle.dns_lookup.specs.Stages.{ConnectionLeads, DatagramLeads, DatagramsLead, FrameLeads, IsAt, IsStage, LeadsTo, Steps}
use Rattle.dns_lookup.proofs.Outcomes.{outcome-is}

-- a lookup at another stage
staged : (s : Subject) (p q : Progress) (l : Lookup) (stage : Stage) → IsAt s p l → IsStage s q stage → IsAt s q (record l { stage = stage })
staged s p q l stage at is = record { upstream = at.upstream; message = at.message; id = at.id; stage = is }

module _ (l : Lookup) (e : LookupEvent) (new : Lookup) (r : LookupOutcome) (a a' : Asking) where
  -- in datagrams, an event is heard
  datagram-one : (s : Subject) (es : List AskingEvent) (x : Option AskingEvent) (o : AskingOutcome) → IsAt s (InDatagrams es) l → HasHeard (by_datagrams s) es a
      → HearsWhere x a a' (Some o) → DatagramsLead (record l { stage = Datagrams a' }) new (λ s es. by_datagram s (moment e) es o) r
      → LeadsTo s (datagram_heard s (moment e) es x) new r
  datagram-one s es None o at was hears leads = absurd hears
  datagram-one s es (Some x) o at was hears leads =
      subst (λ (w : AskingOutcome). LeadsTo s (by_datagram s (moment e) (es ++ x ∷ []) w) new r) (outcome-is (by_datagrams s) es x o a a' was hears)
      (leads s (es ++ x ∷ []) (staged s (InDatagrams es) (InDatagrams (es ++ x ∷ [])) l (Datagrams a') at (hears (by_datagrams s) es was).0))

  datagram-some : (o : AskingOutcome) → l.stage ≡ Datagrams a → HearsWhere (heard_datagram l.upstream.addr e) a a' (Some o)
      → DatagramsLead (record l { stage = Datagrams a' }) new (λ s es. by_datagram s (moment e) es o) r → Steps l e new r
  datagram-some o is hears leads s (InDatagrams es) at =
      subst (λ (u : UpstreamConfig). LeadsTo s (datagram_heard s (moment e) es (heard_datagram u.addr e)) new r) at.upstream
      (datagram-one s es (heard_datagram l.upstream.addr e) o at (subst (λ (t : Stage). IsStage s (InDatagrams es) t) is at.stage) hears leads)
  datagram-some o is hears leads s (OverConnection m now es) at = absurd (subst (λ (t : Stage). IsStage s (OverConnection m now es) t) is at.stage)
  datagram-some o is hears leads s Over at = absurd (subst (λ (t : Stage). IsStage s Over t) is at.stage)

  -- over a connection, an event is heard
  frame-one : (s : Subject) (m : List ℕ) (now : ℕ) (es : List AskingEvent) (t : List ℕ) (x : Option AskingEvent) (o : AskingOutcome) → IsAt s (OverConnection m now es) l → IsStage s (OverConnection m now es) (Connection a t)
      → HearsWhere x a a' (Some o) → ConnectionLeads (record l { stage = Connection a' t }) new (λ m now es. by_frame m now es o) r
      → LeadsTo s (frame_heard s m now es x) new r
  frame-one s m now es t None o at was hears leads = absurd hears
  frame-one s m now es t (Some x) o at was hears leads =
      subst (λ (w : AskingOutcome). LeadsTo s (by_frame m now (es ++ x ∷ []) w) new r) (outcome-is (by_connection s now) es x o a a' was.0 hears)
      (leads s m now (es ++ x ∷ []) (staged s (OverConnection m now es) (OverConnection m now (es ++ x ∷ [])) l (Connection a' t) at ((hears (by_connection s now) es was.0).0, was.1)))

  frame-some : (t : List ℕ) (o : AskingOutcome) → l.stage ≡ Connection a t → is_lost e ≡ false → HearsWhere (heard_frame e) a a' (Some o)
      → ConnectionLeads (record l { stage = Connection a' t }) new (λ m now es. by_frame m now es o) r → Steps l e new r
  frame-some t o is going hears leads s (OverConnection m now es) at =
      subst (λ (b : Bool). LeadsTo s (cond b (Over, Answer (Ok m)) (frame_heard s m now es (heard_frame e))) new r) (sym going)
      (frame-one s m now es t (heard_frame e) o at (subst (λ (w : Stage). IsStage s (OverConnection m now es) w) is at.stage) hears leads)
  frame-some t o is going hears leads s (InDatagrams es) at = absurd (subst (λ (w : Stage). IsStage s (InDatagrams es) w) is at.stage)
  frame-some t o is going hears leads s Over at = absurd (subst (λ (w : Stage). IsStage s Over w) is at.stage)

module _ (l : Lookup) (e : LookupEvent) (a a' : Asking) where
  -- in datagrams, an event is not heard
  datagram-quiet : (s : Subject) (es : List AskingEvent) (x : Option AskingEvent) → IsAt s (InDatagrams es) l → HasHeard (by_datagrams s) es a → HearsWhere x a a' None
      → LeadsTo s (datagram_heard s (moment e) es x) (record l { stage = Datagrams a' }) Nothing
  datagram-quiet s es None at was same = (staged s (InDatagrams es) (InDatagrams es) l (Datagrams a') at (subst (λ (b : Asking). HasHeard (by_datagrams s) es b) (sym same) was), refl)
  datagram-quiet s es (Some x) at was same = absurd same

  datagram-none : l.stage ≡ Datagrams a → HearsWhere (heard_datagram l.upstream.addr e) a a' None → Steps l e (record l { stage = Datagrams a' }) Nothing
  datagram-none is hears s (InDatagrams es) at =
      subst (λ (u : UpstreamConfig). LeadsTo s (datagram_heard s (moment e) es (heard_datagram u.addr e)) (record l { stage = Datagrams a' }) Nothing) at.upstream
      (datagram-quiet s es (heard_datagram l.upstream.addr e) at (subst (λ (t : Stage). IsStage s (InDatagrams es) t) is at.stage) hears)
  datagram-none is hears s (OverConnection m now es) at = absurd (subst (λ (t : Stage). IsStage s (OverConnection m now es) t) is at.stage)
  datagram-none is hears s Over at = absurd (subst (λ (t : Stage). IsStage s Over t) is at.stage)

  -- over a connection, an event is not heard
  frame-quiet : (s : Subject) (m : List ℕ) (now : ℕ) (es : List AskingEvent) (t : List ℕ) (x : Option AskingEvent) → IsAt s (OverConnection m now es) l → IsStage s (OverConnection m now es) (Connection a t)
      → HearsWhere x a a' None → LeadsTo s (frame_heard s m now es x) (record l { stage = Connection a' t }) Nothing
  frame-quiet s m now es t None at was same = (staged s (OverConnection m now es) (OverConnection m now es) l (Connection a' t) at (subst (λ (b : Asking). HasHeard (by_connection s now) es b) (sym same) was.0, was.1), refl)
  frame-quiet s m now es t (Some x) at was same = absurd same

  frame-none : (t : List ℕ) → l.stage ≡ Connection a t → is_lost e ≡ false → HearsWhere (heard_frame e) a a' None → Steps l e (record l { stage = Connection a' t }) Nothing
  frame-none t is going hears s (OverConnection m now es) at =
      subst (λ (b : Bool). LeadsTo s (cond b (Over, Answer (Ok m)) (frame_heard s m now es (heard_frame e))) (record l { stage = Connection a' t }) Nothing) (sym going)
      (frame-quiet s m now es t (heard_frame e) at (subst (λ (w : Stage). IsStage s (OverConnection m now es) w) is at.stage) hears)
  frame-none t is going hears s (InDatagrams es) at = absurd (subst (λ (w : Stage). IsStage s (InDatagrams es) w) is at.stage)
  frame-none t is going hears s Over at = absurd (subst (λ (w : Stage). IsStage s Over w) is at.stage)

-- the connection is lost, of which the asking hears nothing
lost-same : (e : LookupEvent) (a a' : Asking) (heard : Option AskingOutcome) → is_lost e ≡ true → HearsWhere (heard_frame e) a a' heard → a' ≡ a
lost-same (Datagram from at o) a a' heard lost hears = absurd (cc)
lost-same (Frame at o) a a' heard lost hears = absurd (cc)
lost-same (Tick at) a a' heard lost hears = absurd (cc)
lost-same Lost a a' None lost hears = hears
lost-same Lost a a' (Some o) lost hears = absurd hears

frame-lost : (l : Lookup) (e : LookupEvent) (new : Lookup) (r : LookupOutcome) (a a' : Asking) (t : List ℕ) (heard : Option AskingOutcome) → l.stage ≡ Connection a t → is_lost e ≡ true → HearsWhere (heard_frame e) a a' heard
    → ConnectionLeads (record l { stage = Connection a' t }) new (λ m now es. (Over, Answer (Ok m))) r → Steps l e new r
frame-lost l e new r a a' t heard is lost hears leads s (OverConnection m now es) at =
    let was : IsStage s (OverConnection m now es) (Connection a t) = subst (λ (w : Stage). IsStage s (OverConnection m now es) w) is at.stage in
    subst (λ (b : Bool). LeadsTo s (cond b (Over, Answer (Ok m)) (frame_heard s m now es (heard_frame e))) new r) (sym lost)
    (leads s m now es (staged s (OverConnection m now es) (OverConnection m now es) l (Connection a' t) at (subst (λ (b : Asking). HasHeard (by_connection s now) es b) (sym (lost-same e a a' heard lost hears)) was.0, was.1)))
frame-lost l e new r a a' t heard is lost hears leads s (InDatagrams es) at = absurd (subst (λ (w : Stage). IsStage s (InDatagrams es) w) is at.stage)
frame-lost l e new r a a' t heard is lost hears leads s Over at = absurd (subst (λ (w : Stage). IsStage s Over w) is at.stage)

-- an event at each stage
pub datagram-step : (l : Lookup) (e : LookupEvent) (new : Lookup) (r : LookupOutcome) (a a' : Asking) (heard : Option AskingOutcome) → l.stage ≡ Datagrams a → HearsWhere (heard_datagram l.upstream.addr e) a a' heard
    → DatagramLeads (record l { stage = Datagrams a' }) e heard new r → Steps l e new r
datagram-step l e new r a a' None is hears leads =
    subst (λ (o : LookupOutcome). Steps l e new o) (sym leads.1) (subst (λ (x : Lookup). Steps l e x Nothing) (sym leads.0) (datagram-none l e a a' is hears))
datagram-step l e new r a a' (Some o) is hears leads = datagram-some l e new r a a' o is hears leads

frame-by : (l : Lookup) (e : LookupEvent) (new : Lookup) (r : LookupOutcome) (a a' : Asking) (t : List ℕ) (heard : Option AskingOutcome) (lost : Bool) → is_lost e ≡ lost → l.stage ≡ Connection a t → HearsWhere (heard_frame e) a a' heard
    → FrameLeads (record l { stage = Connection a' t }) lost heard new r → Steps l e new r
frame-by l e new r a a' t heard true lost is hears leads = frame-lost l e new r a a' t heard is lost hears leads
frame-by l e new r a a' t None false lost is hears leads =
    subst (λ (o : LookupOutcome). Steps l e new o) (sym leads.1) (subst (λ (x : Lookup). Steps l e x Nothing) (sym leads.0) (frame-none l e a a' t is lost hears))
frame-by l e new r a a' t (Some o) false lost is hears leads = frame-some l e new r a a' t o is lost hears leads

pub frame-step : (l : Lookup) (e : LookupEvent) (new : Lookup) (r : LookupOutcome) (a a' : Asking) (t : List ℕ) (heard : Option AskingOutcome) → l.stage ≡ Connection a t → HearsWhere (heard_frame e) a a' heard
    → FrameLeads (record l { stage = Connection a' t }) (is_lost e) heard new r → Steps l e new r
frame-step l e new r a a' t heard is hears leads = frame-by l e new r a a' t heard (is_lost e) refl is hears leads

-- a lookup that has ended
pub over : (l : Lookup) (e : LookupEvent) → l.stage ≡ Ended → Steps l e l Nothing
over l e is s Over at = (at, refl)
over l e is s (InDatagrams es) at = absurd (subst (λ (w : Stage). IsStage s (InDatagrams es) w) is at.stage)
over l e is s (OverConnection m now es) at = absurd (subst (λ (w : Stage). IsStage s (OverConnection m now es) w) is at.stage)

-- a connection is asked for, after a truncated answer
pub connected : (s : Subject) (es : List AskingEvent) (l : Lookup) (a : Asking) (copy truncated octets sent : List ℕ) (at : ℕ) → IsAt s (InDatagrams es) l → copy ≡ l.message
    → HasHeard (record { message = copy; id = l.id; tries = in_range 1 8 1; timeout = max l.upstream.timeout 1; at = at }) [] a
    → ((q : Inquiry) (xs : List AskingEvent) → HasHeard q xs a → octets ≡ with_id q.id q.message) → sent ≡ octets
    → LeadsTo s (OverConnection truncated at [], Connect (question s)) (record l { stage = Connection a truncated }) (Connect sent)
connected s es l a copy truncated octets sent at was same heard says is =
    let one : HasHeard (record { message = s.message; id = l.id; tries = in_range 1 8 1; timeout = max l.upstream.timeout 1; at = at }) [] a =
    subst (λ (x : List ℕ). HasHeard (record { message = x; id = l.id; tries = in_range 1 8 1; timeout = max l.upstream.timeout 1; at = at }) [] a) (same ∙ was.message) heard in
    let two : HasHeard (record { message = s.message; id = s.id; tries = in_range 1 8 1; timeout = max l.upstream.timeout 1; at = at }) [] a =
    subst (λ (x : ℕ). HasHeard (record { message = s.message; id = x; tries = in_range 1 8 1; timeout = max l.upstream.timeout 1; at = at }) [] a) was.id one in
    let all : HasHeard (by_connection s at) [] a =
    subst (λ (u : UpstreamConfig). HasHeard (record { message = s.message; id = s.id; tries = in_range 1 8 1; timeout = max u.timeout 1; at = at }) [] a) was.upstream two in
    (staged s (InDatagrams es) (OverConnection truncated at []) l (Connection a truncated) was (all, refl), ap (λ (o : List ℕ). Connect o) (is ∙ says (by_connection s at) [] all))

-- what an outcome leads to, if it is this one
pub datagram-is : (old new : Lookup) (at : ℕ) (x y : AskingOutcome) (o : LookupOutcome) → x ≡ y → DatagramsLead old new (λ s es. by_datagram s at es y) o → DatagramsLead old new (λ s es. by_datagram s at es x) o
datagram-is old new at x y o is h s es was = subst (λ (w : AskingOutcome). LeadsTo s (by_datagram s at es w) new o) (sym is) (h s es was)

pub frame-is : (old new : Lookup) (x y : AskingOutcome) (o : LookupOutcome) → x ≡ y → ConnectionLeads old new (λ m at es. by_frame m at es y) o → ConnectionLeads old new (λ m at es. by_frame m at es x) o
frame-is old new x y o is h s m at es was = subst (λ (w : AskingOutcome). LeadsTo s (by_frame m at es w) new o) (sym is) (h s m at es was)

pub truncated-is : (old new : Lookup) (at : ℕ) (answer : List ℕ) (o : LookupOutcome) → (header_of answer).tc ≡ true → DatagramsLead old new (λ s es. (OverConnection answer at [], Connect (question s))) o
    → DatagramsLead old new (λ s es. by_answer s at answer) o
truncated-is old new at answer o tc h s es was = subst (λ (b : Bool). LeadsTo s (cond b (OverConnection answer at [], Connect (question s)) (Over, Answer (Ok answer))) new o) (sym tc) (h s es was)

pub event-is : (old new : Lookup) (e : LookupEvent) (at : ℕ) (heard : Option AskingOutcome) (x : AskingOutcome) (o : LookupOutcome) → heard ≡ Some x → at ≡ moment e → DatagramsLead old new (λ s es. by_datagram s at es x) o → DatagramLeads old e heard new o
event-is old new e at heard x o is now h =
    subst (λ (w : Option AskingOutcome). DatagramLeads old e w new o) (sym is) (λ s es was. subst (λ (t : ℕ). LeadsTo s (by_datagram s t es x) new o) now (h s es was))

-- What the loop of a connection knows of its core, its seat and its link's faults, whether link and recorder tell or not.
use Rattle.std.proofs.Common.{◌≡◌, ℕ, ◌⊎◌, List, [], ◌∷◌, ◌++◌, arith, refl, sym, ◌∙◌, ap, subst, append_assoc, inl, inr, length, take, Bool, true, false, Option, Some, None}
use Rattle.std.specs.Prelude.{◌==◌, ◌&&◌, not, if◌then◌else◌}
use Rattle.std.proofs.lemmas.List.{take_all}
use Rattle.dns_events.specs.declared.look.Look.{Look}
use Rattle.dns_admission.specs.declared.call.Call.{Call}
use Rattle.dns_admission.specs.declared.call.Call.TheVariants.{Look as ToLook, Release}
use Rattle.dns_admission.specs.declared.call.Reply.{Reply}
use Rattle.dns_admission.specs.declared.call.Reply.TheVariants.{Look as LookReply, Left}
use Rattle.dns_book.specs.Gains.{Gained}
use Rattle.dns_book.specs.History.{entry}
use Rattle.dns_book.specs.Seats.{Called}
use Rattle.dns_book.specs.declared.history.Entry.{Entry}
use Rattle.dns_book.specs.declared.history.Known.{Known}
use Rattle.dns_io.specs.Causes.{Rose}
use Rattle.dns_service.specs.Answer.{Answer}
use Rattle.dns_events.specs.declared.event.Event.{Event}
use Rattle.dns_events.specs.declared.event.EventKind.{EventKind}
use Rattle.dns_events.specs.declared.event.EventKind.TheVariants.{Datagram, Offer, Piece, End, Fault, Close, Write, Tick, Release as ReleaseEvent, Reconfigure, Shutdown}
use Rattle.dns_events.specs.declared.event.Output.{Output}
use Rattle.dns_events.specs.declared.event.Why.{Why}
use Rattle.dns_events.specs.declared.event.Why.TheVariants.{Ended, Short, Idle, WriteTimeout, Fault as ByFault, Commanded, Shutdown as ByShutdown}
use Rattle.dns_service.specs.declared.polled.PolledRequest.{PolledRequest}
use Rattle.dns_session.specs.After.{slate_after, sent_after}
use Rattle.dns_session.specs.News.{wide, new_end, news, look_effect}
use Rattle.dns_session.specs.Reasons.{ClosesFor}
use Rattle.dns_session.specs.Rule.{rule, in_phase}
use Rattle.dns_session.specs.Serving.{Serving}
use Rattle.dns_session.specs.Slate.{Slate, Effect, Phase, Open, Flushing, conf_rule, with_conf}
use Rattle.dns_session.specs.Stands.{Stands}
use Rattle.dns_session.specs.declared.client.ClientCore.{ClientCore}
use Rattle.dns_recorder.specs.Own.{is_wide}
use Rattle.dns_stream_driver.specs.Blames.{HeardFor, ActedFor}
use Rattle.dns_stream_driver.specs.Closing.{closed_by}
use Rattle.dns_stream_driver.specs.Links.{front, WrittenPart}
use Rattle.dns_stream_driver.specs.Runs.{MayGoOn, IsServed, ServesOn}
use Rattle.dns_stream_driver.specs.Shown.{SawShutdown, Causes}
use Rattle.dns_stream_driver.proofs.Appends.{gained_more, gained_none}
use Rattle.dns_stream_driver.proofs.ByKind.{event_does}
use Rattle.dns_stream_driver.proofs.Reasons.{IsServedBy, IsServedIn, never_commanded, reason}
use Rattle.dns_stream_driver.proofs.ServedConnection.{Serves, serves}
use Rattle.dns_stream_driver.proofs.NotedReasons.{by_may}
use Rattle.dns_stream_driver.proofs.Wide.{news_do}

saw_more : (old : Known) (k : Known) (c : Call) (r : Reply) (new : Known) → SawShutdown old k → k.name ≡ old.name → Called k c r new → SawShutdown old new
saw_more old k c r new s n h = record {
  before = s.before;
  look = s.look;
  after = s.after ++ entry old.name c r ∷ [];
  calls = rw (← append_assoc s.before (entry old.name ToLook (LookReply s.look) ∷ s.after) (entry old.name c r ∷ [])) (gained_more old k new (s.before ++ entry old.name ToLook (LookReply s.look) ∷ s.after) c r s.calls n h);
  closed = s.closed;
}

-- the outputs that stand last close the connection, or none do
closed_append : (why : Why) (xs ys : List Output) → closed_by (xs ++ ys) ≡ Some why → (closed_by xs ≡ Some why) ⊎ (closed_by ys ≡ Some why)
closed_append why [] ys e = inr e
closed_append why (x ∷ []) [] e = inl e
closed_append why (x ∷ []) (y ∷ ys) e = inr e
closed_append why (x ∷ z ∷ xs) ys e = closed_append why (z ∷ xs) ys e

wide_served : (k : EventKind) → is_wide k ≡ true → IsServedBy k
wide_served (Datagram addr o) w = absurd cc
wide_served (Offer addr) w = absurd cc
wide_served Close w = absurd cc
wide_served ReleaseEvent w = absurd cc
wide_served _ w = tt

-- by an event that all clients hear, only a shutdown closes a connection
wide_closes : (why : Why) (e : Event) (s : Slate) → is_wide e.kind ≡ true → IsServedIn s.phase → ClosesFor why e s → (why ≡ ByShutdown) × ((e.kind ≡ Shutdown) ⊎ (s.phase ≡ Flushing ByShutdown))
wide_closes Ended e s w v c = let no : is_wide End ≡ true = ap is_wide (sym c) ∙ w in absurd cc
wide_closes ByFault e s w v c = let no : is_wide Fault ≡ true = ap is_wide (sym c) ∙ w in absurd cc
wide_closes Short e s w v c = let no : is_wide (Piece c.octets) ≡ true = ap is_wide (sym c.kind) ∙ w in absurd cc
wide_closes Idle e s w v c = let no : is_wide Tick ≡ true = ap is_wide (sym c.kind) ∙ w in absurd cc
wide_closes WriteTimeout e s w v c = let no : is_wide (Write c.took) ≡ true = ap is_wide (sym c.kind) ∙ w in absurd cc
wide_closes Commanded e s w v c = absurd (never_commanded e s v (wide_served e.kind w) c)
wide_closes ByShutdown e s w v c = (refl, c)

-- news, in which a Shutdown stands only if the look shows one
abbrev pub AreNews : Look → List Event → Type 0
AreNews look [] = Unit {0}
AreNews look (e ∷ es) = (is_wide e.kind ≡ true) × (e.kind ≡ Shutdown → look.closed ≡ true) × AreNews look es

end_news : (look : Look) (over closed : Bool) → closed ≡ look.closed → AreNews look (if closed && not over then wide Shutdown ∷ [] else [])
end_news look over true e = end_shown over
  where
    end_shown : (over : Bool) → AreNews look (if not over then wide Shutdown ∷ [] else [])
    end_shown true = tt
    end_shown false = (refl, (λ h. sym e), tt)
end_news look over false e = tt

are_news : (version : ℕ) (over : Bool) (look : Look) → AreNews look (news version over look)
are_news version over look = with_version (look.version == version)
  where
    with_version : (b : Bool) → AreNews look ((if b then [] else wide (Reconfigure look.dgram look.stream) ∷ []) ++ new_end over look)
    with_version true = end_news look over look.closed refl
    with_version false = (refl, (λ h. absurd cc), end_news look over look.closed refl)

module _ (answers : Serving) where
  -- what news do to a connection that is served
  record DoesNews (look : Look) (s : Slate) (t : Effect) : Type 0 where
    served : IsServedIn t.0.phase
    flushing : t.0.phase ≡ Flushing ByShutdown → (s.phase ≡ Flushing ByShutdown) ⊎ (look.closed ≡ true)
    closes : (why : Why) → closed_by t.1 ≡ Some why → (why ≡ ByShutdown) × ((s.phase ≡ Flushing ByShutdown) ⊎ (look.closed ≡ true))

  by_shutdown : (look : Look) (e : Event) (s t : Slate) → (e.kind ≡ Shutdown → look.closed ≡ true) → Serves e s t → t.phase ≡ Flushing ByShutdown → (s.phase ≡ Flushing ByShutdown) ⊎ (look.closed ≡ true)
  by_shutdown look e s t c v h = elim (v.flushing h) [ inl p ↦ inl p | inr k ↦ inr (c k) ]

  or_shutdown : (look : Look) (e : Event) (s : Slate) → (e.kind ≡ Shutdown → look.closed ≡ true) → (e.kind ≡ Shutdown) ⊎ (s.phase ≡ Flushing ByShutdown) → (s.phase ≡ Flushing ByShutdown) ⊎ (look.closed ≡ true)
  or_shutdown look e s c h = elim h [ inl k ↦ inr (c k) | inr p ↦ inl p ]

  does_news : (look : Look) (es : List Event) (s : Slate) → AreNews look es → IsServedIn s.phase → DoesNews look s (slate_after answers s es, sent_after answers s es)
  does_news look [] s n v = record { served = v; flushing = λ h. inl h; closes = λ why h. absurd cc }
  does_news look (e ∷ es) s n v =
      let b = wide_served e.kind n.0 in
      let a = serves answers e s v b in
      let i = does_news look es (rule answers e s).0 n.2 a.served in
      record {
        served = i.served;
        flushing = λ h. elim (i.flushing h) [ inl p ↦ by_shutdown look e s (rule answers e s).0 n.1 a p | inr c ↦ inr c ];
        closes = λ why h. elim (closed_append why (rule answers e s).1 (sent_after answers (rule answers e s).0 es) h) [
          | inl x ↦ let w = wide_closes why e s n.0 v (reason answers e s v why x).closes in (w.0, or_shutdown look e s n.1 w.1)
          | inr y ↦ let w = i.closes why y in (w.0, elim w.1 [ inl p ↦ by_shutdown look e s (rule answers e s).0 n.1 a p | inr c ↦ inr c ])
        ];
      }

  does_told : (version : ℕ) (look : Look) (s : Slate) → IsServedIn s.phase → DoesNews look s (look_effect answers version look s)
  does_told version look s v = does_news look (news version s.conf.over look) s (are_news version s.conf.over look) v

rose_since : (f f1 f2 : ℕ) → f1 ≡ f → Rose f1 f2 → Rose f f2
rose_since f f1 f2 l r = omega (arith, l, r)

-- a part that may be written for an event
abbrev some_part : EventKind → List (List ℕ) → List ℕ
some_part (Write took) queue = front queue
some_part Fault queue = front queue
some_part _ queue = []

front_all : (q : List (List ℕ)) → front q ≡ take (length (front q)) (front q)
front_all q = sym (take_all (length (front q)) (front q) (omega arith))

may_write : (k : EventKind) (q : List (List ℕ)) (limit : ℕ) → WrittenPart k q limit (some_part k q)
may_write Fault q limit = record { written = length (front q); is = front_all q }
may_write (Write took) q limit = record { written = length (front q); is = front_all q; whole = λ h. omega arith }
may_write _ q limit = refl

some_other : (why : Why) → ¬ (why ≡ ByFault) → ¬ (Some why ≡ Some ByFault)
some_other why n = λ (e : Some why ≡ Some ByFault). let h : why ≡ ByFault = cc in n h

module _ (answers : Serving) where
  -- a Fault closes a connection that is served, for no other reason
  phase_fault : (e : Event) (p : Phase) (q : List (List ℕ)) (s : Slate) → e.kind ≡ Fault → MayGoOn p q → closed_by (in_phase answers e p s).1 ≡ Some ByFault
  phase_fault e Open q s k live = rw k refl
  phase_fault e (Flushing why) q s k live = rw k refl
  phase_fault e _ q s k live = absurd live

  fault_closes : (e : Event) (s : Slate) → e.kind ≡ Fault → IsServed s → closed_by (rule answers e s).1 ≡ Some ByFault
  fault_closes e s k live = phase_fault e s.phase s.queue (with_conf (conf_rule e.kind s.conf) s) k live

  no_fault : (e : Event) (s : Slate) (why : Option Why) → IsServed s → closed_by (rule answers e s).1 ≡ why → ¬ (why ≡ Some ByFault) → ¬ (e.kind ≡ Fault)
  no_fault e s why live c n = λ (k : e.kind ≡ Fault). n (sym c ∙ fault_closes e s k live)

module _ {W R F : Type 0} (answer : PolledRequest F R → ℕ → Answer) (answers : Serving) where
  -- The core stands for a slate of a connection that is served on. The seat made calls under its name, and one of them was a look that
  -- showed a shutdown if the connection only writes what waits. The link's count of faults stayed.
  pub record Goes (core : ClientCore W R F) (k k' : Known) (faults faults' : ℕ) : Type 0 where
    pub slate : Slate
    pub stands : Stands answer answers core slate
    pub served : IsServedIn slate.phase
    pub on : IsServed slate
    pub calls : List Entry
    pub gained : Gained k calls k'
    pub name : k'.name ≡ k.name
    pub seen : slate.phase ≡ Flushing ByShutdown → SawShutdown k k'
    pub same : faults' ≡ faults

  pub goes_begun : (core : ClientCore W R F) (s : Slate) (k : Known) (f : ℕ) → Stands answer answers core s → s.phase ≡ Open → Goes core k k f f
  goes_begun core s k f h p = record {
    slate = s;
    stands = h;
    served = rw p tt;
    on = rw p tt;
    calls = [];
    gained = gained_none k;
    name = refl;
    seen = λ (q : s.phase ≡ Flushing ByShutdown). let no : Open ≡ Flushing ByShutdown = sym p ∙ q in absurd cc;
    same = refl;
  }

  saw_now : (core : ClientCore W R F) (k k1 k2 : Known) (f f1 : ℕ) (look : Look) → Goes core k k1 f f1 → Called k1 ToLook (LookReply look) k2 → look.closed ≡ true → SawShutdown k k2
  saw_now core k k1 k2 f f1 look g c h = record { before = g.calls; look = look; after = []; calls = gained_more k k1 k2 g.calls ToLook (LookReply look) g.gained g.name c; closed = h }

  saw_either : (core : ClientCore W R F) (k k1 k2 : Known) (f f1 : ℕ) (look : Look) (g : Goes core k k1 f f1) → Called k1 ToLook (LookReply look) k2 → (g.slate.phase ≡ Flushing ByShutdown) ⊎ (look.closed ≡ true) → SawShutdown k k2
  saw_either core k k1 k2 f f1 look g c h = elim h [ inl p ↦ saw_more k k1 ToLook (LookReply look) k2 (g.seen p) g.name c | inr s ↦ saw_now core k k1 k2 f f1 look g c s ]

  -- after a look that doesn't close the connection
  pub goes_heard : (core core' : ClientCore W R F) (k k1 k2 : Known) (f f1 : ℕ) → Goes core k k1 f f1 → HeardFor answer None core core' k1 k2 → Goes core' k k2 f f1
  goes_heard core core' k k1 k2 f f1 g h =
      let d = does_told answers core.version h.look g.slate g.served in
      let n = news_do answers core.version g.slate.conf.over h.look g.slate refl g.on in
      let c : closed_by (look_effect answers core.version h.look g.slate).1 ≡ None = ap closed_by (sym (h.sees.follows answers g.slate g.stands).0) ∙ h.sees.closed in
      let P : Option Why → Type 0 = λ o. ServesOn o (look_effect answers core.version h.look g.slate).0 in
      record {
        slate = (look_effect answers core.version h.look g.slate).0;
        stands = (h.sees.follows answers g.slate g.stands).1;
        served = d.served;
        on = subst P c n.on;
        calls = g.calls ++ entry k.name ToLook (LookReply h.look) ∷ [];
        gained = gained_more k k1 k2 g.calls ToLook (LookReply h.look) g.gained g.name h.called;
        name = h.called.same_name ∙ g.name;
        seen = λ p. saw_either core k k1 k2 f f1 h.look g h.called (d.flushing p);
        same = g.same;
      }

  -- and if that closes the connection, it is by a shutdown, which a look showed
  pub heard_why : (why : Why) (core core' : ClientCore W R F) (k k1 k2 : Known) (f f1 : ℕ) → Goes core k k1 f f1 → HeardFor answer (Some why) core core' k1 k2 → (why ≡ ByShutdown) × SawShutdown k k2
  heard_why why core core' k k1 k2 f f1 g h =
      let d = does_told answers core.version h.look g.slate g.served in
      let c = d.closes why (ap closed_by (sym (h.sees.follows answers g.slate g.stands).0) ∙ h.sees.closed) in
      (c.0, saw_either core k k1 k2 f f1 h.look g h.called c.1)

  pub heard_cause : (why : Why) (core core' : ClientCore W R F) (k k1 k2 : Known) (f f1 : ℕ) → Goes core k k1 f f1 → HeardFor answer (Some why) core core' k1 k2 → Causes why k k2 f f1
  heard_cause why core core' k k1 k2 f f1 g h = let c = heard_why why core core' k k1 k2 f f1 g h in rw c.0 (c.1, g.same)

  -- after an own event
  own_served : (core core' : ClientCore W R F) (why : Option Why) (f1 f2 : ℕ) (a : ActedFor answer answers why core core' f1 f2) (s : Slate) → Stands answer answers core s → IsServedBy a.event.kind
  own_served core core' why f1 f2 a s h = by_may a.below a.event.kind s (a.chosen.may answers s h)

  -- what closes the connection by it
  own_closes : (core core' : ClientCore W R F) (why : Option Why) (k k1 : Known) (f f1 f2 : ℕ) (g : Goes core k k1 f f1) (a : ActedFor answer answers why core core' f1 f2) → closed_by (rule answers a.event g.slate).1 ≡ why
  own_closes core core' why k k1 f f1 f2 g a = ap closed_by (sym (a.taken.follows g.slate g.stands).0) ∙ a.taken.closed

  -- the count stays unless a fault closes it
  own_same : (core core' : ClientCore W R F) (why : Option Why) (k k1 : Known) (f f1 f2 : ℕ) → Goes core k k1 f f1 → ActedFor answer answers why core core' f1 f2 → ¬ (why ≡ Some ByFault) → f2 ≡ f
  own_same core core' why k k1 f f1 f2 g a n = a.chosen.blames.same (no_fault answers a.event g.slate why g.on (own_closes core core' why k k1 f f1 f2 g a) n) ∙ g.same

  pub goes_acted : (core core' : ClientCore W R F) (k k1 : Known) (f f1 f2 : ℕ) → Goes core k k1 f f1 → ActedFor answer answers None core core' f1 f2 → Goes core' k k1 f f2
  goes_acted core core' k k1 f f1 f2 g a =
      let v = serves answers a.event g.slate g.served (own_served core core' None f1 f2 a g.slate g.stands) in
      let c : closed_by (rule answers a.event g.slate).1 ≡ None = own_closes core core' None k k1 f f1 f2 g a in
      let d = event_does answers a.event a.below g.slate (some_part a.event.kind g.slate.queue) g.on a.chosen.is_own (a.chosen.may answers g.slate g.stands) (may_write a.event.kind g.slate.queue g.slate.connection.response_write_timeout) in
      let P : Option Why → Type 0 = λ o. ServesOn o (rule answers a.event g.slate).0 in
      record {
        slate = (rule answers a.event g.slate).0;
        stands = (a.taken.follows g.slate g.stands).1;
        served = v.served;
        on = subst P c d.on;
        calls = g.calls;
        gained = g.gained;
        name = g.name;
        seen = λ p. elim (v.flushing p) [ inl q ↦ g.seen q | inr s ↦ let no : is_wide Shutdown ≡ false = ap is_wide (sym s) ∙ a.chosen.is_own in absurd cc ];
        same = own_same core core' None k k1 f f1 f2 g a (λ (e : None ≡ Some ByFault). absurd cc);
      }

  -- by another reason
  closed_same : (why : Why) (core core' : ClientCore W R F) (k k1 : Known) (f f1 f2 : ℕ) → Goes core k k1 f f1 → ActedFor answer answers (Some why) core core' f1 f2 → ¬ (why ≡ ByFault) → f2 ≡ f
  closed_same why core core' k k1 f f1 f2 g a n = own_same core core' (Some why) k k1 f f1 f2 g a (some_other why n)

  caused : (why : Why) (core core' : ClientCore W R F) (k k1 : Known) (f f1 f2 : ℕ) (g : Goes core k k1 f f1) (a : ActedFor answer answers (Some why) core core' f1 f2) → ClosesFor why a.event g.slate → Causes why k k1 f f2
  caused Ended core core' k k1 f f1 f2 g a c = closed_same Ended core core' k k1 f f1 f2 g a (λ (e : Ended ≡ ByFault). absurd cc)
  caused ByFault core core' k k1 f f1 f2 g a c = rose_since f f1 f2 g.same (a.chosen.blames.fault c)
  caused Short core core' k k1 f f1 f2 g a c = closed_same Short core core' k k1 f f1 f2 g a (λ (e : Short ≡ ByFault). absurd cc)
  caused Idle core core' k k1 f f1 f2 g a c = closed_same Idle core core' k k1 f f1 f2 g a (λ (e : Idle ≡ ByFault). absurd cc)
  caused WriteTimeout core core' k k1 f f1 f2 g a c = closed_same WriteTimeout core core' k k1 f f1 f2 g a (λ (e : WriteTimeout ≡ ByFault). absurd cc)
  caused Commanded core core' k k1 f f1 f2 g a c = absurd (never_commanded a.event g.slate g.served (own_served core core' (Some Commanded) f1 f2 a g.slate g.stands) c)
  caused ByShutdown core core' k k1 f f1 f2 g a c =
      let saw : SawShutdown k k1 = elim c [ inl s ↦ let no : is_wide Shutdown ≡ false = ap is_wide (sym s) ∙ a.chosen.is_own in absurd cc | inr p ↦ g.seen p ] in
      (saw, closed_same ByShutdown core core' k k1 f f1 f2 g a (λ (e : ByShutdown ≡ ByFault). absurd cc))

  pub acted_cause : (why : Why) (core core' : ClientCore W R F) (k k1 : Known) (f f1 f2 : ℕ) → Goes core k k1 f f1 → ActedFor answer answers (Some why) core core' f1 f2 → Causes why k k1 f f2
  acted_cause why core core' k k1 f f1 f2 g a =
      let observed = a.taken.follows g.slate g.stands in
      caused why core core' k k1 f f1 f2 g a (reason answers a.event g.slate g.served why (ap closed_by (sym observed.0) ∙ a.taken.closed)).closes

-- once the slot is given back
pub cause_released : (why : Why) (k k1 k2 : Known) (f f1 f2 left : ℕ) → Causes why k k1 f f1 → k1.name ≡ k.name → Called k1 Release (Left left) k2 → f2 ≡ f1 → Causes why k k2 f f2
cause_released ByFault k k1 k2 f f1 f2 left c n h l = omega (arith, c, l)
cause_released Commanded k k1 k2 f f1 f2 left c n h l = c
cause_released ByShutdown k k1 k2 f f1 f2 left c n h l = (saw_more k k1 Release (Left left) k2 c.0 n h, l ∙ c.1)
cause_released _ k k1 k2 f f1 f2 left c n h l = l ∙ c

-- Which event closes a connection that is served, by the reason.
use Rattle.std.proofs.Common.{◌≡◌, ℕ, zero, suc, ◌+◌, ◌<◌, List, [], ◌∷◌, ◌++◌, length, drop, arith, refl, sym, ◌∙◌, ap, subst, inl, inr, zero-add, Some}
use Rattle.std.specs.Prelude.{nat_lt, slice_get}
use Rattle.std.proofs.lemmas.Bool.Decides.{nat_tests}
use Rattle.dns_events.specs.declared.event.Event.{Event}
use Rattle.dns_events.specs.declared.event.EventKind.{EventKind}
use Rattle.dns_events.specs.declared.event.EventKind.TheVariants.{Datagram, Offer, Close, Release}
use Rattle.dns_events.specs.declared.event.Output.{Output}
use Rattle.dns_events.specs.declared.event.Why.{Why}
use Rattle.dns_events.specs.declared.event.Why.TheVariants.{Short, Idle, WriteTimeout, Commanded, Shutdown as ByShutdown}
use Rattle.dns_session.specs.Connections.{close, wind_up, take_frame, take_frames, written, flushed, reconfigured, released}
use Rattle.dns_session.specs.Frames.{frames}
use Rattle.dns_session.specs.Reasons.{HasShortFrame, IsShortPiece, ClosesFor}
use Rattle.dns_session.specs.Requests.{header_size}
use Rattle.dns_session.specs.Rule.{rule}
use Rattle.dns_session.specs.Serving.{Serving}
use Rattle.dns_session.specs.Slate.{Slate, Effect, Phase, Unused, Exchange, Open, Flushing, Closed, Conf, conf_rule, with_conf}
use Rattle.dns_session.specs.Turns.{turn_request}
use Rattle.dns_session.proofs.Walks.{Rows, rows}
use Rattle.dns_stream_driver.specs.Closing.{closed_by}
use Rattle.dns_stream_driver.specs.Links.{frame_octets}
use Rattle.dns_stream_driver.proofs.ByKind.{in_either}

-- no event but these comes to a connection that is served
abbrev pub IsServedBy : EventKind → Type 0
IsServedBy (Datagram addr o) = ⊥
IsServedBy (Offer addr) = ⊥
IsServedBy Close = ⊥
IsServedBy Release = ⊥
IsServedBy _ = Unit {0}

-- the states that such a connection goes through
abbrev pub IsServedIn : Phase → Type 0
IsServedIn Open = Unit {0}
IsServedIn (Flushing why) = why ≡ ByShutdown
IsServedIn Closed = Unit {0}
IsServedIn _ = ⊥

served_by : (k j : EventKind) → k ≡ j → IsServedBy k → IsServedBy j
served_by k j e v = subst (λ (x : EventKind). IsServedBy x) e v

served_in : (p q : Phase) → p ≡ q → IsServedIn p → IsServedIn q
served_in p q e v = subst (λ (x : Phase). IsServedIn x) e v

-- one of some frames is shorter than a header
pub record HasShort (fs : List (List ℕ)) : Type 0 where
  pub number : ℕ
  pub frame : List ℕ
  pub is : slice_get fs number ≡ Some frame
  pub short : length frame < header_size

-- why some outputs close it, and for a write that took too long no frame is sent
pub record Reason (why : Why) (e : Event) (s : Slate) (outs : List Output) : Type 0 where
  pub closes : ClosesFor why e s
  pub silent : why ≡ WriteTimeout → frame_octets outs ≡ []

abbrev pub HasReason : Event → Slate → Effect → Type 0
HasReason e s t = (why : Why) → closed_by t.1 ≡ Some why → Reason why e s t.1

silent : (e : Event) (s t : Slate) → HasReason e s (t, [])
silent e s t why h = absurd cc

closed_for : (e : Event) (s t : Slate) (why : Why) → ClosesFor why e s → HasReason e s (close why t)
closed_for e s t why r other h =
    let same : why ≡ other = cc in
    let P : Why → Type 0 = λ w. Reason w e s (close why t).1 in
    let first : Reason why e s (close why t).1 = record { closes = r; silent = λ _. refl } in
    subst P same first

get_drop : {A : Type 0} (n j : ℕ) (xs : List A) → slice_get (drop n xs) j ≡ slice_get xs (n + j)
get_drop zero j xs = ap (slice_get xs) (sym (zero-add j))
get_drop (suc n) j [] = refl
get_drop (suc n) j (x ∷ xs) = let e : suc (n + j) ≡ suc n + j = omega arith in get_drop n j xs ∙ ap (slice_get (x ∷ xs)) e

short_of : (n : ℕ) (o : List ℕ) → HasShort (drop n (frames o)) → HasShortFrame o
short_of n o h = record { number = n + h.number; frame = h.frame; is = sym (get_drop n h.number (frames o)) ∙ h.is; short = h.short }

frames_reason : (e : Event) (s : Slate) (at secs : ℕ) (fs : List (List ℕ)) (t : Slate) → (HasShort fs → IsShortPiece e s) → HasReason e s (take_frames at secs fs t)
frames_reason e s at secs [] t f = silent e s t
frames_reason e s at secs (m ∷ fs) t f = in_either (HasReason e s) (nat_lt (length m) header_size) (close Short t) (take_frames at secs fs (take_frame at secs m t))
    (λ h. closed_for e s t Short (f (record { number = 0; frame = m; is = refl; short = grind (arith, nat_tests, h) })))
    (λ h. frames_reason e s at secs fs (take_frame at secs m t) (λ x. f (record { number = suc x.number; frame = x.frame; is = x.is; short = x.short })))

written_reason : (e : Event) (s : Slate) (at : ℕ) (m : List ℕ) (ms : List (List ℕ)) → HasReason e s (written at m ms s)
written_reason e s at m [] why h = absurd cc
written_reason e s at m (n ∷ ms) why h = absurd cc

flushed_reason : (e : Event) (s : Slate) (m : List ℕ) (ms : List (List ℕ)) → s.phase ≡ Flushing ByShutdown → HasReason e s (flushed ByShutdown m ms s)
flushed_reason e s m [] p why h =
    let same : ByShutdown ≡ why = cc in
    let P : Why → Type 0 = λ w. Reason w e s (flushed ByShutdown m [] s).1 in
    let first : Reason ByShutdown e s (flushed ByShutdown m [] s).1 = record { closes = inr p; silent = λ (x : ByShutdown ≡ WriteTimeout). absurd cc } in
    subst P same first
flushed_reason e s m (n ∷ ms) p why h = absurd cc

-- no connection that is served is closed by a command
pub never_commanded : (e : Event) (s : Slate) → IsServedIn s.phase → IsServedBy e.kind → ClosesFor Commanded e s → ⊥
never_commanded e s v b c = elim c [ inl k ↦ served_by e.kind Close k b | inr p ↦ let no : Commanded ≡ ByShutdown = served_in s.phase (Flushing Commanded) p v in absurd cc ]

module _ (answers : Serving) where
  reasons : (e : Event) → Rows answers e (λ s t. IsServedIn s.phase → HasReason e s t)
  reasons e = record {
    stays = λ s v. silent e s s;
    exchanges = λ addr o s is p over v. absurd (served_in s.phase Unused p v);
    opens = λ addr s is p over v. absurd (served_in s.phase Unused p v);
    polls = λ k r s is p at d v. absurd (served_in s.phase Exchange p v);
    takes = λ o s is p v. frames_reason e s e.at e.secs (drop s.taken (frames (s.received ++ o))) (record s { received = s.received ++ o })
        (λ x. record { octets = o; kind = is; phase = p; short = short_of s.taken (s.received ++ o) x });
    turns = λ k r s is p at d v. silent e s (turn_request answers e.at k r.held r s);
    writes = λ m ms s p is v. written_reason e s e.at m ms;
    flushes = λ why m ms s p is v. let y : why ≡ ByShutdown = served_in s.phase (Flushing why) p v in rw y (flushed_reason e s m ms (p ∙ ap Flushing y));
    closes = λ why s c r v. closed_for e s s why r;
    winds = λ why m ms s p is v. silent e s (wind_up why (m ∷ ms) s).0;
    reconfigures = λ dgram stream s is p v. silent e s (reconfigured stream.connection_config s);
    releases = λ s is p v. silent e s (released s);
  }

  -- the configurations of the server are no reason
  of_conf : (e : Event) (s : Slate) (conf : Conf) (why : Why) → ClosesFor why e (with_conf conf s) → ClosesFor why e s
  of_conf e s conf Short r = record { octets = r.octets; kind = r.kind; phase = r.phase; short = r.short }
  of_conf e s conf Idle r = record { kind = r.kind; late = r.late }
  of_conf e s conf WriteTimeout r = record { took = r.took; kind = r.kind; late = r.late }
  of_conf e s conf _ r = r

  -- if an event closes a connection that is served, its reason is this
  pub reason : (e : Event) (s : Slate) → IsServedIn s.phase → HasReason e s (rule answers e s)
  reason e s v why h =
      let conf = conf_rule e.kind s.conf in
      let r = rows answers e (λ s t. IsServedIn s.phase → HasReason e s t) (reasons e) s v why h in
      record { closes = of_conf e s conf why r.closes; silent = r.silent }

-- What an event does to a query that stands for what is asked.
use Rattle.std.proofs.Common.{◌≡◌, ℕ, List, [], ◌∷◌, ◌++◌, Result, refl, ap, sym, subst, ◌∙◌}
use Rattle.dns_base.specs.Msg.{Msg}
use Rattle.dns_layers.specs.Rewritten.{rewritten}
use Rattle.dns_service.specs.Answer.{Item}
use Rattle.dns_service.specs.declared.service.Polled.TheVariants.{Pending}
use Rattle.dns_route.specs.Relays.{SentAnswer}
use Rattle.dns_route.specs.declared.send_request.SendError.{SendError}
use Rattle.dns_lookup.specs.declared.lookup.Lookup.{Lookup}
use Rattle.dns_lookup.specs.declared.lookup_event.LookupEvent.{LookupEvent}
use Rattle.dns_lookup.specs.declared.lookup_event.LookupOutcome.{LookupOutcome}
use Rattle.dns_lookup.specs.declared.lookup_event.LookupOutcome.TheVariants as Led_to
use Rattle.dns_lookup.specs.Lookups.{InDatagrams, Progress, Subject, answer_among, lookup_outcomes, lookup_step, outcomes_from, progress_from}
use Rattle.dns_lookup.specs.Stages.{IsAt, Steps}
use Rattle.dns_proxy.specs.declared.query_event.QueryOutcome.{QueryOutcome}
use Rattle.dns_proxy.specs.declared.query_event.QueryOutcome.TheVariants.{Nothing, Send, Connect, Reply}
use Rattle.dns_proxy.specs.declared.query.Query.{Query}
use Rattle.dns_proxy.specs.Coming.{message_of, outputs_to}
use Rattle.dns_proxy.specs.Proxied.{Asked, answer_of, came_to, outcome_after, sent, sent_for, sent_over, subject, with_event}
use Rattle.dns_proxy.specs.Queries.{FrontAfter, Goes, GoesBy, Stands, front_by, replied}

-- ---- one event more

progress-more : (s : Subject) (p : Progress) (es : List LookupEvent) (e : LookupEvent) → progress_from s p (es ++ e ∷ []) ≡ (lookup_step s (progress_from s p es) e).0
progress-more s p [] e = refl
progress-more s p (x ∷ es) e = progress-more s (lookup_step s p x).0 es e

outcomes-more : (s : Subject) (p : Progress) (es : List LookupEvent) (e : LookupEvent) → outcomes_from s p (es ++ e ∷ []) ≡ outcomes_from s p es ++ (lookup_step s (progress_from s p es) e).1 ∷ []
outcomes-more s p [] e = refl
outcomes-more s p (x ∷ es) e = ap (λ (os : List LookupOutcome). (lookup_step s p x).1 ∷ os) (outcomes-more s (lookup_step s p x).0 es e)

answer-more : (os : List LookupOutcome) (o : LookupOutcome) → answer_among os ≡ Pending → answer_among (os ++ o ∷ []) ≡ answer_among (o ∷ [])
answer-more [] o h = refl
answer-more (Led_to.Answer r ∷ os) o h = absurd (cc)
answer-more (Led_to.Nothing ∷ os) o h = answer-more os o h
answer-more (Led_to.Send x ∷ os) o h = answer-more os o h
answer-more (Led_to.Connect x ∷ os) o h = answer-more os o h

came-more : (a : Asked) (e : LookupEvent) → came_to (with_event a e) ≡ (lookup_step (subject a) (came_to a) e).0
came-more a e = progress-more (subject a) (InDatagrams []) a.events e

answer-on : (a : Asked) (e : LookupEvent) → answer_of a ≡ Pending → answer_of (with_event a e) ≡ answer_among (outcome_after a e ∷ [])
answer-on a e h = ap answer_among (outcomes-more (subject a) (InDatagrams []) a.events e) ∙ answer-more (lookup_outcomes (subject a) a.events) (outcome_after a e) h

module _ {R : Type 0} (rewriting : R → Msg → Msg) (q : Query R) (l : Lookup) (o : LookupOutcome) (e : LookupEvent) (steps : Steps q.lookup e l o) (a : Asked) (s : Stands rewriting q a) where
  -- what its lookup is led to is what it leads to
  pub outcome-so : o ≡ outcome_after a e
  outcome-so = (steps (subject a) (came_to a) s.lookup).1

  answer-so : answer_of (with_event a e) ≡ answer_among (o ∷ [])
  answer-so = answer-on a e s.waits ∙ ap (λ (w : LookupOutcome). answer_among (w ∷ [])) (sym outcome-so)

  -- it stands on, if there is no answer
  stands-on : answer_among (o ∷ []) ≡ Pending → Stands rewriting (record q { lookup = l }) (with_event a e)
  stands-on h = record {
    client = s.client;
    octets = s.octets;
    secs = s.secs;
    lookup = subst (λ (p : Progress). IsAt (subject a) p l) (sym (came-more a e)) (steps (subject a) (came_to a) s.lookup).0;
    waits = answer-so ∙ h;
    replies = s.replies;
  }

  module _ (given : List ℕ → Result (List ℕ) SendError → Item) where
    goes-by : (t : QueryOutcome) (left : Query R) → GoesBy given (with_event a e) (Stands rewriting left (with_event a e)) (Unit {0}) o t → Goes rewriting given a e t left
    goes-by t left h = subst (λ (w : LookupOutcome). GoesBy given (with_event a e) (Stands rewriting left (with_event a e)) (Unit {0}) w t) outcome-so h

    pub goes-nothing : o ≡ Led_to.Nothing → Goes rewriting given a e Nothing (record q { lookup = l })
    goes-nothing is = goes-by Nothing (record q { lookup = l })
        (subst (λ (w : LookupOutcome). GoesBy given (with_event a e) (Stands rewriting (record q { lookup = l }) (with_event a e)) (Unit {0}) w Nothing) (sym is)
        (refl, stands-on (ap (λ (w : LookupOutcome). answer_among (w ∷ [])) is)))

    pub goes-send : (x : List ℕ) → o ≡ Led_to.Send x → Goes rewriting given a e (Send x) (record q { lookup = l })
    goes-send x is = goes-by (Send x) (record q { lookup = l })
        (subst (λ (w : LookupOutcome). GoesBy given (with_event a e) (Stands rewriting (record q { lookup = l }) (with_event a e)) (Unit {0}) w (Send x)) (sym is)
        (refl, stands-on (ap (λ (w : LookupOutcome). answer_among (w ∷ [])) is)))

    pub goes-connect : (x : List ℕ) → o ≡ Led_to.Connect x → Goes rewriting given a e (Connect x) (record q { lookup = l })
    goes-connect x is = goes-by (Connect x) (record q { lookup = l })
        (subst (λ (w : LookupOutcome). GoesBy given (with_event a e) (Stands rewriting (record q { lookup = l }) (with_event a e)) (Unit {0}) w (Connect x)) (sym is)
        (refl, stands-on (ap (λ (w : LookupOutcome). answer_among (w ∷ [])) is)))

    -- the client is sent what its exchange sends over what the answer gives
    reply-so : (r : Result (List ℕ) SendError) → o ≡ Led_to.Answer r
        → outputs_to a.came (replied q.limit q.request.octets (rewritten (rewriting q.rule) (given q.request.octets r))) ≡ sent given (with_event a e)
    reply-so r is =
        let all : sent given (with_event a e) ≡ sent_over a.front a.dgram a.came (given (message_of a.came) r) =
        ap (λ (w : SentAnswer). sent_for given a.front a.dgram a.came w) (answer-so ∙ ap (λ (w : LookupOutcome). answer_among (w ∷ [])) is) in
        subst (λ (m : List ℕ). outputs_to a.came (replied q.limit m (rewritten (rewriting q.rule) (given m r))) ≡ sent given (with_event a e)) (sym s.octets)
        (s.replies (given (message_of a.came) r) ∙ sym all)

    pub goes-reply : (r : Result (List ℕ) SendError) (t : QueryOutcome) (left : Query R) → o ≡ Led_to.Answer r
        → t ≡ Reply (replied q.limit q.request.octets (rewritten (rewriting q.rule) (given q.request.octets r))) → Goes rewriting given a e t left
    goes-reply r t left is e' = goes-by t left
        (subst (λ (w : LookupOutcome). GoesBy given (with_event a e) (Stands rewriting left (with_event a e)) (Unit {0}) w t) (sym is)
        (replied q.limit q.request.octets (rewritten (rewriting q.rule) (given q.request.octets r)), e', reply-so r is, tt))

  module _ {F : Type 0} (after_give : F → List ℕ → ℕ → Result (List ℕ) SendError → F) where
    -- what stood before the upstreams
    pub front-same : (old : F) → front_by after_give a.came old o ≡ old → FrontAfter after_give a e old old
    front-same old h = sym (ap (front_by after_give a.came old) (sym outcome-so) ∙ h)

    pub front-gave : (old new : F) (r : Result (List ℕ) SendError) → o ≡ Led_to.Answer r → new ≡ after_give old q.request.octets q.request.received_secs r → FrontAfter after_give a e old new
    front-gave old new r is gave =
        gave
        ∙ (ap (λ (m : List ℕ). after_give old m q.request.received_secs r) s.octets
        ∙ (ap (λ (n : ℕ). after_give old (message_of a.came) n r) s.secs
        ∙ (ap (front_by after_give a.came old) (sym is) ∙ ap (front_by after_give a.came old) outcome-so)))

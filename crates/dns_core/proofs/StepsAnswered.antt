-- Each reply that a client is sent, which hears of the server's changes when it looks, answers what it asked.
use Rattle.dns_session.specs.Serving.{Serving}
use Rattle.std.proofs.Common.{◌≡◌, ℕ, ◌≤◌, Option, List, [], ◌∷◌, ◌++◌, length, subst, append_assoc}
use Rattle.std.specs.Prelude.{All, IfSome}
use Rattle.std.proofs.lemmas.List.Elements.{All-append, All-nil}
use Rattle.dns_base.specs.Msg.{Msg}
use Rattle.dns_base.specs.Wire.{wire}
use Rattle.dns_service.specs.Cut.{cut}
use Rattle.dns_service.specs.Req.{Req}
use Rattle.dns_service.specs.Transport.{limit}
use Rattle.dns_events.specs.declared.event.Event.{Event}
use Rattle.dns_events.specs.declared.event.Step.{Step}
use Rattle.dns_service.specs.declared.message.TransportSpecificContext.TheVariants.{Udp}
use Rattle.dns_session.specs.After.{sent_after}
use Rattle.dns_session.specs.Rule.{rule}
use Rattle.dns_session.specs.Turns.{reply_to, sent_for}
use Rattle.dns_core.specs.Placed.{Knowledge, learns, knowledge_at_first, place, placed, puts}
use Rattle.dns_core.specs.ReplyTo.{IsReply, Responds}
use Rattle.dns_core.specs.Sent.{sent, slate}
use Rattle.dns_events.specs.declared.settings.Settings.{Settings}
use Rattle.dns_core.proofs.Answered.{Has, has_more, has_none, leads}
use Rattle.dns_core.proofs.Looked.{Enter}
use Rattle.dns_core.proofs.OutLemmas.{slate_some}
use Rattle.dns_core.proofs.StepsByClient.{Hears, hears_both, hears_puts}
use Rattle.dns_core.proofs.Tied.{enter_learns}

hears_place : (c : ℕ) (ss : List Step) (k : Knowledge) → Enter k.seen k.unheard → Hears c (place c k ss)
hears_place c [] k h = tt
hears_place c (s ∷ ss) k h = hears_both c (puts c k s) (place c (learns c k s) ss) (hears_puts c k s h) (hears_place c ss (learns c k s) (enter_learns c k s h))

hears_placed : (settings : Settings) (c : ℕ) (steps : List Step) → Hears c (placed settings c steps)
unfolding placed
hears_placed settings c steps = hears_place c steps (knowledge_at_first settings) tt

module _ (answers : Serving) (settings : Settings) (c : ℕ)
    (respond : (n : Option ℕ) (r : Req (Unit {0})) (k : ℕ) → IfSome (reply_to n r.octets (answers.answer r k)) (Responds r.octets))
    (fit : (r : Req (Unit {0})) (k : ℕ) (hint : Option ℕ) → r.transport ≡ Udp hint → IfSome (sent_for answers r (answers.answer r k)) (λ m. length (wire m) ≤ limit (answers.hint r)))
    (cut_fits : (n : ℕ) (m : Msg) → 512 ≤ n → length (wire (cut n m)) ≤ n) where
  -- of the events that a client hears
  heard_replies : (r q : List Event) → Hears c r → Has answers settings c respond fit cut_fits q → All (IsReply answers settings (q ++ r)) (sent_after answers (slate answers settings c q) r)
  heard_replies [] q hs h = All-nil (IsReply answers settings (q ++ []))
  heard_replies (e ∷ r) q hs h =
      let es : List Event = q ++ e ∷ r in
      let more = heard_replies r (q ++ e ∷ []) hs.1 (has_more answers settings c respond fit cut_fits q e h) in
      All-append (IsReply answers settings es) (rule answers e (slate answers settings c q)).1 (sent_after answers (rule answers e (slate answers settings c q)).0 r)
      ((leads answers settings c respond fit cut_fits q e hs.0 h).sent r)
      (subst (λ s. All (IsReply answers settings es) (sent_after answers s r)) (slate_some answers settings c q e hs.0)
      (subst (λ (fs : List Event). All (IsReply answers settings fs) (sent_after answers (slate answers settings c (q ++ e ∷ [])) r)) (append_assoc q (e ∷ []) r) more))

  pub placed_replies : (steps : List Step) → All (IsReply answers settings (placed settings c steps)) (sent answers settings (placed settings c steps))
  unfolding sent slate
  placed_replies steps = heard_replies (placed settings c steps) [] (hears_placed settings c steps) (has_none answers settings c respond fit cut_fits)

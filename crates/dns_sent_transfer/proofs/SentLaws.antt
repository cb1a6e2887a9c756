-- All replies of a request that are in a transaction were sent, in order.
use Rattle.std.proofs.Common.{◌≡◌, ◌≢◌, ◌≤◌, ◌<◌, ℕ, zero, suc, ◌+◌, inl, inr, Bool, true, false, List, [], ◌∷◌, ◌++◌, length, map, Option, Some, None, refl, ap, sym, subst, ◌∙◌, arith, append-nil}
use Rattle.std.specs.Prelude.{slice_get, option_map, if◌then◌else◌, nat_le, Ok, Err}
use Rattle.std.proofs.lemmas.List.{length-map}
use Rattle.std.proofs.lemmas.Bool.Decides.{nat_tests}
use Rattle.dns_base.specs.Msg.{ResourceRecord}
use Rattle.dns_base.specs.Wire.{wire}
use Rattle.dns_events.specs.declared.event.Event.{Event}
use Rattle.dns_events.specs.declared.settings.Settings.{Settings}
use Rattle.dns_service.specs.Answer.{Answer}
use Rattle.dns_service.specs.declared.service.Polled.TheVariants.{Ready}
use Rattle.dns_service.specs.declared.service.ServiceError.TheVariants.{InternalError}
use Rattle.dns_session.specs.Connections.{is_in_transaction}
use Rattle.dns_session.specs.Serving.{Serving}
use Rattle.dns_session.specs.Slate.{SlateRequest}
use Rattle.dns_session.specs.Turns.{sent_for}
use Rattle.dns_model.specs.Own.{own}
use Rattle.dns_model.specs.Sent.{sent, slate}
use Rattle.dns_model.specs.Settings.{opening}
use Rattle.dns_core.specs.Trails.{Origin, Trail, AreFrom, AreQueued, IsRising, IsSomewhere, in_order, messages_sent, on_wire, poll_of, polls_of, reply_at, trail_of}
use Rattle.dns_core.proofs.Origins.{At}
use Rattle.dns_transfer.specs.Transfers.{TransferFits, answer_message, bunched, feedback_at, status_behind, transfer, transfer_message, transfer_poll, transfer_records}
use Rattle.dns_transfer.proofs.TransactionLaws.{transfers_are_transactions}
use Rattle.dns_zone.specs.Owned.{ZoneState}
use Rattle.dns_sent_transfer.specs.SentTransfers.{AreAmong, AreReplies, IsWritten, TransactionsLoseNothing, TransfersAreSentWhole, octets_sent, transfer_octets}
use Rattle.dns_sent_transfer.proofs.AmongLaws.{Went, among, octets_of_messages}
use Rattle.dns_sent_transfer.proofs.StatusLaws.{dropped_are_outside}

-- what the core says of the replies of its clients
abbrev pub SentInOrder : Type 0
SentInOrder = (answers : Serving) (settings : Settings) (c : ℕ) (es : List Event) → AreFrom answers (trail_of answers settings (own c es)).went (messages_sent (sent answers settings (own c es)))

abbrev pub WaitsInOrder : Type 0
WaitsInOrder = (answers : Serving) (settings : Settings) (c : ℕ) (es : List Event) → AreQueued answers (trail_of answers settings (own c es)).waiting (slate answers settings c es).queue

abbrev pub RisesInOrder : Type 0
RisesInOrder = (answers : Serving) (settings : Settings) (c k : ℕ) (es : List Event) → IsRising (polls_of k (in_order (trail_of answers settings (own c es))))

abbrev pub NoneIsMissing : Type 0
NoneIsMissing = (answers : Serving) (settings : Settings) (c k n : ℕ) (es : List Event) (r : SlateRequest) → slice_get (slate answers settings c es).requests k ≡ Some r → n < r.polls → reply_at answers (poll_of k r n) ≢ None → IsSomewhere answers k r (trail_of answers settings (own c es)) (poll_of k r n)

empty_waiting : (answers : Serving) (ms : List (Option Origin)) (q : List (List ℕ)) → q ≡ [] → AreQueued answers ms q → ms ≡ []
empty_waiting answers ms q e h = by_list ms (subst (AreQueued answers ms) e h)
  where
    by_list : (ns : List (Option Origin)) → AreQueued answers ns [] → ns ≡ []
    by_list [] h = refl
    by_list (n ∷ ns) h = absurd h

get_short : {X : Type 0} (xs : List X) (n : ℕ) (x : X) → slice_get xs n ≡ Some x → n < length xs
get_short [] n x h = absurd (cc)
get_short (y ∷ xs) zero x h = omega arith
get_short (y ∷ xs) (suc n) x h = omega (arith, get_short xs n x h)

module _ (answers : Serving) (settings : Settings) (c k : ℕ) (es : List Event) (r : SlateRequest) (replies : List (List ℕ)) (w : IsWritten (slate answers settings c es) k r (length replies)) (a : AreReplies answers k r replies) (waits : WaitsInOrder) (missing : NoneIsMissing) where
  abbrev t : Trail
  t = trail_of answers settings (own c es)

  none_waits : t.waiting ≡ []
  none_waits = empty_waiting answers t.waiting (slate answers settings c es).queue w.empty (waits answers settings c es)

  not_none : (n : ℕ) (o : List ℕ) → slice_get replies n ≡ Some o → reply_at answers (poll_of k r n) ≢ None
  not_none n o e f = let x : Some o ≡ None = sym (a.each n o e) ∙ f in cc

  -- each went
  went : (n : ℕ) (o : List ℕ) → slice_get replies n ≡ Some o → At t.went (Some (poll_of k r n))
  went n o e =
      let l : n < r.polls = omega (arith, get_short replies n o e, w.polled) in
      elim (missing answers settings c k n es r w.request l (not_none n o e)) [
        | inl gone ↦ gone
        | inr (inl waiting) ↦ absurd (let x : None ≡ Some (Some (poll_of k r n)) = sym (ap (λ (ms : List (Option Origin)). slice_get ms waiting.0) none_waits) ∙ waiting.1 in cc)
        | inr (inr (inl held)) ↦ absurd (let x : None ≡ Some o = sym w.free ∙ (held.0 ∙ a.each n o e) in cc)
        | inr (inr (inr dropped)) ↦ absurd (let x : true ≡ false = sym (a.inside n o e) ∙ dropped_are_outside answers (opening settings) (own c es) dropped.0 (poll_of k r n) dropped.1 in cc)
      ]

  all_went : Went answers k r 0 replies t.went
  all_went = record {
    reply = λ n g e. let d : n ≡ 0 + n = omega arith in subst (λ (m : ℕ). reply_at answers (poll_of k r m) ≡ Some g) d (a.each n g e);
    at = λ n g e. let d : n ≡ 0 + n = omega arith in subst (λ (m : ℕ). At t.went (Some (poll_of k r m))) d (went n g e);
  }

  rising_went : RisesInOrder → IsRising (polls_of k t.went)
  rising_went rises =
      let e : t.went ++ t.waiting ≡ t.went = ap (λ (ms : List (Option Origin)). t.went ++ ms) none_waits ∙ append-nil t.went in
      subst (λ (ms : List (Option Origin)). IsRising (polls_of k ms)) e (rises answers settings c k es)

  all_sent : SentInOrder → RisesInOrder → AreAmong replies (octets_sent (sent answers settings (own c es)))
  all_sent sends rises =
      let outs = sent answers settings (own c es) in
      subst (AreAmong replies) (octets_of_messages outs) (among answers k r replies 0 t.went (messages_sent outs) (sends answers settings c es) (rising_went rises) all_went)

pub nothing_lost : SentInOrder → WaitsInOrder → RisesInOrder → NoneIsMissing → TransactionsLoseNothing
nothing_lost sends waits rises missing answers settings c k es r replies w a = all_sent answers settings c k es r replies w a waits missing sends rises

-- ---- transfers

le_true : (a b : ℕ) → a ≤ b → nat_le a b ≡ true
le_true a b h = grind (arith, nat_tests)

map_get : {X Y : Type 0} (f : X → Y) (xs : List X) (n : ℕ) (y : Y) → slice_get (map f xs) n ≡ Some y → (x : X) × (slice_get xs n ≡ Some x) × (f x ≡ y)
map_get f [] n y h = absurd (cc)
map_get f (x ∷ xs) zero y h = (x, refl, cc)
map_get f (x ∷ xs) (suc n) y h = map_get f xs n y h

module _ (answers : Serving) (k : ℕ) (r : SlateRequest) (z : ZoneState) (is : answers.answer r.request ≡ transfer z r.request.octets) (fits : TransferFits (bunched (transfer_records z)) r.request.octets) where
  abbrev bs : List (List ResourceRecord)
  bs = bunched (transfer_records z)

  abbrev o : List ℕ
  o = r.request.octets

  -- the answer to a poll that has a bunch
  bunch_answer : (n : ℕ) (b : List ResourceRecord) → slice_get bs n ≡ Some b → transfer z o n ≡ Ready (Some (Ok (record { response = Some (transfer_message o b); feedback = feedback_at n })))
  bunch_answer n b e =
      ap (transfer_poll o (length bs) n) e
      ∙ ap (λ (x : Bool). Ready (Some (if x then Ok (record { response = Some (transfer_message o b); feedback = feedback_at n }) else Err InternalError))) (le_true (length (wire (transfer_message o b))) 65535 (fits n b e))

  bunch_reply : (n : ℕ) (b : List ResourceRecord) → slice_get bs n ≡ Some b → reply_at answers (poll_of k r n) ≡ Some (on_wire r.request.transport (transfer_message o b))
  bunch_reply n b e =
      ap (λ (f : ℕ → Answer). option_map (on_wire r.request.transport) (sent_for answers r.request (f n))) is
      ∙ ap (λ (x : Answer). option_map (on_wire r.request.transport) (sent_for answers r.request x)) (bunch_answer n b e)

  bunch_inside : (n : ℕ) (b : List ResourceRecord) → slice_get bs n ≡ Some b → is_in_transaction (status_behind (answers.answer r.request) (suc n)) ≡ true
  bunch_inside n b e =
      ap (λ (f : ℕ → Answer). is_in_transaction (status_behind f (suc n))) is
      ∙ ap is_in_transaction (transfers_are_transactions z o n (transfer_message o b) fits (ap answer_message (bunch_answer n b e)))

  pub transfer_replies : AreReplies answers k r (transfer_octets z r.request)
  transfer_replies = record {
    each = λ n x e. let b = map_get _ bs n x e in bunch_reply n b.0 b.1 ∙ ap Some b.2;
    inside = λ n x e. let b = map_get _ bs n x e in bunch_inside n b.0 b.1;
  }

pub all_of_it : TransactionsLoseNothing → TransfersAreSentWhole
all_of_it loses answers settings c k es r z w is fits =
    let l : length (bunched (transfer_records z)) ≡ length (transfer_octets z r.request) = sym (length-map (bunched (transfer_records z)) _) in
    loses answers settings c k es r (transfer_octets z r.request) (subst (IsWritten (slate answers settings c es) k r) l w) (transfer_replies answers k r z is fits)

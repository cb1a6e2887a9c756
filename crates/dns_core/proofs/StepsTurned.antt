-- Who is turned away, and that the others are sent what they heard, whatever the interleaving.
use Rattle.dns_session.specs.Serving.{Serving}
use Rattle.std.proofs.Common.{◌≡◌, ◌≢◌, ℕ, List, [], ◌∷◌, ◌++◌, Bool, true, false, refl, ap, sym, ◌∙◌, subst, ⊎_elim, append_assoc}
use Rattle.std.specs.Prelude.{filter, if◌then◌else◌, not, ◌&&◌}
use Rattle.std.proofs.lemmas.Bool.{cases_eq, and_parts, not-true}
use Rattle.std.proofs.lemmas.List.{append-nil}
use Rattle.std.proofs.Math.Seq.{take-append_seam}
use Rattle.dns_core.proofs.ByClient.{didnt_begin}
use Rattle.dns_admission.specs.Machine.{has_slot, reply_of}
use Rattle.dns_events.specs.declared.event.Event.{Event}
use Rattle.dns_events.specs.declared.event.EventKind.{EventKind}
use Rattle.dns_events.specs.declared.event.EventKind.TheVariants.{Datagram, Offer}
use Rattle.dns_events.specs.declared.event.Output.{Output}
use Rattle.dns_events.specs.declared.event.Output.TheVariants.{TurnedAway}
use Rattle.dns_events.specs.declared.event.Step.{Step}
use Rattle.dns_events.specs.declared.event.Step.TheVariants.{Own, Look}
use Rattle.dns_core.specs.ByClient.{IsPrefix, is_for}
use Rattle.dns_session.specs.Slate.{Slate}
use Rattle.dns_name.specs.declared.address.SocketAddr.{SocketAddr}
use Rattle.dns_core.specs.Out.{is_unused}
use Rattle.dns_core.specs.Outs.{placed_slate, membership, step_gained, outs, outs_after, call_at, enters_at, refused_offer, stepping}
use Rattle.dns_core.specs.Placed.{is_beginning, knows, learned, knowledge_at_first, place, placed}
use Rattle.dns_core.specs.Sent.{sent}
use Rattle.dns_core.specs.StepsByClient.{TurnedAwayIn, finds_no_slot, is_offer, was_refused}
use Rattle.dns_events.specs.declared.settings.Settings.{Settings}
use Rattle.dns_core.proofs.Counted.{put_there, put_keeps}
use Rattle.dns_core.proofs.LooksIdle.{place_append}
use Rattle.dns_core.proofs.Named.{filter_for, filter_others}
use Rattle.dns_core.proofs.OutLemmas.{sent_front}
use Rattle.dns_core.proofs.Placing.{outs_more}
use Rattle.dns_core.proofs.StepsByClient.{Comes, comes, filter_both, joined, joined_by, joined_other, nothing_yet, opens, owns, step_for, used_stays}
use Rattle.dns_core.proofs.Stepping.{quiet_slate, other_step}
use Rattle.dns_core.proofs.StepsAlike.{outs_split, unused_after, unused_look}

offer_begins : (k : EventKind) → is_offer k ≡ true → is_beginning k ≡ true
offer_begins (Offer addr) h = refl
offer_begins _ h = cc

module _ (answers : Serving) (settings : Settings) where
  abbrev sent_to : ℕ → List Step → List Output
  sent_to c q = filter (is_for c) (outs answers settings q)

  -- by a step of a used number nobody enters, and nobody is turned away
  pub record Known (q : List Step) (s : Step) : Type 0 where
    pub says : refused_offer (stepping s) (reply_of (membership answers settings q).book (call_at answers settings q (membership answers settings q).members s)) ≡ []
    pub enters : enters_at answers settings q (membership answers settings q) s ≡ false

  pub known : (q : List Step) (s : Step) → is_unused (placed_slate answers settings (stepping s) q).phase ≡ false → Known q s
  unfolding Comes
  known q s u = ⊎_elim
      (λ (x : (is_unused (placed_slate answers settings (stepping s) q).phase ≡ true) × (is_unused (placed_slate answers settings (stepping s) (q ++ s ∷ [])).phase ≡ false)). let z = x.0 in cc)
      (λ (y : (refused_offer (stepping s) (reply_of (membership answers settings q).book (call_at answers settings q (membership answers settings q).members s)) ≡ []) × (enters_at answers settings q (membership answers settings q) s ≡ false)). record { says = y.0; enters = y.1 })
      (comes answers settings q s)

  -- one that was turned away stays so
  record Away (c : ℕ) (q : List Step) (os : List Output) : Type 0 where
    used : is_unused (placed_slate answers settings c q).phase ≡ false
    absent : joined answers settings c q ≡ false
    effect : sent_to c q ≡ os

  away_self : (q : List Step) (s : Step) → is_unused (placed_slate answers settings (stepping s) q).phase ≡ false → joined answers settings (stepping s) q ≡ false
      → (joined answers settings (stepping s) (q ++ s ∷ []) ≡ false) × (step_gained answers settings q s ≡ [])
  away_self q s u a =
      let k = known q s u in
      let out : joined answers settings (stepping s) (q ++ s ∷ []) ≡ false = joined_by answers settings false (stepping s) q s k.enters ∙ a in
      (out, rw out k.says)

  away_step : (c : ℕ) (q : List Step) (s : Step) → is_unused (placed_slate answers settings c q).phase ≡ false → joined answers settings c q ≡ false
      → (joined answers settings c (q ++ s ∷ []) ≡ false) × (filter (is_for c) (step_gained answers settings q s) ≡ [])
  away_step c q s u a = ⊎_elim
      (λ (same : c ≡ stepping s).
      let h = away_self q s (rw (← same) u) (rw (← same) a) in
      (ap (λ d. joined answers settings d (q ++ s ∷ [])) same ∙ h.0, ap (filter (is_for c)) h.1))
      (λ (apart : c ≢ stepping s). (joined_other answers settings c q s apart ∙ a, filter_others c (stepping s) (step_gained answers settings q s) (step_for answers settings q s) apart))
      (cases_eq c (stepping s))

  away_more : (c : ℕ) (q : List Step) (os : List Output) (s : Step) → Away c q os → Away c (q ++ s ∷ []) os
  away_more c q os s a =
      let h = away_step c q s a.used a.absent in
      record {
        used = used_stays answers settings c q s a.used;
        absent = h.0;
        effect =
            ap (filter (is_for c)) (outs_more answers settings q s) ∙ filter_both answers settings c (outs answers settings q) (step_gained answers settings q s)
            ∙ ap (λ ps. ps ++ filter (is_for c) (step_gained answers settings q s)) a.effect ∙ ap (λ ps. os ++ ps) h.1 ∙ append-nil os;
      }

  away_on : (c : ℕ) (os : List Output) (r q : List Step) → Away c q os → Away c (q ++ r) os
  away_on c os [] q a = subst (λ (p : List Step). Away c p os) (sym (append-nil q)) a
  away_on c os (x ∷ r) q a = subst (λ (p : List Step). Away c p os) (append_assoc q (x ∷ []) r) (away_on c os r (q ++ x ∷ []) (away_more c q os x a))

  -- what the book replies to such an offer
  record Refused (q : List Step) (e : Event) : Type 0 where
    unused : is_unused (placed_slate answers settings e.client q).phase ≡ true
    open_book : (membership answers settings q).book.closed ≡ false
    says : refused_offer e.client (reply_of (membership answers settings q).book (call_at answers settings q (membership answers settings q).members (Own e))) ≡ TurnedAway e.client (membership answers settings q).book.stream.accept_connections_at_max ∷ []
    enters : enters_at answers settings q (membership answers settings q) (Own e) ≡ false

  refused_kind : (k : EventKind) (q : List Step) (e : Event) → e.kind ≡ k → is_offer k ≡ true → is_unused (placed_slate answers settings e.client q).phase ≡ true → (membership answers settings q).book.closed ≡ false → has_slot (membership answers settings q).book ≡ false → Refused q e
  refused_kind (Offer addr) q e is k u cl full = record { unused = u; open_book = cl; says = rw (is, u, cl, full) refl; enters = rw (is, u, cl, full) refl }
  refused_kind _ q e is k u cl full = cc

  refused : (q : List Step) (e : Event) → finds_no_slot answers settings q e ≡ true → Refused q e
  refused q e h =
      let u = is_unused (placed_slate answers settings e.client q).phase in
      let o = not (membership answers settings q).book.closed in
      let f = not (has_slot (membership answers settings q).book) in
      let h1 = (and_parts (is_offer e.kind) (u && (o && f)) h).1 in
      let h2 = (and_parts u (o && f) h1).1 in
      refused_kind e.kind q e refl (and_parts (is_offer e.kind) (u && (o && f)) h).0 (and_parts u (o && f) h1).0 (not-true (membership answers settings q).book.closed (and_parts o f h2).0) (not-true (has_slot (membership answers settings q).book) (and_parts o f h2).1)

  pub turned : (q r : List Step) (e : Event) → finds_no_slot answers settings q e ≡ true → sent_to e.client (q ++ Own e ∷ r) ≡ TurnedAway e.client (membership answers settings q).book.stream.accept_connections_at_max ∷ []
  turned q r e h =
      let c = e.client in
      let line = TurnedAway c (membership answers settings q).book.stream.accept_connections_at_max ∷ [] in
      let f = refused q e h in
      let k = offer_begins e.kind (and_parts (is_offer e.kind) (is_unused (placed_slate answers settings e.client q).phase && (not (membership answers settings q).book.closed && not (has_slot (membership answers settings q).book))) h).0 in
      let was = (owns answers settings c q).unused f.unused in
      let out : joined answers settings c (q ++ Own e ∷ []) ≡ false = joined_by answers settings false c q (Own e) f.enters ∙ was.1 in
      let gained : step_gained answers settings q (Own e) ≡ line = rw out f.says in
      let first : Away c (q ++ Own e ∷ []) line = record {
        used = opens answers settings q e k f.unused f.open_book;
        absent = out;
        effect =
            ap (filter (is_for c)) (outs_more answers settings q (Own e)) ∙ filter_both answers settings c (outs answers settings q) (step_gained answers settings q (Own e))
            ∙ ap (λ ps. ps ++ filter (is_for c) (step_gained answers settings q (Own e))) was.0 ∙ ap (filter (is_for c)) gained ∙ filter_for c line (refl, tt);
      } in
      ap (sent_to c) (sym (append_assoc q (Own e ∷ []) r)) ∙ (away_on c line r (q ++ Own e ∷ []) first).effect

  -- a client that wasn't turned away is sent what it heard
  not_away : (c : ℕ) (q : List Step) (m : Bool) → joined answers settings c q ≡ m → was_refused answers settings c q ≡ false → sent_to c q ≡ sent answers settings (placed settings c q)
  not_away c q true there h = (owns answers settings c q).member there
  not_away c q false there h =
      let u = didnt_begin (is_unused (placed_slate answers settings c q).phase) (joined answers settings c q) there h in
      ((owns answers settings c q).unused u).0 ∙ sym (nothing_yet answers settings c q u)

  pub alike : (c : ℕ) (p q : List Step) → placed settings c p ≡ placed settings c q → was_refused answers settings c p ≡ false → was_refused answers settings c q ≡ false → sent_to c p ≡ sent_to c q
  alike c p q same h g = not_away c p (joined answers settings c p) refl h ∙ ap (sent answers settings) same ∙ sym (not_away c q (joined answers settings c q) refl g)

  -- what is sent for the first of some steps is the front of what is sent for all
  pub outs_front : (p r : List Step) → IsPrefix (outs answers settings p) (outs answers settings (p ++ r))
  unfolding outs
  outs_front p r = rw (outs_split answers settings [] p r) (take-append_seam (outs_after answers settings [] p) (outs_after answers settings p r))

  pub placed_front : (c : ℕ) (p r : List Step) → IsPrefix (sent answers settings (placed settings c p)) (sent answers settings (placed settings c (p ++ r)))
  unfolding placed
  placed_front c p r = rw (place_append c (knowledge_at_first settings) p r) (sent_front answers settings (place c (knowledge_at_first settings) p) (place c (learned c (knowledge_at_first settings) p) r))

  -- ---- whoever began, and is no member, was turned away

  joined_case : (b : Bool) (c : ℕ) (q : List Step) (s : Step) → enters_at answers settings q (membership answers settings q) s ≡ b → joined answers settings c q ≡ true → joined answers settings c (q ++ s ∷ []) ≡ true
  joined_case true c q s n m = joined_by answers settings true c q s n ∙ put_keeps c (stepping s) (membership answers settings q).members m
  joined_case false c q s n m = joined_by answers settings false c q s n ∙ m

  pub joined_stays : (c : ℕ) (q : List Step) (s : Step) → joined answers settings c q ≡ true → joined answers settings c (q ++ s ∷ []) ≡ true
  joined_stays c q s m = joined_case (enters_at answers settings q (membership answers settings q) s) c q s refl m

  slot_case : (f : Bool) (q : List Step) (e : Event) (addr : SocketAddr) → e.kind ≡ Offer addr → is_unused (placed_slate answers settings e.client q).phase ≡ true → (membership answers settings q).book.closed ≡ false
      → enters_at answers settings q (membership answers settings q) (Own e) ≡ false → has_slot (membership answers settings q).book ≡ f → finds_no_slot answers settings q e ≡ true
  slot_case true q e addr is u cl n f = let z : true ≡ false = rw (is, u, cl, f) at n in cc
  slot_case false q e addr is u cl n f = rw (is, u, cl, f) refl

  finds_kind : (k : EventKind) (q : List Step) (e : Event) → e.kind ≡ k → is_beginning k ≡ true → is_unused (placed_slate answers settings e.client q).phase ≡ true → (membership answers settings q).book.closed ≡ false
      → enters_at answers settings q (membership answers settings q) (Own e) ≡ false → finds_no_slot answers settings q e ≡ true
  finds_kind (Offer addr) q e is k u cl n = slot_case (has_slot (membership answers settings q).book) q e addr is u cl n refl
  finds_kind (Datagram addr o) q e is k u cl n = let z : true ≡ false = rw (is, u, cl) at n in cc
  finds_kind _ q e is k u cl n = cc

  no_entry_case : (b : Bool) (q : List Step) (s : Step) → enters_at answers settings q (membership answers settings q) s ≡ b → joined answers settings (stepping s) (q ++ s ∷ []) ≡ false → b ≡ false
  no_entry_case true q s n m = let j = joined_by answers settings true (stepping s) q s n ∙ put_there (stepping s) (membership answers settings q).members in cc
  no_entry_case false q s n m = refl

  begins_case : (k z : Bool) → (if k then z else true) ≡ false → (k ≡ true) × (z ≡ false)
  begins_case true z h = (refl, h)
  begins_case false z h = cc

  first_refusal : (c : ℕ) (q : List Step) (s : Step) → c ≡ stepping s → is_unused (placed_slate answers settings c q).phase ≡ true → is_unused (placed_slate answers settings c (q ++ s ∷ [])).phase ≡ false → joined answers settings c (q ++ s ∷ []) ≡ false
      → TurnedAwayIn answers settings c (q ++ s ∷ [])
  first_refusal c q (Look at secs d) same u used out =
      let u' : is_unused (placed_slate answers settings d q).phase ≡ true = rw (← same) u in
      let still = ap (λ (x : ℕ). is_unused (placed_slate answers settings x (q ++ Look at secs d ∷ [])).phase) same ∙ unused_look answers settings q at secs d u' in
      let no : true ≡ false = sym still ∙ used in cc
  first_refusal c q (Own e) same u used out =
      let u' : is_unused (placed_slate answers settings e.client q).phase ≡ true = rw (← same) u in
      let used' : is_unused (placed_slate answers settings e.client (q ++ Own e ∷ [])).phase ≡ false = ap (λ (x : ℕ). is_unused (placed_slate answers settings x (q ++ Own e ∷ [])).phase) (sym same) ∙ used in
      let out' : joined answers settings e.client (q ++ Own e ∷ []) ≡ false = ap (λ (x : ℕ). joined answers settings x (q ++ Own e ∷ [])) (sym same) ∙ out in
      let b = begins_case (is_beginning e.kind) (membership answers settings q).book.closed (sym (unused_after answers settings q e u') ∙ used') in
      let n = no_entry_case (enters_at answers settings q (membership answers settings q) (Own e)) q (Own e) refl out' in
      record { before = q; offer = e; behind = []; place = refl; client = sym same; full = finds_kind e.kind q e refl b.0 u' b.1 n }

  both_of : (u m : Bool) → (not u && not m) ≡ true → (u ≡ false) × (m ≡ false)
  both_of true m h = cc
  both_of false true h = cc
  both_of false false h = (refl, refl)

  later : (c : ℕ) (q : List Step) (s : Step) → TurnedAwayIn answers settings c q → TurnedAwayIn answers settings c (q ++ s ∷ [])
  later c q s t = record {
    before = t.before;
    offer = t.offer;
    behind = t.behind ++ s ∷ [];
    place = ap (λ x. x ++ s ∷ []) t.place ∙ append_assoc t.before (Own t.offer ∷ t.behind) (s ∷ []);
    client = t.client;
    full = t.full;
  }

  refused_case : (u m : Bool) (c : ℕ) (q : List Step) (s : Step) → is_unused (placed_slate answers settings c q).phase ≡ u → joined answers settings c q ≡ m
      → (was_refused answers settings c q ≡ true → TurnedAwayIn answers settings c q) → was_refused answers settings c (q ++ s ∷ []) ≡ true → TurnedAwayIn answers settings c (q ++ s ∷ [])
  refused_case false false c q s u m before h = later c q s (before (rw (u, m) refl))
  refused_case u true c q s is m before h =
      let b = both_of (is_unused (placed_slate answers settings c (q ++ s ∷ [])).phase) (joined answers settings c (q ++ s ∷ [])) h in
      let j = joined_stays c q s m in
      let no : true ≡ false = sym j ∙ b.1 in cc
  refused_case true false c q s u m before h =
      let b = both_of (is_unused (placed_slate answers settings c (q ++ s ∷ [])).phase) (joined answers settings c (q ++ s ∷ [])) h in
      ⊎_elim
      (λ (same : c ≡ stepping s). first_refusal c q s same u b.0 b.1)
      (λ (apart : c ≢ stepping s).
      let still = ap (λ (x : Slate). is_unused x.phase) (quiet_slate answers settings c q s (other_step c (knows settings c q) s apart)) ∙ u in
      let no : true ≡ false = sym still ∙ b.0 in cc)
      (cases_eq c (stepping s))

  refused_on : (c : ℕ) (r q : List Step) → (was_refused answers settings c q ≡ true → TurnedAwayIn answers settings c q) → was_refused answers settings c (q ++ r) ≡ true → TurnedAwayIn answers settings c (q ++ r)
  refused_on c [] q h = subst (λ (p : List Step). was_refused answers settings c p ≡ true → TurnedAwayIn answers settings c p) (sym (append-nil q)) h
  refused_on c (s ∷ r) q h =
      subst (λ (p : List Step). was_refused answers settings c p ≡ true → TurnedAwayIn answers settings c p) (append_assoc q (s ∷ []) r)
      (refused_on c r (q ++ s ∷ []) (refused_case (is_unused (placed_slate answers settings c q).phase) (joined answers settings c q) c q s refl refl h))

  none_refused : (c : ℕ) → was_refused answers settings c [] ≡ true → TurnedAwayIn answers settings c []
  unfolding placed_slate placed membership
  none_refused c h = cc

  pub turned_in : (c : ℕ) (steps : List Step) → was_refused answers settings c steps ≡ true → TurnedAwayIn answers settings c steps
  turned_in c steps h = refused_on c steps [] (none_refused c) h

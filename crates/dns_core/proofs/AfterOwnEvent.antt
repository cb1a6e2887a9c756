-- A server after one event more.
use Rattle.dns_session.specs.Serving.{Serving}
use Rattle.std.proofs.Common.{◌≡◌, ◌≢◌, ℕ, ◌-◌, List, [], ◌∷◌, ◌++◌, Option, Bool, true, false, refl, ap, sym, ◌∙◌, ⊎_elim}
use Rattle.std.specs.Prelude.{nat_eq, if◌then◌else◌, not}
use Rattle.std.specs.List.{list_any}
use Rattle.std.specs.Ordering.{nat_cmp}
use Rattle.std.specs.BTreeMap.{BTreeMap, get}
use Rattle.std.specs.BTreeSet.{contains}
use Rattle.std.proofs.lemmas.Bool.{cases_eq}
use Rattle.dns_core.proofs.OutLemmas.{one_longer}
use Rattle.dns_core.proofs.KeptCore.{nothing_either_way, says, leaves}
use Rattle.dns_admission.specs.declared.call.Call.TheVariants.{Release}
use Rattle.dns_events.specs.declared.look.Look.{Look}
use Rattle.dns_admission.specs.Machine.{state_after}
use Rattle.dns_service.specs.Answer.{Answer}
use Rattle.dns_events.specs.declared.event.Event.{Event}
use Rattle.dns_events.specs.declared.event.Output.{Output}
use Rattle.dns_service.specs.declared.polled.PolledRequest.{PolledRequest}
use Rattle.dns_session.specs.Slate.{Slate, Effect, conf_of}
use Rattle.dns_session.specs.Rule.{rule}
use Rattle.dns_session.specs.declared.client.ClientCore.{ClientCore}
use Rattle.dns_core.specs.Own.{is_wide}
use Rattle.dns_core.specs.Sent.{slate}
use Rattle.dns_core.specs.Out.{is_unused, holds_slot, is_new, taken, members, gained}
use Rattle.dns_core.specs.Serves.{IsAt, Holds, StepsKey}
use Rattle.dns_core.specs.Placed.{is_beginning}
use Rattle.dns_core.specs.Server.{Serves}
use Rattle.dns_events.specs.declared.settings.Settings.{Settings}
use Rattle.dns_core.specs.declared.server.Server.{Server}
use Rattle.dns_core.proofs.Gained.{conf_kept, slate_same, slate_other, used_not_new, unused_not_new, idle_not_new, unused_kept, members_kept, taken_still}
use Rattle.dns_core.proofs.Heard.{gained_own}
use Rattle.dns_core.proofs.Rising.{rises}
use Rattle.dns_core.proofs.Slots.{slots_case}
use Rattle.dns_core.proofs.Tied.{unused_kept as unused_stays}

-- a book that a slot was given back to, or wasn't
record GaveBack (old new : Look) (freed : Bool) : Type 0 where
  taken : new.taken ≡ (if freed then old.taken - 1 else old.taken)
  shown : conf_of new ≡ conf_of old
  version : new.version ≡ old.version

gave_back : (old new : Look) (freed : Bool) → new ≡ (if freed then state_after old Release else old) → GaveBack old new freed
gave_back old new true is = record { taken = ap (λ (b : Look). b.taken) is; shown = ap conf_of is; version = ap (λ (b : Look). b.version) is }
gave_back old new false is = record { taken = ap (λ (b : Look). b.taken) is; shown = ap conf_of is; version = ap (λ (b : Look). b.version) is }

module _ (answers : Serving) (settings : Settings) where
  own_new_case : (q : List Event) (e : Event) (b : Bool) → is_beginning e.kind ≡ false → is_unused (slate answers settings e.client q).phase ≡ b → is_new answers settings q e ≡ false
  own_new_case q e true begins u = unused_not_new answers settings q e (ap (λ (s : Slate). is_unused s.phase) (slate_same answers settings q e) ∙ unused_stays answers e (slate answers settings e.client q) begins ∙ u)
  own_new_case q e false begins u = used_not_new answers settings q e u

  pub own_not_new : (q : List Event) (e : Event) → is_beginning e.kind ≡ false → is_new answers settings q e ≡ false
  own_not_new q e begins = own_new_case q e (is_unused (slate answers settings e.client q).phase) begins refl

module _ {W R F : Type 0} (answer : PolledRequest F R → ℕ → Answer) (answers : Serving) where
  module _ (settings : Settings) where
    own_says : (old : Server W R F) (w : Option (ClientCore W R F)) (q : List Event) (e : Event) (outs : List Output) (freed : Bool) → is_wide e.kind ≡ false → is_new answers settings q e ≡ false → StepsKey answer answers (get nat_cmp old.clients e.client) e outs freed w → Serves answer answers settings q old → outs ≡ gained answers settings q e
    own_says old w q e outs freed n nw k h =
        says answer answers (get nat_cmp old.clients e.client) k.stepped (list_any (nat_eq e.client) (members answers settings q)) e outs k.finished freed (slate answers settings e.client q) k.steps (h.clients e.client)
        ∙ sym (gained_own answers settings q e n nw)

    own_holds : (old : Server W R F) (m : BTreeMap ℕ (ClientCore W R F)) (q : List Event) (e : Event) (outs : List Output) (freed : Bool) → is_wide e.kind ≡ false → is_new answers settings q e ≡ false → StepsKey answer answers (get nat_cmp old.clients e.client) e outs freed (get nat_cmp m e.client) → ((c : ℕ) → c ≢ e.client → get nat_cmp m c ≡ get nat_cmp old.clients c) → Serves answer answers settings q old
        → (c : ℕ) → Holds answer answers (get nat_cmp m c) (list_any (nat_eq c) (members answers settings (q ++ e ∷ []))) (slate answers settings c (q ++ e ∷ []))
    own_holds old m q e outs freed n nw k others h c =
        ⊎_elim
        (λ (same : c ≡ e.client).
        let l = leaves answer answers (get nat_cmp old.clients e.client) k.stepped (list_any (nat_eq e.client) (members answers settings q)) e outs k.finished freed (slate answers settings e.client q) k.steps (h.clients e.client) in
        rw (same, members_kept answers settings q e nw, slate_same answers settings q e, k.left) l)
        (λ (apart : c ≢ e.client). rw (members_kept answers settings q e nw, slate_other answers settings c q e n apart, others c apart) (h.clients c))
        (cases_eq c e.client)

    -- with an event of one client by which it doesn't begin, the used numbers stay
    own_used : (old : Server W R F) (q : List Event) (e : Event) → is_wide e.kind ≡ false → is_new answers settings q e ≡ false → Serves answer answers settings q old → (c : ℕ) → contains nat_cmp old.used c ≡ not (is_unused (slate answers settings c (q ++ e ∷ [])).phase)
    own_used old q e n nw h c =
        h.used c ∙ ap not (⊎_elim
        (λ (same : c ≡ e.client). rw same (sym (unused_kept answers settings q e nw)))
        (λ (apart : c ≢ e.client). ap (λ (s : Slate). is_unused s.phase) (sym (slate_other answers settings c q e n apart)))
        (cases_eq c e.client))

    -- an event of one client by which it doesn't begin
    pub own_goes : (old : Server W R F) (m : BTreeMap ℕ (ClientCore W R F)) (b : Look) (q : List Event) (e : Event) (outs : List Output) (freed : Bool)
        → is_wide e.kind ≡ false → is_beginning e.kind ≡ false
        → StepsKey answer answers (get nat_cmp old.clients e.client) e outs freed (get nat_cmp m e.client)
        → ((c : ℕ) → c ≢ e.client → get nat_cmp m c ≡ get nat_cmp old.clients c)
        → ((v : ℕ) → IsAt (get nat_cmp old.clients e.client) v → IsAt (get nat_cmp m e.client) v)
        → b ≡ (if freed then state_after old.book Release else old.book)
        → Serves answer answers settings q old
        → (outs ≡ gained answers settings q e) × Serves answer answers settings (q ++ e ∷ []) (record old { clients = m; book = b })
    own_goes old m b q e outs freed n begins k others versions is h =
        let nw = own_not_new answers settings q e begins in
        let ms = members_kept answers settings q e nw in
        let g = gave_back old.book b freed is in
        let sl = slots_case answer answers settings (list_any (nat_eq e.client) (members answers settings q)) (get nat_cmp old.clients e.client) k.stepped q e outs k.finished freed (members answers settings q) refl n k.steps (h.clients e.client) (rises answers settings q) in (
          own_says old (get nat_cmp m e.client) q e outs freed n nw k h,
          record {
            clients = own_holds old m q e outs freed n nw k others h;
            versions = λ c. ⊎_elim
                (λ (same : c ≡ e.client). rw (same, g.version) (versions old.book.version (h.versions e.client)))
                (λ (apart : c ≢ e.client). rw (others c apart, g.version) (h.versions c))
                (cases_eq c e.client);
            used = own_used old q e n nw h;
            slots = g.taken ∙ (ap (λ (x : ℕ). if freed then x - 1 else x) h.slots ∙ (sym sl ∙ ap (taken answers settings (q ++ e ∷ [])) (sym ms)));
            shown = g.shown ∙ (h.shown ∙ sym (conf_kept settings q e n));
            few = one_longer q e b.version (rw g.version h.few);
          },
        )

    -- an event of one client that changes nothing of it
    pub idle_goes : (old : Server W R F) (b : Look) (q : List Event) (e : Event) (outs : List Output) → is_wide e.kind ≡ false → rule answers e (slate answers settings e.client q) ≡ (slate answers settings e.client q, []) → outs ≡ [] → b ≡ old.book → Serves answer answers settings q old
        → (outs ≡ gained answers settings q e) × Serves answer answers settings (q ++ e ∷ []) (record old { book = b })
    idle_goes old b q e outs n idle none same h =
        let s = slate answers settings e.client q in
        let nw = idle_not_new answers settings q e idle in
        let still : (c : ℕ) → slate answers settings c (q ++ e ∷ []) ≡ slate answers settings c q = λ c.
        ⊎_elim
        (λ (same : c ≡ e.client). rw same (slate_same answers settings q e ∙ ap (λ (t : Effect). t.0) idle))
        (λ (apart : c ≢ e.client). slate_other answers settings c q e n apart)
        (cases_eq c e.client) in
        let ms = members_kept answers settings q e nw in (
          none ∙ (nothing_either_way (list_any (nat_eq e.client) (members answers settings q)) (rule answers e s).1 (ap (λ (t : Effect). t.1) idle) ∙ sym (gained_own answers settings q e n nw)),
          record {
            clients = λ c. rw (ms, still c) (h.clients c);
            versions = λ c. rw same (h.versions c);
            used = λ c. h.used c ∙ ap (λ (s : Slate). not (is_unused s.phase)) (sym (still c));
            slots = ap (λ (x : Look). x.taken) same ∙ (h.slots ∙ sym (ap (taken answers settings (q ++ e ∷ [])) ms ∙ taken_still answers settings q e (members answers settings q) (λ c there. ap (λ (s : Slate). holds_slot s) (still c))));
            shown = ap conf_of same ∙ (h.shown ∙ sym (conf_kept settings q e n));
            few = one_longer q e b.version (rw same h.few);
          },
        )

-- A server after an event that all clients hear.
use Rattle.dns_session.specs.Serving.{Serving}
use Rattle.std.proofs.Common.{◌≡◌, ℕ, ◌<◌, ◌≤◌, ◌+◌, List, [], ◌∷◌, ◌++◌, length, length-append, Option, Some, None, Bool, true, false, refl, ap, sym, ◌∙◌, subst, arith, lt-ltb}
use Rattle.std.proofs.lemmas.List.{append-nil}
use Rattle.std.specs.Prelude.{filter, is_some, nat_eq, not}
use Rattle.std.specs.List.{flat_map, list_any}
use Rattle.std.specs.Ordering.{nat_cmp}
use Rattle.std.specs.BTreeMap.{BTreeMap, get, keys, IsOrdered}
use Rattle.dns_events.specs.declared.look.Look.{Look}
use Rattle.dns_admission.specs.Machine.{has_version, last_version}
use Rattle.dns_service.specs.Answer.{Answer}
use Rattle.dns_events.specs.declared.event.Event.{Event}
use Rattle.dns_events.specs.declared.event.EventKind.{EventKind}
use Rattle.dns_events.specs.declared.event.EventKind.TheVariants.{Reconfigure, Shutdown}
use Rattle.dns_events.specs.declared.event.Output.{Output}
use Rattle.dns_service.specs.declared.polled.PolledRequest.{PolledRequest}
use Rattle.dns_session.specs.Slate.{Slate, Effect, conf_of, conf_rule}
use Rattle.dns_session.specs.News.{look_effect as heard_news}
use Rattle.dns_session.specs.Rule.{rule}
use Rattle.dns_session.specs.Stands.{Stands}
use Rattle.dns_session.specs.declared.client.ClientCore.{ClientCore}
use Rattle.dns_core.specs.Books.{book_rule}
use Rattle.dns_core.specs.Own.{is_wide, concerns}
use Rattle.dns_core.specs.Sent.{slate}
use Rattle.dns_core.specs.Out.{is_unused, holds_slot, taken, members, gain, heard, gained}
use Rattle.dns_core.specs.Serves.{Holds, IsAt, LooksAll}
use Rattle.dns_core.specs.Server.{Serves}
use Rattle.dns_events.specs.declared.settings.Settings.{Settings}
use Rattle.dns_core.specs.declared.server.Server.{Server}
use Rattle.dns_core.proofs.Gained.{concerns_all, conf_more, members_kept, none_away, taken_still}
use Rattle.dns_core.proofs.OutLemmas.{slate_some}
use Rattle.dns_session_map.proofs.Keys.{flat_among, has_key}
use Rattle.dns_core.proofs.Late.{not_over}
use Rattle.dns_core.proofs.Looked.{heard_one}
use Rattle.dns_core.proofs.Plain.{plain}
use Rattle.dns_core.proofs.Rising.{rises}
use Rattle.dns_core.proofs.Spent.{spent_idle, spent_kept, wide_unspent}
use Rattle.dns_core.proofs.Wide.{wide_use, wide_slot, wide_not_new}

all_pass : (p : ℕ → Bool) (ms : List ℕ) → ((c : ℕ) → p c ≡ true) → filter p ms ≡ ms
all_pass p [] h = refl
all_pass p (m ∷ ms) h = rw (h m, all_pass p ms h) refl

flat_same : (f g : ℕ → List Output) (ks : List ℕ) → ((c : ℕ) → f c ≡ g c) → flat_map f ks ≡ flat_map g ks
flat_same f g [] h = refl
flat_same f g (k ∷ ks) h = rw (h k, flat_same f g ks h) refl

-- what such an event does to a book that has versions left
record Noted (old new : Look) (k : EventKind) : Type 0 where
  taken : new.taken ≡ old.taken
  shown : conf_of new ≡ conf_rule k (conf_of old)
  version : new.version ≤ old.version + 1

noted_same : (old new : Look) (k : EventKind) → new ≡ old → conf_of old ≡ conf_rule k (conf_of old) → Noted old new k
noted_same old new k is h = record { taken = ap (λ (b : Look). b.taken) is; shown = ap conf_of is ∙ h; version = let v = ap (λ (b : Look). b.version) is in omega arith }

noted : (old : Look) (k : EventKind) → old.version < last_version → Noted old (book_rule old k) k
noted old (Reconfigure dgram stream) lt = by_case old.closed refl where
  by_case : (b : Bool) → old.closed ≡ b → Noted old (book_rule old (Reconfigure dgram stream)) (Reconfigure dgram stream)
  by_case true closed = noted_same old (book_rule old (Reconfigure dgram stream)) (Reconfigure dgram stream) (rw closed refl) (rw closed refl)
  by_case false closed = let has = lt-ltb old.version last_version lt in record { taken = rw (closed, has) refl; shown = rw (closed, has) refl; version = rw (closed, has) (omega arith) }
noted old Shutdown lt = record { taken = refl; shown = refl; version = omega arith }
noted old _ lt = noted_same old old _ refl refl

module _ {W R F : Type 0} (answer : PolledRequest F R → ℕ → Answer) (answers : Serving) where
  held_stands : (o : Option (ClientCore W R F)) (b : Bool) (s : Slate) (core : ClientCore W R F) → Holds answer answers o b s → o ≡ Some core → Stands answer answers core s
  held_stands None b s core h is = cc
  held_stands (Some x) true s core h is = let i : x ≡ core = cc in subst (λ (y : ClientCore W R F). Stands answer answers y s) i h.0
  held_stands (Some x) false s core h is = absurd h

  kept_at : (o : Option (ClientCore W R F)) (v : ℕ) (core : ClientCore W R F) → IsAt o v → o ≡ Some core → core.version ≡ v
  kept_at None v core h is = cc
  kept_at (Some x) v core h is = let i : x ≡ core = cc in subst (λ (y : ClientCore W R F). y.version ≡ v) i h

  all_at : (o : Option (ClientCore W R F)) (v : ℕ) → ((core : ClientCore W R F) → o ≡ Some core → core.version ≡ v) → IsAt o v
  all_at None v h = tt
  all_at (Some x) v h = h x refl

  -- a client of which something is kept is a member, and one of which nothing is kept is told nothing
  kept_there : (o : Option (ClientCore W R F)) (b : Bool) (s : Slate) → Holds answer answers o b s → is_some o ≡ true → b ≡ true
  kept_there None b s h is = cc
  kept_there (Some x) true s h is = refl
  kept_there (Some x) false s h is = absurd h

  silent : (o : Option (ClientCore W R F)) (b : Bool) (e : Event) (s : Slate) → Holds answer answers o b s → b ≡ true → is_some o ≡ false → (rule answers e s).1 ≡ []
  silent None true e s h there gone = ap (λ (t : Effect). t.1) (spent_idle answers e s h)
  silent None false e s h there gone = cc
  silent (Some x) b e s h there gone = cc

  -- what it leaves of one client
  wide_leaves : (o w : Option (ClientCore W R F)) (b : Bool) (e : Event) (s : Slate) → is_wide e.kind ≡ true → is_some w ≡ is_some o → Holds answer answers o b s → ((core : ClientCore W R F) → w ≡ Some core → Stands answer answers core (rule answers e s).0) → Holds answer answers w b (rule answers e s).0
  wide_leaves None None true e s wide same h st = spent_kept answers e s h
  wide_leaves None None false e s wide same h st = tt
  wide_leaves None (Some y) b e s wide same h st = cc
  wide_leaves (Some x) None b e s wide same h st = cc
  wide_leaves (Some x) (Some y) true e s wide same h st = (st y refl, wide_unspent answer answers x.client x.state e s h.0 wide h.1)
  wide_leaves (Some x) (Some y) false e s wide same h st = absurd h

  module _ (settings : Settings) where
    wide_says : (old : Server W R F) (q : List Event) (e : Event) (outs : List Output) → is_wide e.kind ≡ true → IsOrdered nat_cmp old.clients → Serves answer answers settings q old
        → outs ≡ flat_map (λ c. (rule answers e (slate answers settings c q)).1) (keys old.clients) → outs ≡ gained answers settings q e
    wide_says old q e outs wide rising h said =
        let g : ℕ → List Output = λ c. gain answers settings c q e in
        let nw = wide_not_new answers settings q e wide in
        let all : heard answers settings q e ≡ members answers settings q = all_pass (λ c. concerns c e) (members answers settings (q ++ e ∷ [])) (λ c. concerns_all c e wide) ∙ members_kept answers settings q e nw in
        let effect : flat_map g (keys old.clients) ≡ flat_map g (members answers settings q) = flat_among g (members answers settings q) (keys old.clients) rising (rises answers settings q)
        (λ c there. kept_there (get nat_cmp old.clients c) (list_any (nat_eq c) (members answers settings q)) (slate answers settings c q) (h.clients c) (has_key old.clients c ∙ there))
        (λ c there gone. silent (get nat_cmp old.clients c) (list_any (nat_eq c) (members answers settings q)) e (slate answers settings c q) (h.clients c) there (has_key old.clients c ∙ gone)) in
        said ∙ (effect ∙ (ap (flat_map g) (sym all) ∙ (sym (append-nil (flat_map g (heard answers settings q e))) ∙ ap (λ (os : List Output). flat_map g (heard answers settings q e) ++ os) (sym (none_away answers settings q e nw)))))

    pub wide_goes : (old : Server W R F) (m : BTreeMap ℕ (ClientCore W R F)) (b : Look) (q : List Event) (e : Event) (outs : List Output)
        → is_wide e.kind ≡ true
        → length q < last_version
        → LooksAll answer answers old.clients m b outs
        → keys m ≡ keys old.clients
        → IsOrdered nat_cmp old.clients
        → b ≡ book_rule old.book e.kind
        → Serves answer answers settings q old
        → (outs ≡ gained answers settings q e) × Serves answer answers settings (q ++ e ∷ []) (record old { clients = m; book = b })
    wide_goes old m b q e outs wide lt all ks rising is h =
        let nw = wide_not_new answers settings q e wide in
        let ms = members_kept answers settings q e nw in
        let after : (c : ℕ) → slate answers settings c (q ++ e ∷ []) ≡ (rule answers e (slate answers settings c q)).0 = λ c. slate_some answers settings c q e (concerns_all c e wide) in
        let few = h.few in
        let n : Noted old.book b e.kind = rw is (noted old.book e.kind (omega arith)) in
        let version = n.version in
        let has : has_version old.book ≡ true = lt-ltb old.book.version last_version (omega (arith, few, lt)) in
        let tells : (c : ℕ) → heard_news answers old.book.version b (slate answers settings c q) ≡ rule answers e (slate answers settings c q) = λ c.
        ap (λ (x : Look). heard_news answers old.book.version x (slate answers settings c q)) is ∙ heard_one answers e old.book (slate answers settings c q) wide has ((plain answers settings c q).conf ∙ sym h.shown) (not_over answers settings c q) in
        let a = all (λ c. slate answers settings c q) (λ c. old.book.version) (λ c core kept. (held_stands (get nat_cmp old.clients c) (list_any (nat_eq c) (members answers settings q)) (slate answers settings c q) core (h.clients c) kept, kept_at (get nat_cmp old.clients c) old.book.version core (h.versions c) kept)) in
        let said : outs ≡ flat_map (λ c. (rule answers e (slate answers settings c q)).1) (keys old.clients) = a.0 ∙ flat_same (λ c. (heard_news answers old.book.version b (slate answers settings c q)).1) (λ c. (rule answers e (slate answers settings c q)).1) (keys old.clients) (λ c. ap (λ (t : Effect). t.1) (tells c)) in
        let same : (c : ℕ) → is_some (get nat_cmp m c) ≡ is_some (get nat_cmp old.clients c) = λ c. has_key m c ∙ (ap (list_any (nat_eq c)) ks ∙ sym (has_key old.clients c)) in (
          wide_says old q e outs wide rising h said,
          record {
            clients = λ c. rw (ms, after c) (wide_leaves (get nat_cmp old.clients c) (get nat_cmp m c) (list_any (nat_eq c) (members answers settings q)) e (slate answers settings c q) wide (same c) (h.clients c) (λ core kept. subst (λ (t : Effect). Stands answer answers core t.0) (tells c) (a.1 c core kept).0));
            versions = λ c. all_at (get nat_cmp m c) b.version (λ core kept. (a.1 c core kept).1);
            used = λ c. h.used c ∙ ap not (sym (ap (λ (s : Slate). is_unused s.phase) (after c) ∙ wide_use answers e (slate answers settings c q) wide));
            slots = n.taken ∙ (h.slots ∙ sym (ap (taken answers settings (q ++ e ∷ [])) ms ∙ taken_still answers settings q e (members answers settings q) (λ c there. ap holds_slot (after c) ∙ wide_slot answers e (slate answers settings c q) wide)));
            shown = n.shown ∙ (ap (conf_rule e.kind) h.shown ∙ sym (conf_more settings q e));
            few = simp length-append (omega arith);
          },
        )

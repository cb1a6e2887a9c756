-- What is sent, with one event more of a driver of datagrams.
use Rattle.std.proofs.Common.{◌≡◌, ℕ, ◌+◌, List, [], ◌∷◌, ◌++◌, Bool, true, false, refl, ap, sym, ◌∙◌, subst, append_assoc, append-nil, arith, inl, inr}
use Rattle.std.proofs.lemmas.Bool.{eq-eqb}
use Rattle.std.proofs.lemmas.Grind.{flat_map-append}
use Rattle.dns_io.specs.declared.sock.Packet.{Packet}
use Rattle.dns_events.specs.declared.event.Event.{Event}
use Rattle.dns_events.specs.declared.event.EventKind.{EventKind}
use Rattle.dns_events.specs.declared.event.EventKind.TheVariants.{Datagram, Fault}
use Rattle.dns_events.specs.declared.event.Output.{Output}
use Rattle.dns_events.specs.declared.event.Output.TheVariants as output
use Rattle.dns_session.specs.Serving.{Serving}
use Rattle.dns_session.specs.Slate.{Slate, Effect, Exchange}
use Rattle.dns_session.specs.Rule.{rule}
use Rattle.dns_events.specs.declared.settings.Settings.{Settings}
use Rattle.dns_recorder.specs.Sent.{conf, slate}
use Rattle.dns_recorder.specs.Out.{is_unused, gained, out, out_after}
use Rattle.dns_recorder.specs.Clocks.{fault_count, faults_in}
use Rattle.dns_dgram_driver.specs.Events.{IsDatagramKind, AllDatagramKinds}
use Rattle.dns_dgram_driver.specs.Sent.{is_fault, fails_next, fails_before, nothing_if, count_if, IsPart, addressed, all_addressed, posted, delivered, delivered_after, packets_delivered, early_faults, early_faults_after}
use Rattle.dns_dgram_driver.proofs.Slates.{IsPost}
use Rattle.dns_dgram_driver.proofs.Members.{kinds_more, took, unused, used_exchange, stays, slate_own, gained_is, gained_posts}

-- ---- parts of lists

pub part_none : {X : Type 0} (ys : List X) → IsPart [] ys
part_none [] = refl
part_none (y ∷ ys) = inl (part_none ys)

pub part_same : {X : Type 0} (ys : List X) → IsPart ys ys
part_same [] = refl
part_same (y ∷ ys) = inr (ys, refl, part_same ys)

part_unless : {X : Type 0} (b : Bool) (ys : List X) → IsPart (nothing_if b ys) ys
part_unless true ys = part_none ys
part_unless false ys = part_same ys

pub part_append : {X : Type 0} (a b c d : List X) → IsPart a b → IsPart c d → IsPart (a ++ c) (b ++ d)
part_append a [] c d p q = rw p q
part_append a (y ∷ b) c d (inl p) q = inl (part_append a b c d p q)
part_append {X} a (y ∷ b) c d (inr p) q = inr (p.0 ++ c, ap (λ (t : List X). t ++ c) p.1, part_append p.0 b c d p.2 q)

-- ---- an event that is no Fault makes none before it fail

fails_first : (c : ℕ) (q : List Event) (e : Event) (r : List Event) → is_fault e.kind ≡ false → fails_next c (q ++ e ∷ r) ≡ fails_next c q
fails_first c [] e r h = rw h refl
fails_first c (x ∷ q) e r h = refl

before_first : (t : ℕ) (q : List Event) (e : Event) (r : List Event) → is_fault e.kind ≡ false → fails_before t (q ++ e ∷ r) ≡ fails_before t q
before_first t [] e r h = rw h refl
before_first t (x ∷ q) e r h = refl

pub fault_counts : (kind : EventKind) → fault_count kind ≡ count_if (is_fault kind)
fault_counts (Datagram addr o) = refl
fault_counts _ = refl

faults_snoc : (q : List Event) (e : Event) → faults_in (q ++ e ∷ []) ≡ faults_in q + fault_count e.kind
faults_snoc [] e = omega arith
faults_snoc (x ∷ q) e = let h = faults_snoc q e in omega arith

-- how many Faults there are
pub faults_more : (q : List Event) (e : Event) → faults_in (q ++ e ∷ []) ≡ faults_in q + count_if (is_fault e.kind)
faults_more q e = rw (← fault_counts e.kind) (faults_snoc q e)

module _ (answers : Serving) (settings : Settings) where
  -- ---- which outputs are delivered

  delivered_after_more : (p q : List Event) (e : Event) → is_fault e.kind ≡ false → delivered_after answers settings p (q ++ e ∷ []) ≡ delivered_after answers settings p q ++ gained answers settings (p ++ q) e
  delivered_after_more p [] e h = rw (append-nil p, append-nil (gained answers settings p e)) refl
  delivered_after_more p (x ∷ q) e h = rw (delivered_after_more (p ++ x ∷ []) q e h, append_assoc p (x ∷ []) q, fails_first x.client q e [] h) (simp append_assoc)

  pub delivered_more : (q : List Event) (e : Event) → is_fault e.kind ≡ false → delivered answers settings (q ++ e ∷ []) ≡ delivered answers settings q ++ gained answers settings q e
  unfolding delivered
  delivered_more q e h = delivered_after_more [] q e h

  delivered_after_lost : (p q : List Event) (e f : Event) → is_fault e.kind ≡ false → fails_next e.client (f ∷ []) ≡ true → gained answers settings ((p ++ q) ++ e ∷ []) f ≡ []
      → delivered_after answers settings p (q ++ e ∷ f ∷ []) ≡ delivered_after answers settings p q
  delivered_after_lost p [] e f h g n = let n1 : gained answers settings (p ++ e ∷ []) f ≡ [] = rw append-nil at n in rw (g, n1) refl
  delivered_after_lost p (x ∷ q) e f h g n =
      let n1 : gained answers settings (((p ++ x ∷ []) ++ q) ++ e ∷ []) f ≡ [] = rw (append_assoc p (x ∷ []) q) n in
      rw (delivered_after_lost (p ++ x ∷ []) q e f h g n1, fails_first x.client q e (f ∷ []) h) refl

  delivered_lost : (q : List Event) (e f : Event) → is_fault e.kind ≡ false → fails_next e.client (f ∷ []) ≡ true → gained answers settings (q ++ e ∷ []) f ≡ []
      → delivered answers settings ((q ++ e ∷ []) ++ f ∷ []) ≡ delivered answers settings q
  unfolding delivered
  delivered_lost q e f h g n = rw (append_assoc q (e ∷ []) (f ∷ [])) (delivered_after_lost [] q e f h g n)

  part_after : (p q : List Event) → IsPart (delivered_after answers settings p q) (out_after answers settings p q)
  part_after p [] = refl
  part_after p (x ∷ q) =
      part_append (nothing_if (fails_next x.client q) (gained answers settings p x)) (gained answers settings p x) (delivered_after answers settings (p ++ x ∷ []) q) (out_after answers settings (p ++ x ∷ []) q)
      (part_unless (fails_next x.client q) (gained answers settings p x)) (part_after (p ++ x ∷ []) q)

  -- they are a part of all
  pub part_delivered : (q : List Event) → IsPart (delivered answers settings q) (out answers settings q)
  unfolding delivered out
  part_delivered q = part_after [] q

  out_after_more : (p q : List Event) (e : Event) → out_after answers settings p (q ++ e ∷ []) ≡ out_after answers settings p q ++ gained answers settings (p ++ q) e
  out_after_more p [] e = rw (append-nil p, append-nil (gained answers settings p e)) refl
  out_after_more p (x ∷ q) e = rw (out_after_more (p ++ x ∷ []) q e, append_assoc p (x ∷ []) q) (simp append_assoc)

  pub out_more : (q : List Event) (e : Event) → out answers settings (q ++ e ∷ []) ≡ out answers settings q ++ gained answers settings q e
  unfolding out
  out_more q e = out_after_more [] q e

  pub part_more : (outs : List Output) (q : List Event) (e : Event) → IsPart outs (out answers settings q) → IsPart outs (out answers settings (q ++ e ∷ []))
  part_more outs q e p = rw (out_more q e) (rw (append-nil outs) at (part_append outs (out answers settings q) [] (gained answers settings q e) p (part_none (gained answers settings q e))))

  -- ---- early Faults

  early_after_more : (p q : List Event) (e : Event) → is_fault e.kind ≡ false → early_faults_after answers settings p (q ++ e ∷ []) ≡ early_faults_after answers settings p q
  early_after_more p [] e h = refl
  early_after_more p (x ∷ q) e h = rw (early_after_more (p ++ x ∷ []) q e h, before_first (x.at + (conf settings p).dgram.write_timeout) q e [] h) refl

  pub early_more : (q : List Event) (e : Event) → is_fault e.kind ≡ false → early_faults answers settings (q ++ e ∷ []) ≡ early_faults answers settings q
  unfolding early_faults
  early_more q e h = early_after_more [] q e h

  early_after_lost : (p q : List Event) (e f : Event) → is_fault e.kind ≡ false
      → early_faults_after answers settings p (q ++ e ∷ f ∷ []) ≡ early_faults_after answers settings p q + count_if (fails_before (e.at + (conf settings (p ++ q)).dgram.write_timeout) (f ∷ []))
  early_after_lost p [] e f h = rw (append-nil p) (omega arith)
  early_after_lost p (x ∷ q) e f h =
      let i = early_after_lost (p ++ x ∷ []) q e f h in
      let j : (p ++ x ∷ []) ++ q ≡ p ++ x ∷ q = append_assoc p (x ∷ []) q in
      let k = rw j at i in
      rw (before_first (x.at + (conf settings p).dgram.write_timeout) q e (f ∷ []) h) (omega (arith, k))

  pub early_lost : (q : List Event) (e f : Event) → is_fault e.kind ≡ false
      → early_faults answers settings ((q ++ e ∷ []) ++ f ∷ []) ≡ early_faults answers settings q + count_if (fails_before (e.at + (conf settings q).dgram.write_timeout) (f ∷ []))
  unfolding early_faults
  early_lost q e f h = rw (append_assoc q (e ∷ []) (f ∷ [])) (early_after_lost [] q e f h)

  -- ---- addresses

  -- each datagram is an exchange's
  abbrev IsSettled : List Event → Output → Type 0
  IsSettled q (output.Datagram c octets) = (slate answers settings c q).phase ≡ Exchange
  IsSettled q _ = Unit {0}

  abbrev AllSettled : List Event → List Output → Type 0
  AllSettled q [] = Unit {0}
  AllSettled q (o ∷ os) = IsSettled q o × AllSettled q os

  settled_append : (q : List Event) (xs ys : List Output) → AllSettled q xs → AllSettled q ys → AllSettled q (xs ++ ys)
  settled_append q [] ys a b = b
  settled_append q (x ∷ xs) ys a b = (a.0, settled_append q xs ys a.1 b)

  settled_part : (q : List Event) (xs ys : List Output) → IsPart xs ys → AllSettled q ys → AllSettled q xs
  settled_part q xs [] p a = rw p tt
  settled_part q xs (y ∷ ys) (inl p) a = settled_part q xs ys p a.1
  settled_part q xs (y ∷ ys) (inr p) a = rw p.1 (a.0, settled_part q p.0 ys p.2 a.1)

  settled_one : (q : List Event) (e : Event) (o : Output) → AllDatagramKinds q → IsDatagramKind e.kind → IsSettled q o → IsSettled (q ++ e ∷ []) o
  settled_one q e (output.Datagram c octets) d k h = (stays answers settings c q e d k h).0
  settled_one q e (output.Frame c octets) d k h = tt
  settled_one q e (output.Closed c why) d k h = tt
  settled_one q e (output.TurnedAway c accepted) d k h = tt

  settled_more : (q : List Event) (e : Event) (os : List Output) → AllDatagramKinds q → IsDatagramKind e.kind → AllSettled q os → AllSettled (q ++ e ∷ []) os
  settled_more q e [] d k h = tt
  settled_more q e (o ∷ os) d k h = (settled_one q e o d k h.0, settled_more q e os d k h.1)

  post_settled : (q : List Event) (e : Event) (os : List Output) → AllDatagramKinds (q ++ e ∷ []) → unused answers settings e.client (q ++ e ∷ []) ≡ false → IsPost e.client os → AllSettled (q ++ e ∷ []) os
  post_settled q e [] d u h = tt
  post_settled q e (output.Datagram c octets ∷ []) d u h = (rw h (used_exchange answers settings e.client (q ++ e ∷ []) d u), tt)
  post_settled q e (output.Datagram c octets ∷ x ∷ os) d u h = absurd h
  post_settled q e (output.Frame c octets ∷ os) d u h = absurd h
  post_settled q e (output.Closed c why ∷ os) d u h = absurd h
  post_settled q e (output.TurnedAway c accepted ∷ os) d u h = absurd h

  gained_settled : (q : List Event) (e : Event) (b : Bool) → AllDatagramKinds q → IsDatagramKind e.kind → unused answers settings e.client (q ++ e ∷ []) ≡ b → AllSettled (q ++ e ∷ []) (gained answers settings q e)
  gained_settled q e true d k u =
      let same : is_unused (rule answers e (slate answers settings e.client q)).0.phase ≡ true = sym (ap (λ (s : Slate). is_unused s.phase) (slate_own answers settings e.client q e refl)) ∙ u in
      let none : gained answers settings q e ≡ [] = gained_is answers settings q e d k ∙ (took answers settings e.client q e d k (λ _. refl)).quiet same in
      rw none tt
  gained_settled q e false d k u = post_settled q e (gained answers settings q e) (kinds_more q e d k) u (gained_posts answers settings q e d k)

  settled_list : (p q : List Event) (os : List Output) → AllDatagramKinds p → AllDatagramKinds q → AllSettled p os → AllSettled (p ++ q) os
  settled_list p [] os d k h = rw (append-nil p) h
  settled_list p (e ∷ q) os d k h = subst (λ (es : List Event). AllSettled es os) (append_assoc p (e ∷ []) q) (settled_list (p ++ e ∷ []) q os (kinds_more p e d k.0) k.1 (settled_more p e os d k.0 h))

  settled_after : (p q : List Event) → AllDatagramKinds p → AllDatagramKinds q → AllSettled (p ++ q) (out_after answers settings p q)
  settled_after p [] d k = tt
  settled_after p (e ∷ q) d k =
      let all : AllSettled ((p ++ e ∷ []) ++ q) (gained answers settings p e ++ out_after answers settings (p ++ e ∷ []) q) =
      settled_append ((p ++ e ∷ []) ++ q) (gained answers settings p e) (out_after answers settings (p ++ e ∷ []) q)
      (settled_list (p ++ e ∷ []) q (gained answers settings p e) (kinds_more p e d k.0) k.1 (gained_settled p e (unused answers settings e.client (p ++ e ∷ [])) d k.0 refl))
      (settled_after (p ++ e ∷ []) q (kinds_more p e d k.0) k.1) in
      subst (λ (es : List Event). AllSettled es (gained answers settings p e ++ out_after answers settings (p ++ e ∷ []) q)) (append_assoc p (e ∷ []) q) all

  out_settled : (q : List Event) → AllDatagramKinds q → AllSettled q (out answers settings q)
  unfolding out
  out_settled q d = settled_after [] q tt d

  addressed_one : (q : List Event) (e : Event) (o : Output) → AllDatagramKinds q → IsDatagramKind e.kind → IsSettled q o → addressed answers settings (q ++ e ∷ []) o ≡ addressed answers settings q o
  addressed_one q e (output.Datagram c octets) d k h = rw (stays answers settings c q e d k h).1 refl
  addressed_one q e (output.Frame c octets) d k h = refl
  addressed_one q e (output.Closed c why) d k h = refl
  addressed_one q e (output.TurnedAway c accepted) d k h = refl

  addressed_still : (q : List Event) (e : Event) (os : List Output) → AllDatagramKinds q → IsDatagramKind e.kind → AllSettled q os → all_addressed answers settings (q ++ e ∷ []) os ≡ all_addressed answers settings q os
  addressed_still q e [] d k h = refl
  addressed_still q e (o ∷ os) d k h = rw (addressed_one q e o d k h.0, addressed_still q e os d k h.1) refl

  -- addresses stay
  pub addressed_more : (q : List Event) (e : Event) (outs : List Output) → AllDatagramKinds q → IsDatagramKind e.kind → IsPart outs (out answers settings q) → all_addressed answers settings (q ++ e ∷ []) outs ≡ all_addressed answers settings q outs
  addressed_more q e outs d k p = addressed_still q e outs d k (settled_part q outs (out answers settings q) p (out_settled q d))

  addressed_append : (q : List Event) (xs ys : List Output) → all_addressed answers settings q (xs ++ ys) ≡ all_addressed answers settings q xs ++ all_addressed answers settings q ys
  addressed_append q xs ys = flat_map-append (addressed answers settings q) xs ys

  -- what one event more, which is no Fault, adds to the datagrams that are delivered
  pub packets_more : (q : List Event) (e : Event) → AllDatagramKinds q → IsDatagramKind e.kind → is_fault e.kind ≡ false → packets_delivered answers settings (q ++ e ∷ []) ≡ packets_delivered answers settings q ++ posted answers settings q e
  packets_more q e d k h =
      ap (all_addressed answers settings (q ++ e ∷ [])) (delivered_more q e h)
      ∙ addressed_append (q ++ e ∷ []) (delivered answers settings q) (gained answers settings q e)
      ∙ ap (λ (ls : List Packet). ls ++ posted answers settings q e) (addressed_more q e (delivered answers settings q) d k (part_delivered q))

  -- a Fault sends nothing
  pub fault_idle : (c : ℕ) (q : List Event) (f : Event) → AllDatagramKinds q → f.kind ≡ Fault → f.client ≡ c → rule answers f (slate answers settings c q) ≡ (slate answers settings c q, [])
  fault_idle c q f d h n = (took answers settings c q f d (rw h tt) (λ _. n)).idle (rw h refl)

  pub gained_fault : (q : List Event) (f : Event) → AllDatagramKinds q → f.kind ≡ Fault → gained answers settings q f ≡ []
  gained_fault q f d h = gained_is answers settings q f d (rw h tt) ∙ ap (λ (t : Effect). t.1) (fault_idle f.client q f d h refl)

  -- and with it what was to be sent for the event before it isn't delivered
  pub packets_lost : (q : List Event) (e f : Event) → AllDatagramKinds q → IsDatagramKind e.kind → is_fault e.kind ≡ false → f.kind ≡ Fault → f.client ≡ e.client
      → packets_delivered answers settings ((q ++ e ∷ []) ++ f ∷ []) ≡ packets_delivered answers settings q
  packets_lost q e f d k h g n =
      let fails : fails_next e.client (f ∷ []) ≡ true = rw g (eq-eqb f.client e.client n) in
      let all = kinds_more q e d k in
      let same = delivered_lost q e f h fails (gained_fault (q ++ e ∷ []) f all g) in
      let part = part_delivered q in
      ap (all_addressed answers settings ((q ++ e ∷ []) ++ f ∷ [])) same
      ∙ addressed_more (q ++ e ∷ []) f (delivered answers settings q) all (rw g tt) (part_more (delivered answers settings q) q e part)
      ∙ addressed_more q e (delivered answers settings q) d k part

  -- ---- all datagrams

  pub part_addressed : (q : List Event) (xs ys : List Output) → IsPart xs ys → IsPart (all_addressed answers settings q xs) (all_addressed answers settings q ys)
  part_addressed q xs [] p = rw p refl
  part_addressed q xs (y ∷ ys) (inl p) =
      part_append [] (addressed answers settings q y) (all_addressed answers settings q xs) (all_addressed answers settings q ys) (part_none (addressed answers settings q y)) (part_addressed q xs ys p)
  part_addressed q xs (y ∷ ys) (inr p) =
      rw p.1 (part_append (addressed answers settings q y) (addressed answers settings q y) (all_addressed answers settings q p.0) (all_addressed answers settings q ys) (part_same (addressed answers settings q y)) (part_addressed q p.0 ys p.2))

  -- all datagrams of some events
  abbrev pub all_packets : List Event → List Packet
  all_packets q = all_addressed answers settings q (out answers settings q)

  -- what is delivered is a part of them
  pub packets_part : (q : List Event) → IsPart (packets_delivered answers settings q) (all_packets q)
  packets_part q = part_addressed q (delivered answers settings q) (out answers settings q) (part_delivered q)

  pub all_packets_more : (q : List Event) (e : Event) → AllDatagramKinds q → IsDatagramKind e.kind → all_packets (q ++ e ∷ []) ≡ all_packets q ++ posted answers settings q e
  all_packets_more q e d k =
      ap (all_addressed answers settings (q ++ e ∷ [])) (out_more q e)
      ∙ addressed_append (q ++ e ∷ []) (out answers settings q) (gained answers settings q e)
      ∙ ap (λ (ls : List Packet). ls ++ posted answers settings q e) (addressed_more q e (out answers settings q) d k (part_same (out answers settings q)))

  -- a part of all datagrams is one of those of more events
  pub packets_part_more : (ls : List Packet) (q : List Event) (e : Event) → AllDatagramKinds q → IsDatagramKind e.kind → IsPart ls (all_packets q) → IsPart ls (all_packets (q ++ e ∷ []))
  packets_part_more ls q e d k p = rw (all_packets_more q e d k) (rw (append-nil ls) at (part_append ls (all_packets q) [] (posted answers settings q e) p (part_none (posted answers settings q e))))

  pub packets_part_list : (ls : List Packet) (q r : List Event) → AllDatagramKinds q → AllDatagramKinds r → IsPart ls (all_packets q) → IsPart ls (all_packets (q ++ r))
  packets_part_list ls q [] d k p = rw (append-nil q) p
  packets_part_list ls q (e ∷ r) d k p =
      subst (λ (es : List Event). IsPart ls (all_packets es)) (append_assoc q (e ∷ []) r)
      (packets_part_list ls (q ++ e ∷ []) r (kinds_more q e d k.0) k.1 (packets_part_more ls q e d k.0 p))

-- Messages that are built of records in wire form.
use Rattle.std.proofs.Common.{◌≡◌, ◌≤◌, ℕ, Bool, true, false, List, [], ◌∷◌, ◌++◌, length, drop, map, Err, refl, ap, sym, subst, ◌∙◌, arith, append-nil}
use Rattle.std.specs.Prelude.{⊤, ◌||◌, not, ◌↔◌, IsTrue, Result}
use Rattle.std.specs.List.{filter}
use Rattle.std.proofs.lemmas.List.{drop_all, map-append}
use Rattle.dns_base.specs.declared.draft.Section.TheVariants.{Answer, Authority, Additional}
use Rattle.dns_base.specs.declared.error.PushError.{PushError}
use Rattle.dns_base.specs.declared.error.PushError.TheVariants.{ShortBuf, OutOfMemory as NoMemory}
use Rattle.dns_base.specs.Built.{Built, PassesLimit, Pushes, with_record}
use Rattle.dns_base.specs.Builds.{Becomes, Builds, KeepsLimit, unlimited, with_records}
use Rattle.dns_base.specs.Msg.{Msg, ResourceRecord}
use Rattle.dns_base.specs.Records.{record_of}
use Rattle.dns_base.proofs.BuildLaws.{no_records, wire_size}
use Rattle.dns_message.specs.declared.record.Record.{Record}
use Rattle.dns_zone.specs.Owned.{ZoneState, is_of}
use Rattle.dns_zone.specs.Places.{at_places}
use Rattle.dns_zone.specs.ZoneReply.{authoritative, denied, negative_soa, referral}
use Rattle.dns_zone.specs.ZoneTurns.{zone_begun}
use Rattle.dns_zone.proofs.BuildLaws.{becomes_of, more_refused, records_then, then_refused}
use Rattle.dns_zone_tree.specs.Kinds.{places_of}
use Rattle.dns_zone_tree.specs.declared.kinds.TypedPlace.{TypedPlace}
use Rattle.dns_name_server.specs.Steps.{WireReply, are_any, behind, wire_message, wired}

-- what has no room
pushed_refused : (old new more : Built) (m : Msg) (e : PushError) → Pushes old new more (Err e) → more ≡ unlimited m → Builds (unlimited m) (Err e)
pushed_refused old new more m ShortBuf p i = subst PassesLimit i p.1
pushed_refused old new more m NoMemory p i = tt

module _ (o : List ℕ) (r : WireReply) where
  pub begun_refused : (e : PushError) → Builds (unlimited (zone_begun o r.rcode r.aa)) (Err e) → Builds (unlimited (wire_message o r)) (Err e)
  begun_refused e h = more_refused (zone_begun o r.rcode r.aa) (wire_message o r) e (omega (arith, wire_size (zone_begun o r.rcode r.aa), wire_size (wire_message o r))) h

  pub answers_refused : (old new : Built) (e : PushError) → old ≡ unlimited (zone_begun o r.rcode r.aa) → Pushes old new (with_records Answer old r.answers) (Err e) → Builds (unlimited (wire_message o r)) (Err e)
  answers_refused old new e i p =
      let m : Msg = record (zone_begun o r.rcode r.aa) { answers = r.answers } in
      more_refused m (wire_message o r) e (omega (arith, wire_size m, wire_size (wire_message o r)))
      (pushed_refused old new (with_records Answer old r.answers) m e p (ap (λ (b : Built). with_records Answer b r.answers) i))

  pub authority_refused : (old new : Built) (e : PushError) → old ≡ unlimited (record (zone_begun o r.rcode r.aa) { answers = r.answers }) → Pushes old new (with_records Authority old r.authority) (Err e) → Builds (unlimited (wire_message o r)) (Err e)
  authority_refused old new e i p =
      let m : Msg = record (zone_begun o r.rcode r.aa) { answers = r.answers; authority = r.authority } in
      more_refused m (wire_message o r) e (omega (arith, wire_size m, wire_size (wire_message o r)))
      (pushed_refused old new (with_records Authority old r.authority) m e p (ap (λ (b : Built). with_records Authority b r.authority) i))

  pub additional_refused : (old new : Built) (e : PushError) → old ≡ unlimited (record (zone_begun o r.rcode r.aa) { answers = r.answers; authority = r.authority }) → Pushes old new (with_records Additional old r.additional) (Err e) → Builds (unlimited (wire_message o r)) (Err e)
  additional_refused old new e i p =
      pushed_refused old new (with_records Additional old r.additional) (wire_message o r) e p (ap (λ (b : Built). with_records Additional b r.additional) i)

-- ---- which reply it is

or_true : (b : Bool) → (b || true) ≡ true
or_true true = refl
or_true false = refl

or_false : (b : Bool) → (b || false) ≡ b
or_false true = refl
or_false false = refl

-- the answers that are given, and then others
pub answers_then : (given : List ResourceRecord) (rs : List Record) (all : List ResourceRecord) → all ≡ given ++ map record_of rs → behind given (wired (authoritative rs)) ≡ record { aa = true; rcode = 0; answers = all; authority = []; additional = [] }
answers_then given rs all e =
    let f : Bool → List ResourceRecord → WireReply = λ a l. record { aa = a; rcode = 0; answers = l; authority = []; additional = [] } in
    (λ i. f (or_true (are_any given) i) (sym e i))

pub answers_only : (given : List ResourceRecord) (code : ℕ) → behind given (wired (record (authoritative []) { rcode = code })) ≡ record { aa = true; rcode = code; answers = given; authority = []; additional = [] }
answers_only given code =
    let f : Bool → List ResourceRecord → WireReply = λ a l. record { aa = a; rcode = code; answers = l; authority = []; additional = [] } in
    (λ i. f (or_true (are_any given) i) (append-nil given i))

-- a referral is authoritative if aliases are before it
pub referral_is : (z : ZoneState) (servers : List Record) (given authority additional : List ResourceRecord) (aa : Bool) → aa ≡ are_any given → authority ≡ map record_of servers → additional ≡ map record_of (referral z servers).additional →
    behind given (wired (referral z servers)) ≡ record { aa = aa; rcode = 0; answers = given; authority = authority; additional = additional }
referral_is z servers given authority additional aa a n x =
    let f : Bool → List ResourceRecord → List ResourceRecord → List ResourceRecord → WireReply = λ b l m k. record { aa = b; rcode = 0; answers = l; authority = m; additional = k } in
    (λ i. f ((or_false (are_any given) ∙ sym a) i) (append-nil given i) (sym n i) (sym x i))

pub any_given : (given : List ResourceRecord) (b : Bool) → (IsTrue b ↔ (given ≡ [])) → not b ≡ are_any given
any_given [] true h = refl
any_given [] false h = absurd (let k : false ≡ true = h.1 refl in cc)
any_given (r ∷ rs) true h = absurd (let k : r ∷ rs ≡ [] = h.0 refl in cc)
any_given (r ∷ rs) false h = refl

pub denied_is : (z : ZoneState) (given authority : List ResourceRecord) (code : ℕ) → authority ≡ map record_of (map negative_soa (filter (is_of 6) z.records)) →
    behind given (wired (denied z code)) ≡ record { aa = true; rcode = code; answers = given; authority = authority; additional = [] }
denied_is z given authority code e =
    let f : Bool → List ResourceRecord → List ResourceRecord → WireReply = λ b l m. record { aa = b; rcode = code; answers = l; authority = m; additional = [] } in
    (λ i. f (or_true (are_any given) i) (append-nil given i) (sym e i))

-- ---- answers that are pushed straight into a reply

-- the record at a place is pushed if it is of a type
pub kind_pushed : (b new : Built) (rs : List Record) (r : Record) (x : Result ⊤ PushError) → rs ≡ r ∷ [] → Pushes b new (with_record Answer b (record_of r)) x → Becomes new (with_records Answer b (map record_of rs)) x
kind_pushed b new rs r x e h =
    subst (λ (l : List Record). Becomes new (with_records Answer b (map record_of l)) x) (sym e) (becomes_of b new (with_record Answer b (record_of r)) x h)

pub no_kind : (b : Built) (rs : List Record) → rs ≡ [] → KeepsLimit b → (b ≡ with_records Answer b (map record_of rs)) × KeepsLimit (with_records Answer b (map record_of rs))
no_kind b rs e k =
    let i : b ≡ with_records Answer b (map record_of rs) = sym (ap (λ (l : List Record). with_records Answer b (map record_of l)) e ∙ no_records Answer b) in
    (i, subst KeepsLimit i k)

-- some records, and those after them
module _ (b : Built) (rs : List Record) (xs ys : List Record) (all : Built) (split : rs ≡ xs ++ ys) (same : with_records Answer b (map record_of rs) ≡ all) where
  parted : with_records Answer b (map record_of xs ++ map record_of ys) ≡ all
  parted = ap (with_records Answer b) (sym (ap (map record_of) split ∙ map-append record_of xs ys)) ∙ same

  pub kinds_pushed : (new : Built) → new ≡ with_records Answer b (map record_of xs) → with_records Answer new (map record_of ys) ≡ all
  kinds_pushed new e = ap (λ (k : Built). with_records Answer k (map record_of ys)) e ∙ (records_then Answer b (map record_of xs) (map record_of ys) ∙ parted)

  pub kinds_refused : (new new' : Built) (e : PushError) → Becomes new (with_records Answer b (map record_of xs)) (Err e) → Becomes new' all (Err e)
  kinds_refused new new' e h = then_refused Answer b new new' (map record_of xs) (map record_of ys) all e h parted

pub kinds_done : (b all : Built) (rs : List Record) (t : ℕ) (ks : List TypedPlace) (i : ℕ) → length ks ≤ i → with_records Answer b (map record_of (at_places rs (places_of t (drop i ks)))) ≡ all → KeepsLimit b → (b ≡ all) × KeepsLimit all
kinds_done b all rs t ks i l e k =
    let s : b ≡ all = sym (ap (λ (x : List TypedPlace). with_records Answer b (map record_of (at_places rs (places_of t x)))) (drop_all i ks l) ∙ no_records Answer b) ∙ e in
    (s, subst KeepsLimit s k)

-- the answers that are given in a reply that is begun, and then others
refused : (new more : Built) (e : PushError) → Becomes new more (Err e) → Builds more (Err e)
refused new more ShortBuf h = h
refused new more NoMemory h = tt

pub found_begun : (o : List ℕ) (given : List ResourceRecord) (rs : List Record) (e : PushError) → Builds (unlimited (zone_begun o 0 true)) (Err e) → Builds (unlimited (wire_message o (behind given (wired (authoritative rs))))) (Err e)
found_begun o given rs e h =
    let r : WireReply = record { aa = true; rcode = 0; answers = given ++ map record_of rs; authority = []; additional = [] } in
    subst (λ (w : WireReply). Builds (unlimited (wire_message o w)) (Err e)) (sym (answers_then given rs (given ++ map record_of rs) refl)) (begun_refused o r e h)

module _ (o : List ℕ) (given : List ResourceRecord) (rs : List Record) (b : Built) (begun : b ≡ unlimited (zone_begun o 0 true)) where
  abbrev found_message : Msg
  found_message = wire_message o (behind given (wired (authoritative rs)))

  found_as : with_records Answer b (given ++ map record_of rs) ≡ unlimited found_message
  found_as = ap (λ (k : Built). with_records Answer k (given ++ map record_of rs)) begun ∙ ap (λ (w : WireReply). unlimited (wire_message o w)) (sym (answers_then given rs (given ++ map record_of rs) refl))

  pub given_refused : (new : Built) (e : PushError) → Pushes b new (with_records Answer b given) (Err e) → Builds (unlimited found_message) (Err e)
  given_refused new e h = refused new (unlimited found_message) e (then_refused Answer b new new given (map record_of rs) (unlimited found_message) e (becomes_of b new (with_records Answer b given) (Err e) h) found_as)

  module _ (b2 new : Built) (all : List ResourceRecord) (pushed : b2 ≡ with_records Answer b given) (is : all ≡ map record_of rs) where
    found_then : with_records Answer b2 all ≡ unlimited found_message
    found_then = (λ i. with_records Answer (pushed i) (is i)) ∙ (records_then Answer b given (map record_of rs) ∙ found_as)

    pub own_refused : (e : PushError) → Becomes new (with_records Answer b2 all) (Err e) → Builds (unlimited found_message) (Err e)
    own_refused e h = refused new (unlimited found_message) e (subst (λ (k : Built). Becomes new k (Err e)) found_then h)

    pub own_given : (last : Built) → last ≡ new → (new ≡ with_records Answer b2 all) × KeepsLimit (with_records Answer b2 all) → (last ≡ unlimited found_message) × KeepsLimit (unlimited found_message)
    own_given last e h = (e ∙ (h.0 ∙ found_then), subst KeepsLimit found_then h.1)

-- The steps of a chain of aliases.
use Rattle.std.proofs.Common.{◌≡◌, ℕ, suc, ◌+◌, ◌-◌, ◌<◌, Bool, true, false, List, [], ◌∷◌, ◌++◌, length, map, drop, take, get_or, Option, Some, None, refl, ap, sym, ◌∙◌, arith, append_assoc, append-nil, length-append}
use Rattle.std.specs.Prelude.{◌||◌, if◌then◌else◌, is_some, option_map}
use Rattle.std.specs.List.{slice_get}
use Rattle.std.proofs.lemmas.List.{map-append}
use Rattle.std.proofs.lemmas.List.Elements.{filter_map-append}
use Rattle.dns_name.specs.Names.{name_under}
use Rattle.dns_base.specs.Msg.{ResourceRecord}
use Rattle.dns_base.specs.Records.{record_of}
use Rattle.dns_message.specs.declared.record.Record.{Record}
use Rattle.dns_zone.specs.Owned.{ZoneState, asked_records, is_asked, target}
use Rattle.dns_zone.specs.Places.{at_places, places}
use Rattle.dns_zone.specs.ZoneReply.{ZoneReply, authoritative, denied, exists, follows}
use Rattle.dns_zone.proofs.PlaceLaws.{at_places_of, places_count}
use Rattle.dns_zone_tree.specs.Kinds.{kind_places, places_in, places_of}
use Rattle.dns_zone_tree.specs.Regions.{Within, asked_region}
use Rattle.dns_zone_tree.specs.Walks.{IsNode, ReachesNode, ReachesNone}
use Rattle.dns_zone_tree.specs.declared.kinds.Kinds.{Kinds}
use Rattle.dns_zone_tree.specs.declared.kinds.TypedPlace.{TypedPlace}
use Rattle.dns_zone_tree.proofs.KindLaws.{places_ahead, places_next}
use Rattle.dns_zone_tree.specs.Wildcards.{are_some, given_as, had_records, is_covered, wildcard}
use Rattle.dns_name_server.specs.NameServerReplies.{behind_alias, by_alias, by_dname, by_region, by_target, found_or_denied, gone_by, gone_to, is_answered, made_alias, reply_from, too_long}
use Rattle.dns_name_server.specs.Steps.{WireReply, are_any, behind, followed_alias, head_of, own_reply, wired}

-- ---- records in front

or_true : (b : Bool) → (b || true) ≡ true
or_true true = refl
or_true false = refl

any_more : (old : List ResourceRecord) (c : ResourceRecord) (b : Bool) → (are_any (old ++ c ∷ []) || b) ≡ (are_any old || true)
any_more [] c b = refl
any_more (x ∷ old) c b = refl

-- an alias that is given as well
pub behind_more : (old : List ResourceRecord) (c : Record) (r : ZoneReply) → behind (old ++ record_of c ∷ []) (wired r) ≡ behind old (wired (behind_alias c r))
behind_more old c r =
    let f : Bool → List ResourceRecord → WireReply = λ a l. record (wired r) { aa = a; answers = l } in
    (λ i. f (any_more old (record_of c) r.aa i) (append_assoc old (record_of c ∷ []) (map record_of r.answers) i))

-- answers that are given already, or none
answers_given : (old rs : List ResourceRecord) (r : WireReply) → (are_any (old ++ rs) || true) ≡ (are_any old || true)
answers_given old rs r = or_true (are_any (old ++ rs)) ∙ sym (or_true (are_any old))

pub answers_alone : (old : List ResourceRecord) (rs : List Record) → behind (old ++ map record_of rs) (wired (authoritative [])) ≡ behind old (wired (authoritative rs))
answers_alone old rs =
    let f : Bool → List ResourceRecord → WireReply = λ a l. record { aa = a; rcode = 0; answers = l; authority = []; additional = [] } in
    (λ i. f (answers_given old (map record_of rs) (wired (authoritative [])) i) (append-nil (old ++ map record_of rs) i))

-- ---- places

module _ (rs : List Record) (t : ℕ) (ks : List TypedPlace) (i : ℕ) (d : TypedPlace) (h : i < length ks) where
  -- the records from a place on
  pub records_ahead : at_places rs (places_of t (drop i ks)) ≡ at_places rs (places_of t (get_or ks i d ∷ [])) ++ at_places rs (places_of t (drop (i + 1) ks))
  records_ahead = ap (at_places rs) (places_ahead t ks i d h) ∙ filter_map-append (slice_get rs) (places_of t (get_or ks i d ∷ [])) (places_of t (drop (i + 1) ks))

  pub head_found : (r : Record) → at_places rs (places_of t (get_or ks i d ∷ [])) ≡ r ∷ [] → Some r ≡ head_of (at_places rs (places_of t (drop i ks)))
  head_found r e = sym (ap head_of (records_ahead ∙ ap (λ (l : List Record). l ++ at_places rs (places_of t (drop (i + 1) ks))) e))

  pub head_passed : at_places rs (places_of t (get_or ks i d ∷ [])) ≡ [] → head_of (at_places rs (places_of t (drop (i + 1) ks))) ≡ head_of (at_places rs (places_of t (drop i ks)))
  head_passed e = sym (ap head_of (records_ahead ∙ ap (λ (l : List Record). l ++ at_places rs (places_of t (drop (i + 1) ks))) e))

-- ---- aliases

some_of : (rs : List Record) → 0 < length rs → are_some rs ≡ true
some_of [] h = absurd (omega (arith, h))
some_of (r ∷ rs) h = refl

alias_or : ZoneReply → (List (List ℕ) → ZoneReply) → Option Record → ZoneReply
alias_or d go None = d
alias_or d go (Some c) = behind_alias c (gone_to go (target c.rdata))

alias_by : (z : ZoneState) (go : List (List ℕ) → ZoneReply) (t : ℕ) (name : List (List ℕ)) (rs : List Record) (b : Bool) → follows t ≡ b → by_alias z go t name rs ≡ alias_or (found_or_denied z t name) go (if b then head_of rs else None)
unfolding alias_or
alias_by z go t name [] true e = refl
alias_by z go t name [] false e = refl
alias_by z go t name (r ∷ rs) b e = ap (λ (x : Bool). if x then behind_alias r (gone_to go (target r.rdata)) else found_or_denied z t name) e ∙ by_test b
  where
    by_test : (b : Bool) → (if b then behind_alias r (gone_to go (target r.rdata)) else found_or_denied z t name) ≡ alias_or (found_or_denied z t name) go (if b then Some r else None)
    by_test true = refl
    by_test false = refl

-- the alias that is followed for a type
followed_true : (t : ℕ) (rs : List Record) (b : Bool) → b ≡ true → head_of rs ≡ (if b then head_of rs else None)
followed_true t rs true e = refl
followed_true t rs false e = absurd (cc)

followed_false : (t : ℕ) (rs : List Record) (b : Bool) → b ≡ false → None ≡ (if b then head_of rs else None)
followed_false t rs true e = absurd (cc)
followed_false t rs false e = refl

pub alias_given : (t : ℕ) (rs : List Record) → follows t ≡ true → head_of rs ≡ followed_alias t rs
alias_given t rs e = followed_true t rs (follows t) e

pub alias_not : (t : ℕ) (rs : List Record) → follows t ≡ false → None ≡ followed_alias t rs
alias_not t rs e = followed_false t rs (follows t) e

-- what is said of the aliases that a name has
module _ (z : ZoneState) (go : List (List ℕ) → ZoneReply) (t : ℕ) (name : List (List ℕ)) where
  alias_is : (o : Option Record) → o ≡ followed_alias t (had_records z name 5) → by_alias z go t name (had_records z name 5) ≡ alias_or (found_or_denied z t name) go o
  alias_is o e = alias_by z go t name (had_records z name 5) (follows t) refl ∙ ap (alias_or (found_or_denied z t name) go) (sym e)

  region_is : asked_region z t name ≡ Within → by_region z go t name (asked_region z t name) ≡ by_alias z go t name (had_records z name 5)
  region_is h = ap (by_region z go t name) h

  pub alias_followed : (c : Record) → asked_region z t name ≡ Within → Some c ≡ followed_alias t (had_records z name 5) → by_region z go t name (asked_region z t name) ≡ behind_alias c (gone_to go (target c.rdata))
  unfolding alias_or
  alias_followed c h e = region_is h ∙ alias_is (Some c) e

  pub none_followed : asked_region z t name ≡ Within → None ≡ followed_alias t (had_records z name 5) → by_region z go t name (asked_region z t name) ≡ found_or_denied z t name
  unfolding alias_or
  none_followed h e = region_is h ∙ alias_is None e

  -- a name that exists or that a wildcard stands for has its records, or none of the type
  pub covered_reply : is_covered z name ≡ true → found_or_denied z t name ≡ own_reply z (had_records z name t)
  covered_reply e = ap (λ (b : Bool). if are_some (had_records z name t) then authoritative (had_records z name t) else (if b then denied z 0 else denied z 3)) e

-- ---- a name that exists

module _ (z : ZoneState) (t : ℕ) (name : List (List ℕ)) (m : Kinds) (h : ReachesNode z t name m) where
  had_own : (u : ℕ) → at_places z.records (kind_places u m) ≡ had_records z name u
  had_own u =
      ap (at_places z.records) (h.kept u)
      ∙ (at_places_of (is_asked name u) z.records ∙ sym (ap (λ (b : Bool). if b then asked_records z name u else map (given_as name) (asked_records z (wildcard z name) u)) h.exists_))

  covered_own : is_covered z name ≡ true
  covered_own = ap (λ (b : Bool). if b then true else exists z (wildcard z name)) h.exists_

  pub own_alias : (go : List (List ℕ) → ZoneReply) (c : Record) → Some c ≡ followed_alias t (at_places z.records (kind_places 5 m)) → by_region z go t name (asked_region z t name) ≡ behind_alias c (gone_to go (target c.rdata))
  own_alias go c e = alias_followed z go t name c h.region (e ∙ ap (followed_alias t) (had_own 5))

  pub own_records : (go : List (List ℕ) → ZoneReply) → None ≡ followed_alias t (at_places z.records (kind_places 5 m)) → by_region z go t name (asked_region z t name) ≡ own_reply z (at_places z.records (kind_places t m))
  own_records go e = none_followed z go t name h.region (e ∙ ap (followed_alias t) (had_own 5)) ∙ (covered_reply z go t name covered_own ∙ sym (ap (own_reply z) (had_own t)))

  -- places of which there are some are those of some records
  own_some : (u : ℕ) → 0 < length (kind_places u m) → are_some (at_places z.records (kind_places u m)) ≡ true
  own_some u l =
      let e : at_places z.records (kind_places u m) ≡ asked_records z name u = ap (at_places z.records) (h.kept u) ∙ at_places_of (is_asked name u) z.records in
      ap are_some e ∙ some_of (asked_records z name u) (omega (arith, l, places_count (is_asked name u) z.records, ap length (h.kept u)))

  pub own_found : 0 < length (kind_places t m) → authoritative (at_places z.records (kind_places t m)) ≡ own_reply z (at_places z.records (kind_places t m))
  own_found l = sym (ap (λ (b : Bool). if b then authoritative (at_places z.records (kind_places t m)) else denied z 0) (own_some t l))

  pub own_none : kind_places t m ≡ [] → denied z 0 ≡ own_reply z (at_places z.records (kind_places t m))
  own_none e = sym (ap (λ (x : List ℕ). own_reply z (at_places z.records x)) e)

-- ---- a name that a wildcard stands for

head_map : (f : Record → Record) (rs : List Record) → head_of (map f rs) ≡ option_map f (head_of rs)
head_map f [] = refl
head_map f (r ∷ rs) = refl

alias_map : (f : Record → Record) (t : ℕ) (rs : List Record) (b : Bool) → (if b then head_of (map f rs) else None) ≡ option_map f (if b then head_of rs else None)
alias_map f t rs true = head_map f rs
alias_map f t rs false = refl

module _ (z : ZoneState) (t : ℕ) (name : List (List ℕ)) (n : ℕ) (h : ReachesNone z t name n) where
  had_wild : (u : ℕ) → had_records z name u ≡ map (given_as name) (asked_records z (wildcard z name) u)
  had_wild u = ap (λ (b : Bool). if b then asked_records z name u else map (given_as name) (asked_records z (wildcard z name) u)) h.missing

  covered_wild : is_covered z name ≡ exists z (wildcard z name)
  covered_wild = ap (λ (b : Bool). if b then true else exists z (wildcard z name)) h.missing

  module _ (m : Kinds) (found : IsNode z (wildcard z name) (Some m)) where
    wild_at : (u : ℕ) → map (given_as name) (at_places z.records (kind_places u m)) ≡ had_records z name u
    wild_at u = ap (map (given_as name)) (ap (at_places z.records) (found.kept u) ∙ at_places_of (is_asked (wildcard z name) u) z.records) ∙ sym (had_wild u)

    wild_alias_is : (o : Option Record) → o ≡ followed_alias t (at_places z.records (kind_places 5 m)) → option_map (given_as name) o ≡ followed_alias t (had_records z name 5)
    wild_alias_is o e =
        ap (option_map (given_as name)) e
        ∙ (sym (alias_map (given_as name) t (at_places z.records (kind_places 5 m)) (follows t)) ∙ ap (followed_alias t) (wild_at 5))

    pub wild_alias : (go : List (List ℕ) → ZoneReply) (c : Record) → Some c ≡ followed_alias t (at_places z.records (kind_places 5 m)) → by_region z go t name (asked_region z t name) ≡ behind_alias (given_as name c) (gone_to go (target c.rdata))
    wild_alias go c e = alias_followed z go t name (given_as name c) h.region (wild_alias_is (Some c) e)

    pub wild_records : (go : List (List ℕ) → ZoneReply) → None ≡ followed_alias t (at_places z.records (kind_places 5 m)) → by_region z go t name (asked_region z t name) ≡ own_reply z (map (given_as name) (at_places z.records (kind_places t m)))
    wild_records go e =
        none_followed z go t name h.region (wild_alias_is None e) ∙ (covered_reply z go t name (covered_wild ∙ sym found.there) ∙ sym (ap (own_reply z) (wild_at t)))

  -- without a wildcard it has nothing
  none_at : (o : Option Kinds) → o ≡ None → IsNode z (wildcard z name) o → (u : ℕ) → had_records z name u ≡ []
  none_at o e found u =
      let p : places (is_asked (wildcard z name) u) z.records ≡ [] = sym (found.kept u) ∙ ap (places_in u) e in
      had_wild u ∙ ap (map (given_as name)) (sym (at_places_of (is_asked (wildcard z name) u) z.records) ∙ ap (at_places z.records) p)

  alias_nowhere : (b : Bool) → None ≡ (if b then head_of [] else None)
  alias_nowhere true = refl
  alias_nowhere false = refl

  pub wild_nowhere : (go : List (List ℕ) → ZoneReply) (o : Option Kinds) → o ≡ None → IsNode z (wildcard z name) o → by_region z go t name (asked_region z t name) ≡ denied z 3
  wild_nowhere go o e found =
      none_followed z go t name h.region (alias_nowhere (follows t) ∙ sym (ap (followed_alias t) (none_at o e found 5)))
      ∙ (ap (λ (rs : List Record). if are_some rs then authoritative rs else (if is_covered z name then denied z 0 else denied z 3)) (none_at o e found t)
      ∙ ap (λ (b : Bool). if b then denied z 0 else denied z 3) (covered_wild ∙ (sym found.there ∙ ap is_some e)))

-- ---- records that are given

-- none
pub given_none : (z : ZoneState) (old new : List ResourceRecord) (rs : List Record) → new ≡ old ++ map record_of rs → length new ≡ length old → behind new (wired (denied z 0)) ≡ behind old (wired (own_reply z rs))
given_none z old new [] e n = ap (λ (x : List ResourceRecord). behind x (wired (denied z 0))) (e ∙ append-nil old)
given_none z old new (r ∷ rs) e n = absurd (omega (arith, n, ap length e, length-append old (map record_of (r ∷ rs))))

-- or some
pub given_some : (z : ZoneState) (old new : List ResourceRecord) (rs : List Record) → new ≡ old ++ map record_of rs → (length new ≡ length old → ⊥) → behind new (wired (authoritative [])) ≡ behind old (wired (own_reply z rs))
given_some z old new [] e n = absurd (n (ap length (e ∙ append-nil old)))
given_some z old new (r ∷ rs) e n = ap (λ (x : List ResourceRecord). behind x (wired (authoritative []))) e ∙ answers_alone old (r ∷ rs)

-- ---- an alias that is given, and its target

pub given_on : (old new : List ResourceRecord) (copy c : Record) (go : List (List ℕ) → ZoneReply) (n : List (List ℕ)) (o : Option (List (List ℕ))) → new ≡ old ++ record_of copy ∷ [] → copy ≡ c → Some n ≡ o → behind new (wired (go n)) ≡ behind old (wired (behind_alias c (gone_to go o)))
given_on old new copy c go n o e f g =
    ap (λ (l : List ResourceRecord). behind l (wired (go n))) (e ∙ ap (λ (x : Record). old ++ record_of x ∷ []) f)
    ∙ (behind_more old c (go n) ∙ ap (λ (x : Option (List (List ℕ))). behind old (wired (behind_alias c (gone_to go x)))) g)

pub given_nowhere : (old new : List ResourceRecord) (copy c : Record) (go : List (List ℕ) → ZoneReply) (o : Option (List (List ℕ))) → new ≡ old ++ record_of copy ∷ [] → copy ≡ c → None ≡ o → behind new (wired (authoritative [])) ≡ behind old (wired (behind_alias c (gone_to go o)))
given_nowhere old new copy c go o e f g =
    ap (λ (l : List ResourceRecord). behind l (wired (authoritative []))) (e ∙ ap (λ (x : Record). old ++ record_of x ∷ []) f)
    ∙ (behind_more old c (authoritative []) ∙ ap (λ (x : Option (List (List ℕ))). behind old (wired (behind_alias c (gone_to go x)))) g)

-- a record that is given, and what is after it
pub given_then : (old mid new : List ResourceRecord) (copy c : Record) (r : ZoneReply) (s : WireReply) → mid ≡ old ++ record_of copy ∷ [] → copy ≡ c → behind new s ≡ behind mid (wired r) → behind new s ≡ behind old (wired (behind_alias c r))
given_then old mid new copy c r s e f h =
    h ∙ (ap (λ (l : List ResourceRecord). behind l (wired r)) (e ∙ ap (λ (x : Record). old ++ record_of x ∷ []) f) ∙ behind_more old c r)

-- ---- a name below a DNAME record

pub sub_on : (old new : List ResourceRecord) (copy : Record) (r : ZoneReply) (go : List (List ℕ) → ZoneReply) (t : ℕ) (name : List (List ℕ)) (d : Record) (target to front : List (List ℕ)) → new ≡ old ++ record_of copy ∷ [] → copy ≡ made_alias name d to → r ≡ (if follows t then go to else authoritative []) →
    Some to ≡ name_under target front → front ≡ take (length name - length d.owner) name → behind new (wired r) ≡ behind old (wired (by_target go t name d (Some target)))
sub_on old new copy r go t name d target to front e f k g h =
    (λ i. behind (e i) (wired (k i)))
    ∙ (ap (λ (x : Record). behind (old ++ record_of x ∷ []) (wired (if follows t then go to else authoritative []))) f
    ∙ (behind_more old (made_alias name d to) (if follows t then go to else authoritative []) ∙ ap (λ (o : Option (List (List ℕ))). behind old (wired (gone_by go t name d o))) (g ∙ ap (name_under target) h)))

pub sub_long : (old : List ResourceRecord) (go : List (List ℕ) → ZoneReply) (t : ℕ) (name : List (List ℕ)) (d : Record) (target front : List (List ℕ)) → None ≡ name_under target front → front ≡ take (length name - length d.owner) name →
    behind old (wired too_long) ≡ behind old (wired (by_target go t name d (Some target)))
sub_long old go t name d target front g h = ap (λ (o : Option (List (List ℕ))). behind old (wired (gone_by go t name d o))) (g ∙ ap (name_under target) h)

pub dname_head : (go : List (List ℕ) → ZoneReply) (t : ℕ) (name : List (List ℕ)) (rs : List Record) (d : Record) → Some d ≡ head_of rs → by_dname go t name rs ≡ behind_alias d (by_target go t name d (target d.rdata))
dname_head go t name [] d e = absurd (cc)
dname_head go t name (r ∷ rs) d e =
    let k : r ≡ d = cc in
    ap (λ (x : Record). behind_alias x (by_target go t name x (target x.rdata))) k

pub dname_none : (go : List (List ℕ) → ZoneReply) (t : ℕ) (name : List (List ℕ)) (rs : List Record) → None ≡ head_of rs → by_dname go t name rs ≡ authoritative []
dname_none go t name [] e = refl
dname_none go t name (r ∷ rs) e = absurd (cc)

-- ---- records at places that are given

abbrev given_at : List Record → List (List ℕ) → List ℕ → List ResourceRecord
given_at rs name is = map record_of (map (given_as name) (at_places rs is))

given_join : (rs : List Record) (name : List (List ℕ)) (xs ys : List ℕ) → given_at rs name (xs ++ ys) ≡ given_at rs name xs ++ given_at rs name ys
given_join rs name xs ys =
    ap (λ (l : List Record). map record_of (map (given_as name) l)) (filter_map-append (slice_get rs) xs ys)
    ∙ (ap (map record_of) (map-append (given_as name) (at_places rs xs) (at_places rs ys)) ∙ map-append record_of (map (given_as name) (at_places rs xs)) (map (given_as name) (at_places rs ys)))

pub give_some : (rs : List Record) (name : List (List ℕ)) (is : List ℕ) (r copy : Record) (old new : List ResourceRecord) → at_places rs is ≡ r ∷ [] → copy ≡ given_as name r → new ≡ old ++ record_of copy ∷ [] → new ≡ old ++ map record_of (map (given_as name) (at_places rs is))
give_some rs name is r copy old new e f g =
    g ∙ (ap (λ (x : Record). old ++ record_of x ∷ []) f ∙ ap (λ (l : List Record). old ++ map record_of (map (given_as name) l)) (sym e))

pub give_no : (rs : List Record) (name : List (List ℕ)) (is : List ℕ) (old : List ResourceRecord) → at_places rs is ≡ [] → old ≡ old ++ map record_of (map (given_as name) (at_places rs is))
give_no rs name is old e = sym (append-nil old) ∙ ap (λ (l : List Record). old ++ map record_of (map (given_as name) l)) (sym e)

pub give_next : (rs : List Record) (name : List (List ℕ)) (t : ℕ) (ks : List TypedPlace) (i : ℕ) (d : TypedPlace) (old now new : List ResourceRecord) → i < length ks → now ≡ old ++ map record_of (map (given_as name) (at_places rs (places_of t (take i ks)))) →
    new ≡ now ++ map record_of (map (given_as name) (at_places rs (places_of t (get_or ks i d ∷ [])))) → new ≡ old ++ map record_of (map (given_as name) (at_places rs (places_of t (take (i + 1) ks))))
give_next rs name t ks i d old now new h e f =
    let one = places_of t (get_or ks i d ∷ []) in
    f
    ∙ (ap (λ (l : List ResourceRecord). l ++ given_at rs name one) e
    ∙ (append_assoc old (given_at rs name (places_of t (take i ks))) (given_at rs name one)
    ∙ ap (λ (l : List ResourceRecord). old ++ l) (sym (ap (given_at rs name) (places_next t ks i d h) ∙ given_join rs name (places_of t (take i ks)) one))))

-- ---- chains

pub reply_on : (z : ZoneState) (t n k : ℕ) (seen : List (List (List ℕ))) (name : List (List ℕ)) → n ≡ suc k → is_answered z seen name ≡ true → reply_from z t n seen name ≡ by_region z (reply_from z t k (seen ++ name ∷ [])) t name (asked_region z t name)
unfolding reply_from
reply_on z t n k seen name e h =
    ap (λ (i : ℕ). reply_from z t i seen name) e ∙ ap (λ (b : Bool). if b then by_region z (reply_from z t k (seen ++ name ∷ [])) t name (asked_region z t name) else authoritative []) h

pub reply_ends : (z : ZoneState) (t n : ℕ) (seen : List (List (List ℕ))) (name : List (List ℕ)) → n ≡ 0 → reply_from z t n seen name ≡ authoritative []
unfolding reply_from
reply_ends z t n seen name e = ap (λ (i : ℕ). reply_from z t i seen name) e

pub reply_stops : (z : ZoneState) (t n k : ℕ) (seen : List (List (List ℕ))) (name : List (List ℕ)) → n ≡ suc k → is_answered z seen name ≡ false → reply_from z t n seen name ≡ authoritative []
unfolding reply_from
reply_stops z t n k seen name e h =
    ap (λ (i : ℕ). reply_from z t i seen name) e ∙ ap (λ (b : Bool). if b then by_region z (reply_from z t k (seen ++ name ∷ [])) t name (asked_region z t name) else authoritative []) h

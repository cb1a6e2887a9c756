-- The steps of a chain of aliases, and the reply that it is.
use Rattle.std.proofs.Common.{◌≡◌, ℕ, suc, ◌-◌, ◌<◌, Bool, true, false, List, [], ◌∷◌, ◌++◌, length, map, take, Option, Some, None, refl, ap, sym, ◌∙◌, arith, append_assoc, append-nil}
use Rattle.std.specs.Prelude.{◌||◌, ◌&&◌, ◌==◌, not, if◌then◌else◌, option_map}
use Rattle.std.specs.List.{filter, slice_get}
use Rattle.std.proofs.lemmas.Bool.Decides.{nat_tests}
use Rattle.dns_name.specs.Names.{name_under}
use Rattle.dns_message.specs.declared.question.Question.{Question}
use Rattle.dns_message.specs.declared.record.Record.{Record}
use Rattle.dns_route.specs.Routes.{ends_name}
use Rattle.dns_zone.specs.Owned.{ZoneState, is_of, target}
use Rattle.dns_zone.specs.Places.{at_places}
use Rattle.dns_zone.specs.ZoneReply.{ZoneReply, authoritative, denied, follows, negative_soa, referral}
use Rattle.dns_zone_tree.specs.Kinds.{kind_places}
use Rattle.dns_zone_tree.specs.Regions.{asked_region}
use Rattle.dns_zone_tree.specs.Walks.{IsNode, ReachesNode, ReachesNone}
use Rattle.dns_zone_tree.specs.Wildcards.{are_some, given_as, wildcard}
use Rattle.dns_zone_tree.specs.declared.kinds.Kinds.{Kinds}
use Rattle.dns_name_server.specs.NameServerReplies.{behind_alias, by_region, by_target, gone_by, gone_to, is_answered, made_alias, name_server_reply, reply_from, too_long}
use Rattle.dns_name_server.specs.Steps.{followed_alias, head_of, own_reply}
use Rattle.dns_name_server.proofs.StepLaws.{own_alias, own_records, reply_ends, reply_on, reply_stops, wild_alias, wild_records}
use Rattle.dns_signed_reply.specs.DirectReplies.{IsAbsent}
use Rattle.dns_signed_reply.specs.PlainReplies.{StepsTo, alias_or, behind, by_records, said}
use Rattle.dns_signed_reply.specs.declared.plain.PlainReply.{PlainReply}
use Rattle.dns_signed_reply.specs.declared.step.Step.TheVariants.{End, On}

-- ---- replies of these records

pub answers_alone : (answers authority additional : List Record) → authority ≡ [] → additional ≡ [] → record { aa = true; rcode = 0; answers = answers; authority = authority; additional = additional } ≡ authoritative answers
answers_alone answers authority additional a x =
    let f : List Record → List Record → ZoneReply = λ l m. record { aa = true; rcode = 0; answers = answers; authority = l; additional = m } in
    λ i. f (a i) (x i)

pub denied_is : (z : ZoneState) (code : ℕ) (negative copy : Record) (answers authority additional : List Record) → map negative_soa (filter (is_of 6) z.records) ≡ negative ∷ [] → copy ≡ negative → authority ≡ copy ∷ [] → answers ≡ [] → additional ≡ [] →
    record { aa = true; rcode = code; answers = answers; authority = authority; additional = additional } ≡ denied z code
denied_is z code negative copy answers authority additional s k e a x =
    let f : List Record → List Record → List Record → ZoneReply = λ l m n. record { aa = true; rcode = code; answers = l; authority = m; additional = n } in
    let g : authority ≡ map negative_soa (filter (is_of 6) z.records) = e ∙ (ap (λ (r : Record). r ∷ []) k ∙ sym s) in
    λ i. f (a i) (g i) (x i)

pub referral_is : (z : ZoneState) (servers answers authority additional : List Record) → authority ≡ servers → additional ≡ (referral z servers).additional → answers ≡ [] → record { aa = false; rcode = 0; answers = answers; authority = authority; additional = additional } ≡ referral z servers
referral_is z servers answers authority additional n x a =
    let f : List Record → List Record → List Record → ZoneReply = λ l m k. record { aa = false; rcode = 0; answers = l; authority = m; additional = k } in
    λ i. f (a i) (n i) (x i)

any_some : (rs : List Record) → not (length rs == 0) ≡ are_some rs
any_some [] = let k : (0 == 0) ≡ true = grind (arith, nat_tests) in ap not k
any_some (r ∷ rs) = let k : (length (r ∷ rs) == 0) ≡ false = grind (arith, nat_tests) in ap not k

pub some_is : (rs : List Record) (b : Bool) → b ≡ (length rs == 0) → not b ≡ are_some rs
some_is rs b e = ap not e ∙ any_some rs

pub own_is_denied : (z : ZoneState) (rs : List Record) (b : Bool) → b ≡ (length rs == 0) → b ≡ true → denied z 0 ≡ own_reply z rs
own_is_denied z rs b e h = sym (ap (λ (x : Bool). if x then authoritative rs else denied z 0) (sym (some_is rs b e) ∙ ap not h))

pub own_is_given : (z : ZoneState) (rs : List Record) (b : Bool) → b ≡ (length rs == 0) → b ≡ false → authoritative rs ≡ own_reply z rs
own_is_given z rs b e h = sym (ap (λ (x : Bool). if x then authoritative rs else denied z 0) (sym (some_is rs b e) ∙ ap not h))

-- an answer after aliases is authoritative
pub aa_none : (rs : List Record) (b aa : Bool) → b ≡ (length rs == 0) → b ≡ true → aa ≡ (are_some rs || aa)
aa_none rs b aa e h = ap (λ (x : Bool). x || aa) (ap not (sym h) ∙ some_is rs b e)

pub aa_some : (rs : List Record) (b aa : Bool) → b ≡ (length rs == 0) → b ≡ false → true ≡ (are_some rs || aa)
aa_some rs b aa e h = ap (λ (x : Bool). x || aa) (ap not (sym h) ∙ some_is rs b e)

pub behind_is : (given answers : List Record) (aa : Bool) (p : PlainReply) → answers ≡ given ++ p.answers.items → aa ≡ (are_some given || p.aa) → record (said p) { aa = aa; answers = answers } ≡ behind given (said p)
behind_is given answers aa p e a =
    let f : Bool → List Record → ZoneReply = λ b l. record (said p) { aa = b; answers = l } in
    λ i. f (a i) (e i)

-- ---- records in front

or_true : (b : Bool) → (b || true) ≡ true
or_true true = refl
or_true false = refl

any_more : (old : List Record) (c : Record) (b : Bool) → (are_some (old ++ c ∷ []) || b) ≡ (are_some old || true)
any_more [] c b = refl
any_more (x ∷ old) c b = refl

-- an alias that is given as well
pub behind_more : (old : List Record) (c : Record) (r : ZoneReply) → behind (old ++ c ∷ []) r ≡ behind old (behind_alias c r)
behind_more old c r =
    let f : Bool → List Record → ZoneReply = λ a l. record r { aa = a; answers = l } in
    λ i. f (any_more old c r.aa i) (append_assoc old (c ∷ []) r.answers i)

-- nothing more
pub behind_nothing : (given : List Record) → authoritative given ≡ behind given (authoritative [])
behind_nothing given =
    let f : Bool → List Record → ZoneReply = λ a l. record { aa = a; rcode = 0; answers = l; authority = []; additional = [] } in
    λ i. f (sym (or_true (are_some given)) i) (sym (append-nil given) i)

-- ---- an alias, and its target

pub given_on : (old new : List Record) (copy c : Record) (go : List (List ℕ) → ZoneReply) (n : List (List ℕ)) (o : Option (List (List ℕ))) → new ≡ old ++ copy ∷ [] → copy ≡ c → Some n ≡ o → behind new (go n) ≡ behind old (behind_alias c (gone_to go o))
given_on old new copy c go n o e f g =
    ap (λ (l : List Record). behind l (go n)) (e ∙ ap (λ (x : Record). old ++ x ∷ []) f)
    ∙ (behind_more old c (go n) ∙ ap (λ (x : Option (List (List ℕ))). behind old (behind_alias c (gone_to go x))) g)

pub given_nowhere : (old new : List Record) (copy c : Record) (go : List (List ℕ) → ZoneReply) (o : Option (List (List ℕ))) (r : ZoneReply) → new ≡ old ++ copy ∷ [] → copy ≡ c → None ≡ o → r ≡ authoritative [] → behind new r ≡ behind old (behind_alias c (gone_to go o))
given_nowhere old new copy c go o r e f g h =
    (λ i. behind ((e ∙ ap (λ (x : Record). old ++ x ∷ []) f) i) (h i))
    ∙ (behind_more old c (authoritative []) ∙ ap (λ (x : Option (List (List ℕ))). behind old (behind_alias c (gone_to go x))) g)

-- a record that is given, and what is after it
pub given_then : (old mid new : List Record) (copy c : Record) (r s : ZoneReply) → mid ≡ old ++ copy ∷ [] → copy ≡ c → behind new s ≡ behind mid r → behind new s ≡ behind old (behind_alias c r)
given_then old mid new copy c r s e f h =
    h ∙ (ap (λ (l : List Record). behind l r) (e ∙ ap (λ (x : Record). old ++ x ∷ []) f) ∙ behind_more old c r)

-- ---- a name below a DNAME record

pub sub_on : (old new : List Record) (copy : Record) (r : ZoneReply) (go : List (List ℕ) → ZoneReply) (t : ℕ) (name : List (List ℕ)) (d : Record) (target to front : List (List ℕ)) → new ≡ old ++ copy ∷ [] → copy ≡ made_alias name d to → r ≡ (if follows t then go to else authoritative []) →
    Some to ≡ name_under target front → front ≡ take (length name - length d.owner) name → behind new r ≡ behind old (by_target go t name d (Some target))
sub_on old new copy r go t name d target to front e f k g h =
    (λ i. behind (e i) (k i))
    ∙ (ap (λ (x : Record). behind (old ++ x ∷ []) (if follows t then go to else authoritative [])) f
    ∙ (behind_more old (made_alias name d to) (if follows t then go to else authoritative []) ∙ ap (λ (o : Option (List (List ℕ))). behind old (gone_by go t name d o)) (g ∙ ap (name_under target) h)))

pub sub_long : (old : List Record) (r : ZoneReply) (go : List (List ℕ) → ZoneReply) (t : ℕ) (name : List (List ℕ)) (d : Record) (target front : List (List ℕ)) → r ≡ too_long → None ≡ name_under target front → front ≡ take (length name - length d.owner) name → behind old r ≡ behind old (by_target go t name d (Some target))
sub_long old r go t name d target front k g h = ap (behind old) k ∙ ap (λ (o : Option (List (List ℕ))). behind old (gone_by go t name d o)) (g ∙ ap (name_under target) h)

-- ---- aliases among records

pub head_at : (rs : List Record) → slice_get rs 0 ≡ head_of rs
head_at [] = refl
head_at (r ∷ rs) = refl

alias_by : (f : Record → Record) (rs : List Record) (b : Bool) → (if b then head_of (map f rs) else None) ≡ option_map f (if b then head_of rs else None)
alias_by f [] true = refl
alias_by f (r ∷ rs) true = refl
alias_by f rs false = refl

-- ---- a name that exists, and one that a wildcard stands for

module _ (z : ZoneState) (t : ℕ) (name : List (List ℕ)) (m : Kinds) (h : ReachesNode z t name m) (go : List (List ℕ) → ZoneReply) where
  by_alias : (o : Option Record) → o ≡ followed_alias t (at_places z.records (kind_places 5 m)) → alias_or (own_reply z (at_places z.records (kind_places t m))) go o ≡ by_region z go t name (asked_region z t name)
  by_alias None e = sym (own_records z t name m h go e)
  by_alias (Some c) e = sym (own_alias z t name m h go c e)

  pub node_reply : (aliases rs : List Record) → aliases ≡ at_places z.records (kind_places 5 m) → rs ≡ at_places z.records (kind_places t m) → by_records z go t aliases rs ≡ by_region z go t name (asked_region z t name)
  node_reply aliases rs e f = (λ i. by_records z go t (e i) (f i)) ∙ by_alias (followed_alias t (at_places z.records (kind_places 5 m))) refl

module _ (z : ZoneState) (t : ℕ) (name : List (List ℕ)) (n : ℕ) (h : ReachesNone z t name n) (m : Kinds) (found : IsNode z (wildcard z name) (Some m)) (go : List (List ℕ) → ZoneReply) where
  by_wild : (o : Option Record) → o ≡ followed_alias t (at_places z.records (kind_places 5 m)) → alias_or (own_reply z (map (given_as name) (at_places z.records (kind_places t m)))) go (option_map (given_as name) o) ≡ by_region z go t name (asked_region z t name)
  by_wild None e = sym (wild_records z t name n h m found go e)
  by_wild (Some c) e = sym (wild_alias z t name n h m found go c e)

  pub wild_reply : (aliases rs : List Record) → aliases ≡ map (given_as name) (at_places z.records (kind_places 5 m)) → rs ≡ map (given_as name) (at_places z.records (kind_places t m)) → by_records z go t aliases rs ≡ by_region z go t name (asked_region z t name)
  wild_reply aliases rs e f =
      (λ i. by_records z go t (e i) (f i))
      ∙ (ap (alias_or (own_reply z (map (given_as name) (at_places z.records (kind_places t m)))) go) (alias_by (given_as name) (at_places z.records (kind_places 5 m)) (follows t))
      ∙ by_wild (followed_alias t (at_places z.records (kind_places 5 m))) refl)

-- ---- chains

-- the reply for a name that is asked for, if that many more may be
abbrev pub asked_reply : ZoneState → ℕ → ℕ → List (List (List ℕ)) → List (List ℕ) → ZoneReply
asked_reply z t left seen name = by_region z (reply_from z t left (seen ++ name ∷ [])) t name (asked_region z t name)

-- what was given, and the reply for the name that is asked for now
pub record IsChain (z : ZoneState) (t : ℕ) (q : Question) (given : List Record) (left : ℕ) (seen : List (List (List ℕ))) (name : List (List ℕ)) : Type 0 where
  pub within : ends_name name z.apex ≡ true
  pub so_far : behind given (asked_reply z t left seen name) ≡ name_server_reply z q

pub chain_first : (z : ZoneState) (t : ℕ) (q : Question) (given : List Record) (left : ℕ) (seen : List (List (List ℕ))) (name : List (List ℕ)) → t ≡ q.qtype → name ≡ q.qname → given ≡ [] → seen ≡ [] → left ≡ 127 → ends_name q.qname z.apex ≡ true → IsChain z t q given left seen name
chain_first z t q given left seen name e n g s l w =
    let b : is_answered z [] q.qname ≡ true = ap (λ (x : Bool). x && true) w in
    record {
      within = ap (λ (x : List (List ℕ)). ends_name x z.apex) n ∙ w;
      so_far = (λ i. behind (g i) (asked_reply z (e i) (l i) (s i) (n i))) ∙ sym (reply_on z q.qtype 128 127 [] q.qname refl b);
    }

-- the reply of a name that doesn't exist
pub absent_is : (z : ZoneState) (q : Question) → ends_name q.qname z.apex ≡ true → IsAbsent z q.qtype q.qname → denied z 3 ≡ name_server_reply z q
absent_is z q w h =
    sym (reply_on z q.qtype 128 127 [] q.qname refl (ap (λ (x : Bool). x && true) w) ∙ h.nowhere (reply_from z q.qtype 127 (q.qname ∷ [])))

module _ (z : ZoneState) (t : ℕ) (q : Question) (given : List Record) (left : ℕ) (seen : List (List (List ℕ))) (name : List (List ℕ)) (new : List Record) (c : IsChain z t q given left seen name) where
  pub chain_ends : (p : PlainReply) → StepsTo given new (End p) (λ go. by_region z go t name (asked_region z t name)) → behind new (said p) ≡ name_server_reply z q
  chain_ends p h = h (reply_from z t left (seen ++ name ∷ [])) ∙ c.so_far

  module _ (next : List (List ℕ)) (more : List (List (List ℕ))) (m : more ≡ seen ++ name ∷ []) (h : StepsTo given new (On next) (λ go. by_region z go t name (asked_region z t name))) where
    so_next : behind new (reply_from z t left more next) ≡ name_server_reply z q
    so_next = ap (λ (s : List (List (List ℕ))). behind new (reply_from z t left s next)) m ∙ (h (reply_from z t left (seen ++ name ∷ [])) ∙ c.so_far)

    pub chain_last : left ≡ 0 → authoritative new ≡ name_server_reply z q
    chain_last e = behind_nothing new ∙ (ap (behind new) (sym (reply_ends z t left more next e)) ∙ so_next)

    pub chain_stops : 0 < left → is_answered z more next ≡ false → authoritative new ≡ name_server_reply z q
    chain_stops l e =
        let k : left ≡ suc (left - 1) = omega (arith, l) in
        behind_nothing new ∙ (ap (behind new) (sym (reply_stops z t left (left - 1) more next k e)) ∙ so_next)

    pub chain_next : 0 < left → is_answered z more next ≡ true → IsChain z t q new (left - 1) more next
    chain_next l e =
        let k : left ≡ suc (left - 1) = omega (arith, l) in
        record {
          within = first_of (ends_name next z.apex) _ e;
          so_far = ap (behind new) (sym (reply_on z t left (left - 1) more next k e)) ∙ so_next;
        }
      where
        first_of : (a b : Bool) → (a && b) ≡ true → a ≡ true
        first_of true b h = refl
        first_of false b h = h

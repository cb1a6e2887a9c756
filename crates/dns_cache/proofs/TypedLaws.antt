-- Records of typed data, whatever their TTLs, and messages of them.
use Rattle.std.proofs.Common.{◌≡◌, ℕ, ◌+◌, ◌*◌, ◌-◌, true, false, List, [], ◌∷◌, ◌++◌, map, Option, Some, None, Ok, refl, ap, sym, subst, ◌∙◌, arith, append-nil}
use Rattle.std.specs.Prelude.{nat_eq, if◌then◌else◌}
use Rattle.std.specs.List.{AllByRecursion}
use Rattle.std.proofs.lemmas.List.{map-append}
use Rattle.dns_message.specs.TypedData.{IsTyped}
use Rattle.dns_message.specs.declared.record.Record.{Record}
use Rattle.dns_message.specs.declared.rdata.RecordData.TheVariants.{Opt as OptList}
use Rattle.dns_message.specs.declared.question.Question.{Question}
use Rattle.dns_base.specs.Header.{IsHeader, header_of}
use Rattle.dns_base.specs.Msg.{HasName, HasOwner, IsMessage, Msg, ResourceRecord}
use Rattle.dns_base.specs.Records.{record_of}
use Rattle.dns_base.specs.Replaced.{other_than}
use Rattle.dns_base.specs.Sections.{questions_of}
use Rattle.dns_base.specs.Wire.{wire}
use Rattle.dns_opt.specs.OptRecords.{OptState, opt_record}
use Rattle.dns_service.specs.Copied.{copied}
use Rattle.dns_service.specs.LastOpt.{and_opt}
use Rattle.dns_route.specs.Typed.{AreTyped}
use Rattle.dns_cache.specs.Aged.{aged, aged_record, asked_header}
use Rattle.dns_cache.specs.Marks.{IsListed}
use Rattle.dns_cache.proofs.MarkLaws.{others_joined}

-- what a lowered TTL leaves
same_type : (age : ℕ) (r : ResourceRecord) → (aged_record age r).rtype ≡ r.rtype
same_type age r = elim (nat_eq r.rtype 41) as (λ b. (if b then r else record r { ttl = r.ttl - age }).rtype ≡ r.rtype) [ true ↦ refl | false ↦ refl ]

pub same_owner : (age : ℕ) (r : ResourceRecord) → (aged_record age r).owner ≡ r.owner
same_owner age r = elim (nat_eq r.rtype 41) as (λ b. (if b then r else record r { ttl = r.ttl - age }).owner ≡ r.owner) [ true ↦ refl | false ↦ refl ]

pub others_aged : (age : ℕ) (rs : List ResourceRecord) → other_than 41 (map (aged_record age) rs) ≡ map (aged_record age) (other_than 41 rs)
others_aged age [] = refl
others_aged age (r ∷ rs) =
    let x : ResourceRecord = aged_record age r in
    let os : List ResourceRecord = other_than 41 (map (aged_record age) rs) in
    ap (λ (t : ℕ). if nat_eq t 41 then os else x ∷ os) (same_type age r)
    ∙ elim (nat_eq r.rtype 41) as (λ b. (if b then os else x ∷ os) ≡ map (aged_record age) (if b then other_than 41 rs else r ∷ other_than 41 rs)) [
      | true ↦ others_aged age rs
      | false ↦ ap (λ (l : List ResourceRecord). aged_record age r ∷ l) (others_aged age rs)
    ]

pub owners_aged : (age : ℕ) (rs : List ResourceRecord) → AllByRecursion HasOwner rs → AllByRecursion HasOwner (map (aged_record age) rs)
owners_aged age [] h = tt
owners_aged age (r ∷ rs) h = (subst (λ (n : List (List ℕ)). HasOwner (record r { owner = n })) (sym (same_owner age r)) h.0, owners_aged age rs h.1)

typed_one : (age : ℕ) (x : ResourceRecord) → ((r : Record) × IsTyped r.rdata × (record_of r ≡ x)) → (r : Record) × IsTyped r.rdata × (record_of r ≡ aged_record age x)
typed_one age x t = elim (nat_eq x.rtype 41) as (λ b. (r : Record) × IsTyped r.rdata × (record_of r ≡ (if b then x else record x { ttl = x.ttl - age }))) [
  | true ↦ t
  | false ↦ (record t.0 { ttl = t.0.ttl - age }, t.1, ap (λ (y : ResourceRecord). record y { ttl = y.ttl - age }) t.2)
]

pub typed_aged : (age : ℕ) (rs : List ResourceRecord) → AreTyped rs → AreTyped (map (aged_record age) rs)
typed_aged age [] t = tt
typed_aged age (x ∷ rs) t = (typed_one age x t.0, typed_aged age rs t.1)

pub typed_joined : (xs ys : List ResourceRecord) → AreTyped xs → AreTyped ys → AreTyped (xs ++ ys)
typed_joined [] ys t u = u
typed_joined (x ∷ xs) ys t u = (t.0, typed_joined xs ys t.1 u)

typed_opt : (s : OptState) → IsListed (Some s) → AreTyped (opt_record s ∷ [])
typed_opt s h =
    let r : Record = record { owner = []; class = s.head.size; ttl = 16777216 * s.head.ext + 65536 * s.head.version + s.head.flags; rdata = OptList s.options } in
    ((r, record { lawful = h; names = tt }, refl), tt)

-- a message of typed records without OPT records among its additional ones
pub record IsPlain (m : Msg) : Type 0 where
  pub answers : AreTyped m.answers
  pub authority : AreTyped m.authority
  pub additional : AreTyped m.additional
  pub bare : other_than 41 m.additional ≡ m.additional

pub plain_aged : (m : Msg) (request : List ℕ) (age : ℕ) → IsPlain m → IsPlain (aged m request age)
plain_aged m request age p = record {
  answers = typed_aged age m.answers p.answers;
  authority = typed_aged age m.authority p.authority;
  additional = typed_aged age m.additional p.additional;
  bare = others_aged age m.additional ∙ ap (map (aged_record age)) p.bare;
}

pub record AreCopied : Type 0 where
  pub same : (m : Msg) → IsMessage m → AreTyped m.answers → AreTyped m.authority → AreTyped m.additional → copied (wire m) ≡ Ok (record m { additional = other_than 41 m.additional })

-- such a message is copied as itself, whatever OPT record is its last
pub plain_copied : AreCopied → (m : Msg) (opt : Option OptState) → IsPlain m → IsListed opt → IsMessage (and_opt m opt) → copied (wire (and_opt m opt)) ≡ Ok m
plain_copied law m None p l h = law.same m h p.answers p.authority p.additional ∙ ap (λ (rs : List ResourceRecord). Ok (record m { additional = rs })) p.bare
plain_copied law m (Some s) p l h =
    let rs = m.additional ++ opt_record s ∷ [] in
    let e : other_than 41 rs ≡ m.additional ++ [] = others_joined m.additional (opt_record s ∷ []) ∙ ap (λ (l : List ResourceRecord). l ++ []) p.bare in
    law.same (and_opt m (Some s)) h p.answers p.authority (typed_joined m.additional (opt_record s ∷ []) p.additional (typed_opt s l))
    ∙ ap (λ (l : List ResourceRecord). Ok (record m { additional = l })) (e ∙ append-nil m.additional)

-- the OPT record of a message stays as it is
pub aged_opt : (m : Msg) (opt : Option OptState) (request : List ℕ) (age : ℕ) → aged (and_opt m opt) request age ≡ and_opt (aged m request age) opt
aged_opt m None request age = refl
aged_opt m (Some s) request age = ap (λ (l : List ResourceRecord). record (aged m request age) { additional = l }) (map-append (aged_record age) m.additional (opt_record s ∷ []))

-- an aged message can be written and read again
pub aged_lawful : (m : Msg) (request : List ℕ) (age : ℕ) (q : Question) → IsMessage m → IsHeader (asked_header m.header (header_of request)) → HasName q → (questions_of request).0 ≡ q ∷ [] → IsMessage (aged m request age)
aged_lawful m request age q h i n e = record {
  header = i;
  questions = subst (AllByRecursion HasName) (sym e) (n, tt);
  answers = owners_aged age m.answers h.answers;
  authority = owners_aged age m.authority h.authority;
  additional = owners_aged age m.additional h.additional;
}

owners_joined : (xs ys : List ResourceRecord) → AllByRecursion HasOwner xs → AllByRecursion HasOwner ys → AllByRecursion HasOwner (xs ++ ys)
owners_joined [] ys h g = g
owners_joined (x ∷ xs) ys h g = (h.0, owners_joined xs ys h.1 g)

pub opt_lawful : (m : Msg) (opt : Option OptState) → IsMessage m → IsMessage (and_opt m opt)
opt_lawful m None h = h
opt_lawful m (Some s) h = record {
  header = h.header;
  questions = h.questions;
  answers = h.answers;
  authority = h.authority;
  additional = owners_joined m.additional (opt_record s ∷ []) h.additional (record { labels = tt; room = omega arith }, tt);
}

-- The key of a reply that is kept: the question's name in ASCII lower case (RFC 4343, section 3), its type and its class (RFC
-- 1035, section 4.1.2), and the DO bit of the request (RFC 3225, section 3).
use Rattle.std.specs.Prelude.{ℕ, ◌≡◌, ◌==◌, ◌&&◌, Bool, true, false, not, List, [], ◌∷◌, nat_eq, Option, Some, None, option_map, unwrap_or, if◌then◌else◌}
use Rattle.std.specs.Bool.{Decides, beq}
use Rattle.std.specs.Cmp.{IsEquivalence, and_equiv, on_equiv, nat_eq_equiv, bool_eq_equiv, booleans_Decides, unsigned_Decides}
use Rattle.std.specs.Cmp.Lexicographic.{pointwise, pointwise_decides, lists_equiv}
use Rattle.std.proofs.Common.{ap}
use Rattle.std.proofs.lemmas.Bool.Decides.{Decides-and}
use Rattle.std.specs.Hash as fed
use Rattle.std.specs.List.{list_any}
use Rattle.dns_name.specs.Labels.{folded, spell}
use Rattle.dns_message.specs.declared.question.Question.{Question}
use Rattle.dns_base.specs.Header.{header_of}
use Rattle.dns_base.specs.Msg.{HasName}
use Rattle.dns_base.specs.Options.{options}
use Rattle.dns_base.specs.Sections.{field, first_of, questions_of}
use Rattle.dns_opt.specs.OptRecords.{OptState, is_do, opt_of}

pub record AskedKey : Type 0 where
  pub name : List (List ℕ)
  pub qtype : ℕ
  pub qclass : ℕ
  pub dnssec_ok : Bool

-- whether keys are the same
abbrev pub same_key : AskedKey → AskedKey → Bool
same_key a b = pointwise (pointwise ◌==◌) a.name b.name && ((a.qtype == b.qtype) && ((a.qclass == b.qclass) && beq a.dnssec_ok b.dnssec_ok))

pub same_key_equiv : IsEquivalence same_key
same_key_equiv =
    and_equiv (on_equiv (λ (k : AskedKey). k.name) (lists_equiv (lists_equiv nat_eq_equiv)))
    (and_equiv (on_equiv (λ (k : AskedKey). k.qtype) nat_eq_equiv)
    (and_equiv (on_equiv (λ (k : AskedKey). k.qclass) nat_eq_equiv) (on_equiv (λ (k : AskedKey). k.dnssec_ok) bool_eq_equiv)))

same_names : (xs ys : List (List ℕ)) → Decides (pointwise (pointwise ◌==◌) xs ys) (xs ≡ ys)
same_names = pointwise_decides (pointwise_decides unsigned_Decides)

same_parts : (a b : AskedKey) → Decides (same_key a b)
    ((a.name ≡ b.name) × ((a.qtype ≡ b.qtype) × ((a.qclass ≡ b.qclass) × (a.dnssec_ok ≡ b.dnssec_ok))))
same_parts a b =
    Decides-and _ _ (same_names a.name b.name)
    (Decides-and _ _ (unsigned_Decides a.qtype b.qtype)
    (Decides-and _ _ (unsigned_Decides a.qclass b.qclass) (booleans_Decides a.dnssec_ok b.dnssec_ok)))

-- keys are the same exactly if they are equal
pub same_key_Decides : (a b : AskedKey) → Decides (same_key a b) (a ≡ b)
same_key_Decides a b =
    let d = same_parts a b in (
      λ h. let p = d.0 h in λ i. record { name = p.0 i; qtype = p.1.0 i; qclass = p.1.1.0 i; dnssec_ok = p.1.1.1 i },
      λ e. d.1 (
        ap (λ (k : AskedKey). k.name) e,
        (ap (λ (k : AskedKey). k.qtype) e, (ap (λ (k : AskedKey). k.qclass) e, ap (λ (k : AskedKey). k.dnssec_ok) e)),
      ),
    )

-- a key is hashed by one write of its name's octets, and its type
abbrev pub key_writes : AskedKey → List (List ℕ)
key_writes k = spell k.name ∷ fed.u16 k.qtype

pub same_key_writes : (a b : AskedKey) → same_key a b ≡ true → key_writes a ≡ key_writes b
same_key_writes a b h = ap key_writes ((same_key_Decides a b).0 h)

-- ---- the key of a request

-- the DO bit, which is clear if there is no OPT record
abbrev pub wants_dnssec : Option OptState → Bool
wants_dnssec None = false
wants_dnssec (Some s) = is_do s.head.flags

-- whether one of the options of a list is a client subnet, readable or not
abbrev pub lists_subnet : List ℕ → Bool
lists_subnet o = list_any (λ (p : ℕ × List ℕ). nat_eq p.0 8) (unwrap_or (options o) [])

-- a reply for the clients of a subnet is none for others (RFC 7871, section 7.3)
abbrev pub names_subnet : Option OptState → Bool
names_subnet None = false
names_subnet (Some s) = lists_subnet s.options

-- the opcode is QUERY, and there is one question
abbrev pub asks_once : List ℕ → Bool
asks_once o = nat_eq (header_of o).opcode 0 && nat_eq (field 4 o) 1

abbrev pub question_key : Bool → Question → AskedKey
question_key ok q = record { name = folded q.qname; qtype = q.qtype; qclass = q.qclass; dnssec_ok = ok }

-- the one question of octets, which is readable
abbrev pub AsksOnce : List ℕ → Type 0
AsksOnce o = (q : Question) × ((questions_of o).0 ≡ q ∷ [])

-- octets whose first question is readable, so that its name is one
abbrev pub AsksByName : List ℕ → Type 0
AsksByName o = (q : Question) × (first_of (questions_of o).0 ≡ Some q) × HasName q

-- the key of octets that are a request; none if its question is unreadable
abbrev pub key_of : List ℕ → Option AskedKey
key_of o = if asks_once o && not (names_subnet (opt_of o))
    then option_map (question_key (wants_dnssec (opt_of o))) (first_of (questions_of o).0) else None

-- The wildcard below a name, as octets.
use Rattle.std.proofs.Common.{◌≡◌, ℕ, suc, ◌+◌, ◌≤◌, ◌<◌, Bool, true, false, List, [], ◌∷◌, ◌++◌, length, drop, refl, ap, sym, ◌∙◌, arith, append-nil, length-append}
use Rattle.std.specs.Prelude.{◌||◌, Ok, Err, nat_lt, slice_index_or, if◌then◌else◌}
use Rattle.std.proofs.lemmas.Bool.Decides.{nat_tests}
use Rattle.dns_route.specs.Routes.{ends_name}
use Rattle.dns_name.specs.declared.error.FormReason.TheVariants.{Trailing}
use Rattle.dns_name.specs.declared.error.ParseError.TheVariants.{Form}
use Rattle.dns_name.specs.Grammar.{StandsPlain}
use Rattle.dns_name.specs.Labels.{IsName, spell}
use Rattle.dns_name.specs.Names.{uncompressed, uncompressed_at, read_whole}
use Rattle.dns_denial.specs.Nsecs.{NsecState}
use Rattle.dns_denial.specs.Validation.{shown_encloser}
use Rattle.dns_zone_tree.specs.Wildcards.{star}

-- ---- the wildcard

pub wildcard_octets : (ls : List (List ℕ)) (o : List ℕ) → o ≡ (1 ∷ 42 ∷ []) ++ spell ls → length (spell ls) ≤ 253 → IsName ls → StandsPlain o 0 (star ∷ ls) (0 + length (spell (star ∷ ls)))
wildcard_octets ls o e h n = record {
  more = [];
  spelt = e ∙ sym (append-nil (spell (star ∷ ls)));
  name = record { labels = (omega arith, omega arith, n.labels); room = omega arith };
  ends = refl;
}

pub read_all : (o : List ℕ) (ls : List (List ℕ)) → o ≡ spell ls → uncompressed_at o 0 ≡ Ok (ls, 0 + length (spell ls)) → uncompressed o ≡ Ok ls
read_all o ls e h =
    let f : nat_lt (0 + length (spell ls)) (length o) ≡ false = ap (λ (n : ℕ). nat_lt (0 + length (spell ls)) n) (ap length e) ∙ not_less (length (spell ls)) in
    ap (read_whole o) h ∙ ap (λ (b : Bool). if b then Err (Form Trailing) else Ok ls) f
  where
    not_less : (n : ℕ) → nat_lt (0 + n) n ≡ false
    not_less n = grind (arith, nat_tests)

-- ---- the encloser

-- it is the name itself, if an NSEC's owner or next name ends with it
pub stops : (n : NsecState) (ls : List (List ℕ)) → (ends_name n.owner ls || ends_name n.next ls) ≡ true → shown_encloser n ls ≡ ls
stops n [] h = refl
stops n (l ∷ ls) h = ap (λ (b : Bool). if b then l ∷ ls else shown_encloser n ls) h

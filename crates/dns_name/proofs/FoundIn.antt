-- What is found in tables, one after the other.
use Rattle.std.proofs.Common.{◌≡◌, ℕ, Bool, List, ◌++◌, Option, Some, None, option_map, sym, ap, ◌∙◌}
use Rattle.std.specs.Borrow.{Bor}
use Rattle.std.specs.List.{find}
use Rattle.std.specs.Option.{option_or}
use Rattle.std.proofs.lemmas.List.Folds.{find-append}
use Rattle.dns_name.specs.Registries.{Entry, entry_of}

pub found_in_both : (p : Entry → Bool) (xs ys : List Entry) (a b r : Option (ℕ × Bor (List ℕ))) → option_map entry_of a ≡ find p xs → option_map entry_of b ≡ find p ys → r ≡ option_or a b → option_map entry_of r ≡ find p (xs ++ ys)
found_in_both p xs ys None b r h k e =
    ap (option_map entry_of) e ∙ (k ∙ (ap (λ o. option_or o (find p ys)) h ∙ sym (find-append p xs ys)))
found_in_both p xs ys (Some x) b r h k e =
    ap (option_map entry_of) e ∙ (ap (λ o. option_or o (find p ys)) h ∙ sym (find-append p xs ys))

-- What is kept of the options of an OPT record (RFC 6891, section 6.1.2): client subnets (RFC 7871) and extended errors (RFC 8914).
use Rattle.std.specs.Prelude.{ℕ, ⊤, Bool, true, List, [], ◌∷◌, ◌++◌, nat_eq, unwrap_or, if◌then◌else◌, Result, Ok, Err}
use Rattle.dns_name.specs.declared.error.ParseError.{ParseError}
use Rattle.dns_base.specs.Options.{options, option_octets}
use Rattle.dns_opt.specs.All.{all_takes}
use Rattle.dns_opt.specs.Items.{items_of}
use Rattle.dns_opt.specs.OptRecords.{OptHead, OptState, is_do, opt_state, with_do}
use Rattle.dns_service.specs.Codes.{extended_error_option, subnet_option}
use Rattle.dns_route.specs.declared.kept.KeptKinds.{KeptKinds}
use Rattle.dns_route.specs.declared.kept.KeptKinds.TheVariants.{Subnets, SubnetsAndErrors}

-- whether the options of a code are kept
abbrev pub keeps : KeptKinds → ℕ → Bool
keeps Subnets code = nat_eq code subnet_option
keeps SubnetsAndErrors code = if nat_eq code subnet_option then true else nat_eq code extended_error_option

-- the kept ones of codes and data, in order and as they stand
abbrev pub kept_options : KeptKinds → List (ℕ × List ℕ) → List ℕ
kept_options k [] = []
kept_options k (p ∷ ps) = if keeps k p.0 then option_octets p.0 p.1 ++ kept_options k ps else kept_options k ps

-- the kept options of an option list
abbrev pub kept_of_list : KeptKinds → List ℕ → List ℕ
kept_of_list k o = kept_options k (unwrap_or (options o) [])

-- the first refusal among items
abbrev pub refusal : {X : Type 0} → List (Result X ParseError) → Result ⊤ ParseError
refusal [] = Ok tt
refusal (Ok x ∷ items) = refusal items
refusal (Err e ∷ items) = Err e

-- an option list is refused as its first option that its kind refuses
abbrev pub checked : List ℕ → Result ⊤ ParseError
checked o = refusal (items_of all_takes o)

-- the numbers of an OPT record that has a size and the flag DO and nothing else
abbrev pub plain_head : ℕ → Bool → OptHead
plain_head size ok = record { size = size; ext = 0; version = 0; flags = with_do 0 ok }

-- an OPT record of a size, with the DO bit of another and its kept options
abbrev pub kept_record : ℕ → KeptKinds → OptState → OptState
kept_record size k s = opt_state (plain_head size (is_do s.head.flags)) (kept_of_list k s.options)

abbrev pub kept_checked : OptState → Result ⊤ ParseError → Result OptState ParseError
kept_checked s (Ok _) = Ok s
kept_checked s (Err e) = Err e

-- what is kept of an OPT record, refused if one of its options is unreadable
abbrev pub kept_opt : ℕ → KeptKinds → OptState → Result OptState ParseError
kept_opt size k s = kept_checked (kept_record size k s) (checked s.options)

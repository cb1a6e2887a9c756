-- Texts that have names.
use Rattle.std.specs.Prelude.{ℕ, List, find, Option, option_map}
use Rattle.std.specs.Str.{bytes_eq}
use Rattle.dns_zone_include.specs.declared.texts.ZoneText.{ZoneText}

-- of two texts of the same name the first counts
abbrev pub first_named : List ZoneText → List ℕ → Option ZoneText
first_named ts name = find (λ t. bytes_eq t.name name) ts

abbrev pub text_named : List ZoneText → List ℕ → Option (List ℕ)
text_named ts name = option_map (λ t. t.text) (first_named ts name)

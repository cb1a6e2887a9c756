-- Options, joined (RFC 6891, section 6.1.2).
use Rattle.std.specs.Prelude.{ℕ, List, [], ◌∷◌, ◌++◌}
use Rattle.dns_message.specs.Options.{option_octets}

-- codes and data as octets, each option after the one before
abbrev pub options_octets : List (ℕ × List ℕ) → List ℕ
options_octets [] = []
options_octets (p ∷ ps) = option_octets p.0 p.1 ++ options_octets ps

-- Why a request is refused before it is looked at for cookies and notices, and the client's size that it is passed on by.
use Rattle.std.specs.Prelude.{ℕ, List, [], ◌∷◌, Option, Some, None, option_map, if◌then◌else◌}
use Rattle.dns_service.specs.declared.asked.Asked.{Asked}
use Rattle.dns_service.specs.declared.message.TransportSpecificContext.{TransportSpecificContext}
use Rattle.dns_events.specs.declared.settings.Settings.{Settings}
use Rattle.dns_service.specs.Asked.{client_size}
use Rattle.dns_service.specs.Transport.{is_stream}
use Rattle.dns_layers.specs.declared.refusal.Refusal.{Refusal}
use Rattle.dns_layers.specs.declared.refusal.Refusal.TheVariants.{ByMandatory, ByEdns}
use Rattle.dns_layers.specs.Edns.{opt_refusal}
use Rattle.dns_layers.specs.Mandatory.{mandatory_refusal}

-- the first case that fits
abbrev pub first_some : {A : Type 0} → List (Option A) → Option A
first_some [] = None
first_some (Some x ∷ more) = Some x
first_some (None ∷ more) = first_some more

-- what each server refuses comes before what EDNS refuses
abbrev pub refusal_by : Settings → TransportSpecificContext → Asked → Option Refusal
refusal_by s t a = first_some
    (option_map ByMandatory (mandatory_refusal s.strict a)
    ∷ option_map ByEdns (if s.edns then opt_refusal (is_stream t) a.opt else None)
    ∷ [])

-- the client's size, if EDNS is on
abbrev pub size_by : Settings → Asked → Option ℕ
size_by s a = if s.edns then client_size a.opt else None

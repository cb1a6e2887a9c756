-- What settings that a handle holds leave in another handle, by what they are used for.
use Rattle.std.specs.Prelude.{◌≡◌, Option, Some}
use Rattle.dns_events.specs.declared.settings.Settings.{Settings}
use Rattle.nutscythe_c.specs.declared.handle_value.HandleValue.{HandleValue}
use Rattle.nutscythe_c.specs.declared.handle_value.HandleValue.TheVariants.{Settings as KeptSettings}
use Rattle.nutscythe_c.specs.declared.status.Status.{Status}
use Rattle.nutscythe_c.specs.declared.status.Status.TheVariants.{NoHandle}
use Rattle.nutscythe_c.specs.declared.uses.Use.{Use}
use Rattle.nutscythe_c.specs.declared.uses.Use.TheVariants.{Copy, Connection, Book, Configuration}
use Rattle.nutscythe_c.specs.Books.{Configures, OpensBook}
use Rattle.nutscythe_c.specs.Setters.{Copies}
use Rattle.nutscythe_c.specs.Streams.{Opens}

abbrev pub Uses : Use → Settings → Option HandleValue → Option HandleValue → Status → Type 0
Uses Copy s before after t = Copies s before after t
Uses (Connection at) s before after t = Opens at s before after t
Uses Book s before after t = OpensBook s before after t
Uses Configuration s before after t = Configures s before after t

-- by what a handle holds
abbrev pub UsesBy : Use → Option HandleValue → Option HandleValue → Option HandleValue → Status → Type 0
UsesBy purpose (Some (KeptSettings s)) before after t = Uses purpose s before after t
UsesBy purpose kept before after t = (t ≡ NoHandle) × (after ≡ before)

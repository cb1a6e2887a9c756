-- What a script is after its settings were lent for writing.
use Rattle.std.specs.Borrow.{Lends, MutBor, Fml, RattleType}
use Rattle.dns_trace.specs.Said.{Said}
use Rattle.dns_trace.specs.contracts.said.SaidSettings as settings
use Rattle.dns_script.specs.Plan.{Plan}
use Rattle.dns_script.specs.contracts.script.Script as script

-- a script with what other lines of settings said
abbrev pub with_said : {E : Type 0} → Plan E → Said → Plan E
with_said p s = record p { said = s }

-- the settings end as what is left after r; all else is as before
module _ (E : RattleType) (s : MutBor (script.the_row E).Denot) where
  abbrev pub LendsSettings : MutBor Said → Fml
  LendsSettings r = Lends (script.the_row E) settings.the_row s r (with_said s.now)

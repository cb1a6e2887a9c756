-- What lines of settings say: each value if a line says one, and the addresses that are denied in the order of their lines.
use Rattle.std.specs.Prelude.{ℕ, Bool, true, List, [], Option, None, unwrap_or}
use Rattle.dns_name.specs.declared.address.IpAddr.{IpAddr}
use Rattle.dns_events.specs.Config.{Dgram, Stream, default_dgram, default_stream}
use Rattle.dns_trace.specs.BudgetLine.{budgeted}
use Rattle.dns_trace.specs.declared.budget_line.Budget.{Budget}
use Rattle.dns_events.specs.declared.settings.Settings.{Settings}

pub record Said : Type 0 where
  pub strict : Option Bool
  pub edns : Option Bool
  pub secret : Option (List ℕ)
  pub denied : List IpAddr
  pub dgram : Option Dgram
  pub stream : Option Stream
  pub budget : Option Budget

abbrev pub nothing_said : Said
nothing_said = record { strict = None; edns = None; secret = None; denied = []; dgram = None; stream = None; budget = None }

-- the settings: strict, with EDNS and the default configurations if nothing else is said, and with the budget that is said
abbrev pub settings_said : Said → Settings
settings_said s = record {
  strict = unwrap_or s.strict true;
  edns = unwrap_or s.edns true;
  cookies = s.secret;
  denied = s.denied;
  dgram = unwrap_or s.dgram default_dgram;
  stream = budgeted s.budget (unwrap_or s.stream default_stream);
}

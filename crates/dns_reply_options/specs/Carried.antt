-- An option that a server adds to its replies (RFC 6891, section 6.1.2).
use Rattle.std.specs.Prelude.{ℕ, Bool, false, List, Option, Some, None, is_none, if◌then◌else◌}
use Rattle.dns_name.specs.OptData.{Taken}
use Rattle.dns_base.specs.Msg.{Msg}
use Rattle.dns_base.specs.Wire.{wire}
use Rattle.dns_opt.specs.Items.{first_ok, items_of}
use Rattle.dns_opt.specs.OptRecords.{OptState, opt_of}
use Rattle.dns_replies.specs.WithOption.{with_option}

-- there is an OPT record without an option that is read so
abbrev pub lacks : {X : Type 0} → (ℕ → List ℕ → Option (Taken X)) → Option OptState → Bool
lacks takes None = false
lacks takes (Some s) = is_none (first_ok (items_of takes s.options))

-- a reply whose OPT record has no such option gets this one after the others
abbrev pub and_option : {X : Type 0} → (ℕ → List ℕ → Option (Taken X)) → ℕ → List ℕ → Msg → Msg
and_option takes code octets m = if lacks takes (opt_of (wire m)) then with_option m code octets else m

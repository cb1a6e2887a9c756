-- The service in its layers is mandatory over EDNS over cookies over NOTIFY over the given service.
use Rattle.std.specs.Prelude.{ℕ, ◌≡◌}
use Rattle.dns_service.specs.Answer.{Answer}
use Rattle.dns_service.specs.Req.{Req}
use Rattle.dns_layers.specs.declared.notice.Notice.{Notice}
use Rattle.dns_events.specs.declared.settings.Settings.{Settings}
use Rattle.dns_layers.specs.Cookies.{cookies}
use Rattle.dns_layers.specs.Edns.{edns, edns_hint}
use Rattle.dns_layers.specs.Mandatory.{mandatory, mandatory_hint}
use Rattle.dns_layers.specs.Notify.{PolledVerdict, notify}
use Rattle.dns_middleware.specs.Wrapped.{replies, hint_left}

abbrev pub RepliesAreNested : Type 0
RepliesAreNested = (s : Settings) (svc : Req (Unit {0}) → ℕ → Answer) (tgt : Notice → ℕ → PolledVerdict) (r : Req (Unit {0})) (k : ℕ)
    → replies s svc tgt r k ≡ mandatory s.strict (edns s.edns (cookies s.cookies s.denied (notify tgt svc))) (edns_hint s.edns) r k

abbrev pub HintIsNested : Type 0
HintIsNested = (s : Settings) (r : Req (Unit {0})) → hint_left s r ≡ mandatory_hint s.strict (edns_hint s.edns) r

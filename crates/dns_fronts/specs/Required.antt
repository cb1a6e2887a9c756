-- Who needs a good cookie over UDP (RFC 7873, section 5.2.3): a client of a network that is required to have one is taken as one whose
-- address is denied service without.
use Rattle.std.specs.Prelude.{[], ◌∷◌, if◌then◌else◌}
use Rattle.dns_name.specs.declared.address.IpAddr.{IpAddr}
use Rattle.dns_events.specs.declared.settings.Settings.{Settings}
use Rattle.dns_service.specs.Req.{Req}
use Rattle.dns_fronts.specs.declared.layered.LayeredFront.{LayeredFront}
use Rattle.dns_fronts.specs.Networks.{is_in_any}

-- settings by which an address is denied service without a good cookie
abbrev pub denying : Settings → IpAddr → Settings
denying s a = record s { denied = a ∷ [] }

-- the settings by which a request is taken
abbrev pub settings_for : LayeredFront → Req (Unit {0}) → Settings
settings_for f r = if is_in_any f.required.items r.client_addr.ip then denying f.settings r.client_addr.ip else f.settings

-- Who is required to have a cookie if there is no secret.
use Rattle.std.proofs.Common.{◌≡◌, [], Option, Some, None, refl}
use Rattle.std.specs.Prelude.{option_map}
use Rattle.dns_proxy_config.specs.declared.cookies.CookieKeys.{CookieKeys}
use Rattle.dns_proxy_config.specs.Proxies.{required_of, server_cookies}

pub none_required : (k : Option CookieKeys) → option_map server_cookies k ≡ None → required_of k ≡ []
none_required None h = refl
none_required (Some k) h = absurd (cc)

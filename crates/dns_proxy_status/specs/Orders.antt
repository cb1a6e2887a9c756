-- The orders that a proxy takes.
use Rattle.std.specs.Prelude.{ℕ, List, Option, Some, None, codes, if◌then◌else◌}
use Rattle.std.specs.Str.{bytes_eq}
use Rattle.dns_proxy_status.specs.declared.orders.StatusOrder.{StatusOrder}
use Rattle.dns_proxy_status.specs.declared.orders.StatusOrder.TheVariants.{Status, Stop}

abbrev pub order_of : List ℕ → Option StatusOrder
order_of word =
    if bytes_eq word (codes "status") then Some Status
    else if bytes_eq word (codes "stop") then Some Stop
    else None

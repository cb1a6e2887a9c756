-- A hint that is carried from one request to another.
use Rattle.std.proofs.Common.{◌≡◌, ℕ, Option, refl}
use Rattle.dns_service.specs.declared.message.TransportSpecificContext.{TransportSpecificContext}
use Rattle.dns_service.specs.declared.message.TransportSpecificContext.TheVariants.{Udp, NonUdp}
use Rattle.dns_service.specs.Transport.{hint_of, hinted}

pub hint_carried : (h : Option ℕ) (t : TransportSpecificContext) → hinted (hint_of (hinted h t)) t ≡ hinted h t
hint_carried h (Udp before) = refl
hint_carried h (NonUdp timeout) = refl

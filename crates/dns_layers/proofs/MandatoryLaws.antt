-- A reply that the mandatory layer rewrote fits.
use Rattle.std.proofs.Common.{◌≡◌, ℕ, ◌≤◌, Bool, Option, Some, None, length, refl, sym, subst, arith}
use Rattle.dns_base.specs.Msg.{Msg}
use Rattle.dns_base.specs.Wire.{wire}
use Rattle.dns_service.specs.declared.message.TransportSpecificContext.{TransportSpecificContext}
use Rattle.dns_service.specs.declared.message.TransportSpecificContext.TheVariants.{Udp}
use Rattle.dns_service.specs.Asked.{asked_of}
use Rattle.dns_service.specs.Req.{Req}
use Rattle.dns_service.specs.Transport.{limit, limit_over}
use Rattle.dns_service.specs.Cut.{cut, sized}
use Rattle.dns_layers.specs.Mandatory.{as_response, mand_post}

-- a header takes as many octets as another
header_length : (id : ℕ) (rd : Bool) (m : Msg) → length (wire (as_response id rd m)) ≡ length (wire m)
unfolding wire
header_length id rd m = refl

at_least : (h : Option ℕ) → 512 ≤ limit h
at_least None = search arith
at_least (Some h) = search arith

-- what is cut fits
abbrev pub CutFits : Type 0
CutFits = (n : ℕ) (m : Msg) → 512 ≤ n → length (wire (cut n m)) ≤ n

udp_fits : CutFits → (t : TransportSpecificContext) (before h : Option ℕ) (id : ℕ) (rd : Bool) (m : Msg) → t ≡ Udp before → length (wire (as_response id rd (sized (limit_over t (limit h)) m))) ≤ limit h
udp_fits fit t before h id rd m e =
    subst (λ (x : TransportSpecificContext). length (wire (as_response id rd (sized (limit_over x (limit h)) m))) ≤ limit h) (sym e)
    (subst (λ (x : ℕ). x ≤ limit h) (sym (header_length id rd (cut (limit h) m))) (fit (limit h) m (at_least h)))

-- a reply over UDP fits
pub post_fits : CutFits → (r : Req (Unit {0})) (before h : Option ℕ) (m : Msg) → r.transport ≡ Udp before → length (wire (mand_post (limit h) r m)) ≤ limit h
post_fits fit r before h m e = udp_fits fit r.transport before h (asked_of r.octets).id (asked_of r.octets).rd m e

-- What holds of each reply of the service in its layers (RFC 1035, sections 4.1.1 and 4.2.1).
use Rattle.std.specs.Prelude.{◌≡◌, ℕ, ◌≤◌, true, length, IfSome, Option, Some, None, Ok, Err}
use Rattle.dns_base.specs.Header.{header_of}
use Rattle.dns_base.specs.Msg.{Msg}
use Rattle.dns_base.specs.Wire.{wire}
use Rattle.dns_service.specs.declared.message.TransportSpecificContext.TheVariants.{Udp}
use Rattle.dns_service.specs.declared.service.Polled.TheVariants.{Pending, Ready}
use Rattle.dns_service.specs.Answer.{Answer}
use Rattle.dns_service.specs.Req.{Req}
use Rattle.dns_layers.specs.declared.notice.Notice.{Notice}
use Rattle.dns_events.specs.declared.settings.Settings.{Settings}
use Rattle.dns_layers.specs.Notify.{PolledVerdict}
use Rattle.dns_middleware.specs.Wrapped.{replies, request_limit}

-- if an answer has a reply, that has the property
abbrev pub ReplyHas : (Msg → Type 0) → Answer → Type 0
ReplyHas P Pending = Unit {0}
ReplyHas P (Ready None) = Unit {0}
ReplyHas P (Ready (Some (Ok given))) = IfSome given.response P
ReplyHas P (Ready (Some (Err error))) = Unit {0}

-- the identifier of a message, and QR
abbrev pub IsResponseTo : {Meta : Type 0} → Req Meta → Msg → Type 0
IsResponseTo r m = (m.header.id ≡ (header_of r.octets).id) × (m.header.qr ≡ true)

abbrev pub RepliesFit : Type 0
RepliesFit = (s : Settings) (svc : Req (Unit {0}) → ℕ → Answer) (tgt : Notice → ℕ → PolledVerdict) (r : Req (Unit {0})) (k : ℕ)
    (hint : Option ℕ)
    → r.transport ≡ Udp hint → ReplyHas (λ m. length (wire m) ≤ request_limit s r) (replies s svc tgt r k)

abbrev pub RepliesRespond : Type 0
RepliesRespond = (s : Settings) (svc : Req (Unit {0}) → ℕ → Answer) (tgt : Notice → ℕ → PolledVerdict) (r : Req (Unit {0})) (k : ℕ)
    → ReplyHas (IsResponseTo r) (replies s svc tgt r k)

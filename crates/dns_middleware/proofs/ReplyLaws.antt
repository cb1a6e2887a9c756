-- Each reply of the service in its layers is rewritten by the mandatory rule.
use Rattle.std.proofs.Common.{◌≡◌, ℕ, ◌≤◌, zero, suc, Option, Some, None, Ok, Err, option_map, if◌then◌else◌, length, refl}
use Rattle.std.specs.Prelude.{IfSome}
use Rattle.dns_base.specs.Msg.{Msg}
use Rattle.dns_base.specs.Wire.{wire}
use Rattle.dns_service.specs.declared.message.TransportSpecificContext.TheVariants.{Udp}
use Rattle.dns_service.specs.declared.service.Polled.TheVariants.{Pending, Ready}
use Rattle.dns_service.specs.Answer.{Answer, mapped}
use Rattle.dns_service.specs.Req.{Req}
use Rattle.dns_layers.specs.declared.notice.Notice.{Notice}
use Rattle.dns_events.specs.declared.settings.Settings.{Settings}
use Rattle.dns_layers.specs.Edns.{edns_post}
use Rattle.dns_layers.specs.Mandatory.{mand_post}
use Rattle.dns_layers.specs.Notify.{PolledVerdict, asking}
use Rattle.dns_middleware.specs.ReplyLaws.{IsResponseTo, ReplyHas}
use Rattle.dns_layers.specs.Rewritten.{own_reply, rewritten}
use Rattle.dns_middleware.specs.Wrapped.{Gate, Outer, Inner, Ask, Pass, by_gate, gate, hint_left, inner_post, replies, request_limit}
use Rattle.dns_layers.proofs.MandatoryLaws.{CutFits, post_fits}

module _ (P : Msg → Type 0) where
  own-has : (m : Msg) (k : ℕ) → P m → ReplyHas P (own_reply m k)
  own-has m zero h = h
  own-has m (suc k) h = tt

  option-has : (f : Msg → Msg) → ((m : Msg) → P (f m)) → (o : Option Msg) → IfSome (option_map f o) P
  option-has f h None = tt
  option-has f h (Some m) = h m

  mapped-has : (f : Msg → Msg) → ((m : Msg) → P (f m)) → (a : Answer) → ReplyHas P (mapped (rewritten f) a)
  mapped-has f h Pending = tt
  mapped-has f h (Ready None) = tt
  mapped-has f h (Ready (Some (Err e))) = tt
  mapped-has f h (Ready (Some (Ok given))) = option-has f h given.response

  -- what the mandatory rule gives to each message, each reply has
  gate-has : (s : Settings) (svc : Req (Unit {0}) → ℕ → Answer) (tgt : Notice → ℕ → PolledVerdict) (n : ℕ) (r : Req (Unit {0})) → ((m : Msg) → P (mand_post n r m)) → (g : Gate (Unit {0})) (k : ℕ) → ReplyHas P (by_gate s svc tgt n r g k)
  gate-has s svc tgt n r h (Outer m) k = own-has (mand_post n r m) k (h m)
  gate-has s svc tgt n r h (Inner m) k = own-has (inner_post s n r m) k (h (if s.edns then edns_post r m else m))
  gate-has s svc tgt n r h (Ask notice) k = mapped-has (inner_post s n r) (λ m. h (if s.edns then edns_post r m else m)) (asking r.octets (tgt notice) k)
  gate-has s svc tgt n r h (Pass q) k = mapped-has (inner_post s n r) (λ m. h (if s.edns then edns_post r m else m)) (svc q k)

pub replies_fit : CutFits → (s : Settings) (svc : Req (Unit {0}) → ℕ → Answer) (tgt : Notice → ℕ → PolledVerdict) (r : Req (Unit {0})) (k : ℕ) (hint : Option ℕ)
    → r.transport ≡ Udp hint → ReplyHas (λ m. length (wire m) ≤ request_limit s r) (replies s svc tgt r k)
replies_fit fit s svc tgt r k hint udp = gate-has (λ m. length (wire m) ≤ request_limit s r) s svc tgt (request_limit s r) r (λ m. post_fits fit r hint (hint_left s r) m udp) (gate s r) k

pub replies_respond : (s : Settings) (svc : Req (Unit {0}) → ℕ → Answer) (tgt : Notice → ℕ → PolledVerdict) (r : Req (Unit {0})) (k : ℕ) → ReplyHas (IsResponseTo r) (replies s svc tgt r k)
replies_respond s svc tgt r k = gate-has (IsResponseTo r) s svc tgt (request_limit s r) r (λ m. (refl, refl)) (gate s r) k

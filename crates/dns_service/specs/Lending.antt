-- What a request and the result of a call are after a part of them was lent for writing.
use Rattle.std.specs.Prelude.{Option, Some}
use Rattle.std.specs.Borrow.{Lends, LendsIf, MutBor, Fml, RattleType}
use Rattle.dns_base.specs.Built.{Built}
use Rattle.dns_base.specs.Rows.{additional_row}
use Rattle.dns_service.specs.Given.{Given}
use Rattle.dns_service.specs.Req.{with_transport}
use Rattle.dns_service.specs.declared.message.TransportSpecificContext.{TransportSpecificContext}
use Rattle.dns_service.specs.contracts.message.Request as request
use Rattle.dns_service.specs.contracts.message.TransportSpecificContext as transport
use Rattle.dns_service.specs.contracts.service.CallResult as called

-- the reply ends as what is left after r; a result without a reply is as before
abbrev pub LendsReply : MutBor Given → Option (MutBor Built) → Fml
LendsReply c r = LendsIf called.the_row additional_row c r (λ b. record c.now { response = Some b.message }) c.now

-- the transport ends as what is left after r
module _ (Meta : RattleType) (q : MutBor (request.the_row Meta).Denot) where
  abbrev pub LendsTransport : MutBor TransportSpecificContext → Fml
  LendsTransport r = Lends (request.the_row Meta) transport.the_row q r (with_transport q.now)

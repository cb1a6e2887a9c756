use Rattle.std.proofs.Common.{◌≤◌, length}
use Rattle.dns_base.specs.Msg.{Msg}
use Rattle.dns_base.specs.Wire.{wire}
use Rattle.dns_service.specs.ErrorReply.{error_reply}
use Rattle.dns_service.specs.Transport.{limit}
use Rattle.dns_session.specs.Serving.{serving}
use Rattle.dns_session.specs.Turns.{limit_for}
use Rattle.dns_core.specs.ReplyTo.{Responds}
use Rattle.dns_middleware.specs.Verdicts.{verdict_on}
use Rattle.dns_middleware.specs.Wrapped.{hint_left, replies}
use Rattle.dns_core.proofs.Answered.{all_reply}
use Rattle.dns_core.proofs.Replied.{refused_fits, refused_responds, reply_has}
use Rattle.dns_core.proofs.laws.replies_answer_what_was_asked.Goals as goal

pub returns : goal.returns
returns c = λ settings given verdicts es.
    let target = verdict_on verdicts in
    let a = serving (replies settings given target) (hint_left settings) in
    all_reply a settings
    (λ n r k. reply_has (Responds r.octets) n r.octets (a.answer r k) (c.wrapped_replies_respond.ensures settings given target r k) (refused_responds r.octets n))
    (λ r k hint udp. reply_has (λ (m : Msg). length (wire m) ≤ limit (a.hint r)) (limit_for a r) r.octets (a.answer r k) (c.wrapped_replies_fit.ensures settings given target r k hint udp) (λ code. refused_fits c.cut_fits.ensures.fits r.transport hint (a.hint r) (error_reply r.octets code) udp))
    c.cut_fits.ensures.fits es

use Rattle.std.proofs.Common.{sym, subst}
use Rattle.dns_base.specs.Builds.{Builds, unlimited}
use Rattle.dns_name_server.specs.Steps.{WireReply, behind, end_reply, wire_message, wired}
use Rattle.dns_name_server.specs.declared.step.End.{End}
use Rattle.dns_name_server.proofs.BuiltLaws.{answers_only}
use Rattle.dns_name_server.proofs.compose.composed.Goals as goal

pub returns-in-Nothing : goal.returns-in-Nothing
returns-in-Nothing c =
    subst (λ (e : End). Builds (unlimited (wire_message c.args.query.now (behind c.args.given (wired (end_reply c.args.zone.now e))))) c.alone.result) (sym c.in-Nothing.is)
    (subst (λ (w : WireReply). Builds (unlimited (wire_message c.args.query.now w)) c.alone.result) (sym (answers_only c.args.given 0)) c.alone.ensures)

pub returns : goal.returns
returns c =
    subst (λ (e : End). Builds (unlimited (wire_message c.args.query.now (behind c.args.given (wired (end_reply c.args.zone.now e))))) c.alone-in-TooLong.result) (sym c.in-TooLong.is)
    (subst (λ (w : WireReply). Builds (unlimited (wire_message c.args.query.now w)) c.alone-in-TooLong.result) (sym (answers_only c.args.given 6)) c.alone-in-TooLong.ensures)

use Rattle.std.proofs.Common.{sym, subst}
use Rattle.dns_base.specs.Builds.{Builds, unlimited}
use Rattle.dns_zone.specs.Places.{at_places}
use Rattle.dns_name_server.specs.Steps.{WireReply, wire_message}
use Rattle.dns_name_server.proofs.BuiltLaws.{any_given, referral_is}
use Rattle.dns_name_server.proofs.compose.referred_by.Goals as goal

pub returns : goal.returns
returns c = λ z servers w.
    subst (λ (r : WireReply). Builds (unlimited (wire_message c.args.query.now r)) c.built.result)
    (sym (referral_is z (at_places z.records servers) c.args.given.now c.args.kept.now.authority c.args.kept.now.additional _ (any_given c.args.given.now c.is_empty-aa.result c.is_empty-aa.ensures) w.authority w.additional)) c.built.ensures

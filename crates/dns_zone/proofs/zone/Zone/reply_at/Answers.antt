use Rattle.std.proofs.Common.{◌≡◌, ap, sym, subst, ◌∙◌}
use Rattle.dns_base.specs.Builds.{Builds, unlimited}
use Rattle.dns_zone.specs.Paths.{name_path}
use Rattle.dns_zone.specs.ZoneReply.{ZoneReply, referral}
use Rattle.dns_zone.specs.ZoneTurns.{zone_message}
use Rattle.dns_zone.proofs.ReplyLaws.{reply_cut}
use Rattle.dns_zone.proofs.zone.Zone.reply_at.Goals as goal

pub standing-requires : goal.standing-requires
standing-requires c = record {
  name = c.args.question.now.qname;
  is = c.as_slice.ensures.value ∙ c.requires.path;
  within = c.requires.within;
}

pub returns-in-Cut : goal.returns-in-Cut
returns-in-Cut c =
    let q = c.args.question.now in
    let p : c.as_slice.result.now ≡ name_path q.qname = c.as_slice.ensures.value ∙ c.requires.path in
    let o = c.in-Cut.ensures q.qname p in
    subst (λ (r : ZoneReply). Builds (unlimited (zone_message c.args.query.now r)) c.referred.result) (sym (reply_cut c.args.self.now q o.0 ∙ ap (referral c.args.self.now) (sym o.1))) c.referred.ensures

pub returns-in-Owner : goal.returns-in-Owner
returns-in-Owner c =
    let q = c.args.question.now in
    let p : c.as_slice.result.now ≡ name_path q.qname = c.as_slice.ensures.value ∙ c.requires.path in
    let o = c.in-Owner.ensures q.qname p in
    c.reply_within.ensures q c.requires.path (cc (c.to_int-rtype.ensures.value, c.qtype.ensures)) o.0 o.1

pub returns-in-Nothing : goal.returns-in-Nothing
returns-in-Nothing c =
    let q = c.args.question.now in
    let p : c.as_slice.result.now ≡ name_path q.qname = c.as_slice.ensures.value ∙ c.requires.path in
    let o = c.in-Nothing.ensures q.qname p in
    c.reply_within-in-Nothing.ensures q c.requires.path (cc (c.to_int-rtype.ensures.value, c.qtype.ensures)) o.0 o.1

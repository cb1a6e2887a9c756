use Rattle.std.proofs.Common.{ap, length, map, subst, sym, ◌∙◌}
use Rattle.std.specs.List.{filter}
use Rattle.std.proofs.lemmas.Bool.{false≢true}
use Rattle.dns_zone.specs.Owned.{ZoneState, is_of}
use Rattle.dns_zone.specs.ZoneReply.{negative_soa}
use Rattle.dns_zone.proofs.BuildLaws.{negative_lawful}
use Rattle.dns_zone_tree.specs.Referrals.{AreReferrals}
use Rattle.dns_zone_tree.proofs.zone_tree.made.Goals as goal

pub negative_of-requires : goal.negative_of-requires
negative_of-requires c = ap (λ l. length (filter (is_of 6) l)) c.as_slice.ensures.value ∙ c.requires.one

pub written-requires : goal.written-requires
written-requires c =
    negative_lawful c.args.records.items c.in_ok-negative.negative c.requires.lawful (sym (ap (λ l. map negative_soa (filter (is_of 6) l)) c.as_slice.ensures.value) ∙ c.in_ok-negative.ensures)

pub invariant_of-zone : goal.invariant_of-zone
invariant_of-zone c =
    let z : ZoneState = record { apex = c.args.apex; records = c.args.records.items } in
    record {
      lawful = c.requires.lawful;
      within = c.requires.within;
      short = c.requires.short;
      known = c.requires.known;
      top_ = λ t. c.in_ok-top.ensures t ∙ c.requires.known.kept c.args.apex t;
      soa = sym (ap (λ l. map negative_soa (filter (is_of 6) l)) c.as_slice.ensures.value) ∙ c.in_ok-negative.ensures;
      denied = c.in_ok-denial.ensures;
      referred = subst (AreReferrals z) (sym c.new.ensures) tt;
      heads = λ e. absurd (false≢true e);
    }

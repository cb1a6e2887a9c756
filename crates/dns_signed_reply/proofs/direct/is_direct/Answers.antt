use Rattle.std.proofs.Common.{sym, ◌∙◌}
use Rattle.dns_zone_tree.proofs.KindLaws.{at_false, at_true}
use Rattle.dns_signed_reply.proofs.direct.is_direct.Goals as goal

pub returns-then-is_plain_type : goal.returns-then-is_plain_type
returns-then-is_plain_type c = λ h. record {
  plain = sym c.is_plain_type.ensures ∙ c.if-is_plain_type.true;
  some = at_true _ _ c.has-then-is_plain_type.result c.has-then-is_plain_type.ensures h;
  no_alias = at_false _ _ c.has.result c.has.ensures c.if-has.false;
}

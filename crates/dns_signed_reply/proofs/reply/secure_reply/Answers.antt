use Rattle.std.proofs.Common.{ap, sym, ◌∙◌}
use Rattle.dns_route.specs.Routes.{ends_name}
use Rattle.dns_zone.specs.Owned.{ZoneState}
use Rattle.dns_signed_reply.proofs.RoomLaws.{with_do, without_do}
use Rattle.dns_signed_reply.proofs.reply.secure_reply.Goals as goal

pub returns-then-asks_do : goal.returns-then-asks_do
returns-then-asks_do c = with_do c.args.zone.now c.args.room c.args.query.now c.args.question.now c.with_signatures.result (sym c.asks_do.ensures ∙ c.if-asks_do.true) c.with_signatures.ensures

pub name_server_reply-requires : goal.name_server_reply-requires
name_server_reply-requires c = ap (λ (z : ZoneState). ends_name c.args.question.now.qname z.apex) c.zone.ensures ∙ c.requires

pub returns : goal.returns
returns c = without_do c.args.zone.now c.args.room c.args.query.now c.args.question.now c.zone.result.now c.name_server_reply.result c.zone.ensures (sym c.asks_do.ensures ∙ c.if-asks_do.false) c.name_server_reply.ensures

use Rattle.std.proofs.Common.{ap, sym, ◌∙◌}
use Rattle.dns_route.specs.Routes.{ends_name}
use Rattle.dns_zone.specs.Owned.{ZoneState}
use Rattle.dns_hashed_reply.proofs.SectionLaws.{with_do3, without_do3}
use Rattle.dns_hashed_reply.proofs.reply.hashed_reply.Goals as goal

pub returns-then-asks_do : goal.returns-then-asks_do
returns-then-asks_do c = with_do3 c.args.zone.now c.args.room c.args.query.now c.args.question.now c.with_proofs.result (sym c.asks_do.ensures ∙ c.if-asks_do.true) c.with_proofs.ensures

pub name_server_reply-requires : goal.name_server_reply-requires
name_server_reply-requires c = ap (λ (z : ZoneState). ends_name c.args.question.now.qname z.apex) c.zone.ensures ∙ c.requires

pub returns : goal.returns
returns c = without_do3 c.args.zone.now c.args.room c.args.query.now c.args.question.now c.name_server_reply.result c.zone.result.now c.zone.ensures (sym c.asks_do.ensures ∙ c.if-asks_do.false) c.name_server_reply.ensures

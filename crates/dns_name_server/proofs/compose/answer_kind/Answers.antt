use Rattle.dns_name_server.proofs.BuiltLaws.{kind_pushed, no_kind}
use Rattle.dns_name_server.proofs.compose.answer_kind.Goals as goal

pub push-requires : goal.push-requires
push-requires c = c.in-Some.ensures.lawful c.requires.lawful

pub returns-in-Some : goal.returns-in-Some
returns-in-Some c = kind_pushed c.args.reply.now c.push.new.self _ c.in-Some.record.now c.push.result c.in-Some.ensures.value c.push.ensures

pub returns-in-None : goal.returns-in-None
returns-in-None c = no_kind c.args.reply.now _ c.in-None.ensures.value c.requires.short

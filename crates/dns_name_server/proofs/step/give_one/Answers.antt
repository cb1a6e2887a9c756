use Rattle.dns_zone_tree.specs.Kinds.{places_of}
use Rattle.dns_name_server.proofs.StepLaws.{give_no, give_some}
use Rattle.dns_name_server.proofs.step.give_one.Goals as goal

pub push-requires : goal.push-requires
push-requires c = c.in_ok-copy-in-Some.ensures.lawful (c.in-Some.ensures.lawful c.requires)

pub returns-in_ok-push-in-Some : goal.returns-in_ok-push-in-Some
returns-in_ok-push-in-Some c = give_some c.args.records.now c.args.name.now _ c.in-Some.record.now c.in_ok-copy-in-Some.copy c.args.given.now c.push.new.self c.in-Some.ensures.value c.in_ok-copy-in-Some.ensures.value c.in_ok-push-in-Some.ensures.ok

pub returns-in-None : goal.returns-in-None
returns-in-None c = give_no c.args.records.now c.args.name.now _ c.args.given.now c.in-None.ensures.value

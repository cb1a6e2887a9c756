use Rattle.dns_signed_reply.proofs.LoopLaws.{put_none, put_one}
use Rattle.dns_signed_reply.proofs.records.add_kind.Goals as goal

pub returns-in_ok-push-in-Some : goal.returns-in_ok-push-in-Some
returns-in_ok-push-in-Some c = put_one _ c.in-Some.record.now c.in_ok-copy-in-Some.copy c.args.into.now.items c.push.new.self.items c.in-Some.ensures.value c.in_ok-copy-in-Some.ensures.value c.in_ok-push-in-Some.ensures.items

pub returns-in-None : goal.returns-in-None
returns-in-None c = put_none _ c.args.into.now.items c.in-None.ensures.value

use Rattle.std.specs.Option.{option_copied}
use Rattle.dns_signed_reply.proofs.AbsentLaws.{written_is}
use Rattle.dns_signed_reply.proofs.absent.proofs_of.Goals as goal

pub returns : goal.returns
returns c =
    written_is c.args.zone.now (option_copied c.args.owners.now.name) (option_copied c.args.owners.now.wildcard) c.negative.result.now c.negative.ensures.value c.new-all.result c.push.new.self c.write_nsecs.new.into c.write_nsecs-2.new.into c.write_soa_rrsigs.new.into c.write_rrsigs.new.into c.write_rrsigs-2.new.into
    c.new-all.ensures c.in_ok-push.ensures.ok c.in_ok-write_nsecs.ensures c.in_ok-write_nsecs-2.ensures c.in_ok-write_soa_rrsigs.ensures c.in_ok-write_rrsigs.ensures c.in_ok-write_rrsigs-2.ensures

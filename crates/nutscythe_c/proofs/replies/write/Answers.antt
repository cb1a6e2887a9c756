-- What was rewritten is what is written.
use Rattle.std.proofs.Common.{refl, subst, Option}
use Rattle.dns_base.specs.Built.{Built}
use Rattle.nutscythe_c.specs.Replies.{ShowsReply, WritesReply}
use Rattle.nutscythe_c.specs.declared.status.Status.TheVariants.{NoMemory}
use Rattle.nutscythe_c.proofs.replies.write.Goals as goal

pub returns-in-Some-clause-written : goal.returns-in-Some-clause-written
unfolding WritesReply
returns-in-Some-clause-written c =
    let put = c.put_reply in (
      c.rewrite-rewritten.result,
      c.rewrite-rewritten.ensures,
      subst (λ (x : Option Built). ShowsReply x c.args.octets.now put.new.reply c.args.octets_len.now put.new.reply_len put.result)
          c.in-Some.ensures put.ensures.put,
    )

pub returns-in-None-clause-written : goal.returns-in-None-clause-written
unfolding WritesReply
returns-in-None-clause-written c = (
  c.rewrite-rewritten.result,
  c.rewrite-rewritten.ensures,
  subst (λ (x : Option Built). ShowsReply x c.args.octets.now c.args.octets.now c.args.octets_len.now c.args.octets_len.now NoMemory)
      c.in-None.ensures (refl, (refl, refl)),
)

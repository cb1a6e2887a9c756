use Rattle.dns_framing.specs.PolledRequest.{request_answer}
use Rattle.dns_framing.specs.Given.{message_in}
use Rattle.dns_session.proofs.KeptTurns.{ends_done, turned_kept}
use Rattle.dns_session.proofs.kept.KeptRequest.turn.Goals as goal

pub returns-clause-follows : goal.returns-clause-follows
returns-clause-follows g c = λ answers.
    turned_kept (request_answer g.F.ReplyFuture.answer g.R.ReplyStream.answer) answers c.args.self.now c.poll.new.self (message_in c.in_ok-reply.reply) c.datagram_in.result c.in_ok-reply.done c.datagram_in.ensures c.in_ok-reply.ensures

pub returns-clause-spent : goal.returns-clause-spent
returns-clause-spent g c = λ answers. ends_done (request_answer g.F.ReplyFuture.answer g.R.ReplyStream.answer) answers c.in_ok-reply.done c.poll.new.self

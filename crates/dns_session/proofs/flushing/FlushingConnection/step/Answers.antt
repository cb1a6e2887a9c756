use Rattle.dns_session.proofs.Stepped.{in_leads_on}
use Rattle.dns_session.proofs.flushing.FlushingConnection.step.Goals as goal

pub returns-in-Write : goal.returns-in-Write
returns-in-Write c = λ answers. in_leads_on answers c.args.self.now c.write.new.self c.write.result c.args.event.now (rw c.in-Write.is c.write.ensures)

-- An event at each stage.
use Rattle.std.proofs.lemmas.Result.{IfOk-weaker}
use Rattle.dns_lookup.proofs.Stepped.{datagram-step, frame-step}
use Rattle.dns_lookup.proofs.lookup.Lookup.step_stage.Goals as goal

pub returns-in_ok-heard-in-Datagrams-clause-ok : goal.returns-in_ok-heard-in-Datagrams-clause-ok
returns-in_ok-heard-in-Datagrams-clause-ok c =
    IfOk-weaker c.after_event.result _ _ (λ o h.
    datagram-step c.args.self.now c.args.event.now c.after_event.new.self o c.in-Datagrams.asking c.hear_datagram.new.asking c.in_ok-heard-in-Datagrams.heard c.in-Datagrams.is c.in_ok-heard-in-Datagrams.ensures h) c.after_event.ensures.ok

pub returns-in_ok-framed-in-Connection-clause-ok : goal.returns-in_ok-framed-in-Connection-clause-ok
returns-in_ok-framed-in-Connection-clause-ok c =
    frame-step c.args.self.now c.args.event.now c.after_frame_event.new.self c.after_frame_event.result c.in-Connection.asking c.hear_frame.new.asking _ c.in_ok-framed-in-Connection.framed c.in-Connection.is c.in_ok-framed-in-Connection.ensures c.after_frame_event.ensures.led

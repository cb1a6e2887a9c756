use denote.Exit.{no}
use denote.Param.Send.{param_send, arg_send}
use Rattle.dns_account.proofs.Sends.{clock_send, link_send}
use Rattle.dns_server.proofs.over_witnesses.run_stream_server_over.Goals as goal

pub run-requires-send-C : goal.run-requires-send-C
run-requires-send-C g c κs within = param_send _ _ (arg_send _ no _ (clock_send _ g.C.Clock c.type_bounds.send-C))

pub run-requires-send-A-Link : goal.run-requires-send-A-Link
run-requires-send-A-Link g c κs within = param_send _ _ (arg_send _ no _ (link_send _ g.A.Link.Link c.type_bounds.send-A-Link))

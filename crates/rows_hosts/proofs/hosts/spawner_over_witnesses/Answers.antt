use denote.Exit.{no}
use denote.Param.Send.{param_send, arg_send}
use Rattle.dns_account.proofs.Sends.{clock_send, link_send}
use Rattle.rows_hosts.proofs.hosts.spawner_over_witnesses.Goals as goal

pub spawner_over-requires-send-C : goal.spawner_over-requires-send-C
spawner_over-requires-send-C g c κs within = param_send _ _ (arg_send _ no _ (clock_send _ g.C.Clock c.type_bounds.send-C))

pub spawner_over-requires-send-L : goal.spawner_over-requires-send-L
spawner_over-requires-send-L g c κs within = param_send _ _ (arg_send _ no _ (link_send _ g.L.Link c.type_bounds.send-L))

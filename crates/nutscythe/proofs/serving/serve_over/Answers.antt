use denote.Exit.{no}
use denote.Param.Send.{param_send, arg_send}
use Rattle.dns_account.proofs.Sends.{clock_send, link_send}
use Rattle.nutscythe.proofs.serving.serve_over.Goals as goal

pub spawner_over-spawner-requires-send-C : goal.spawner_over-spawner-requires-send-C
spawner_over-spawner-requires-send-C g c κs within = param_send _ _ (arg_send _ no _ (clock_send _ g.C.Clock c.type_bounds.send-C))

pub spawner_over-spawner-requires-send-L : goal.spawner_over-spawner-requires-send-L
spawner_over-spawner-requires-send-L g c κs within = param_send _ _ (arg_send _ no _ (link_send _ g.A.Link.Link c.type_bounds.send-A-Link))

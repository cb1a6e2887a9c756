-- A link over a socket that passes on queries alone may go to another thread.
use denote.Exit.{no}
use denote.Param.Send.{param_send, arg_send}
use Rattle.dns_outside.proofs.mio_link.MioLink.TheSendSync.{the_send}
use Rattle.dns_query_link.proofs.Sends.{link_send}
use Rattle.dns_listener.proofs.place.serve_at.Goals as goal

pub spawner_over-spawner-requires-send-L : goal.spawner_over-spawner-requires-send-L
spawner_over-spawner-requires-send-L g c κs within = param_send _ _ (arg_send _ no _ (link_send _ _ the_send))

pub serve_over-end-requires-send-A-Link : goal.serve_over-end-requires-send-A-Link
serve_over-end-requires-send-A-Link g c κs within = param_send _ _ (arg_send _ no _ (link_send _ _ the_send))

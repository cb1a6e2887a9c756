use denote.Exit.{no}
use denote.Param.{param}
use denote.Param.Send.{param_send, arg_send}
use Rattle.dns_account.proofs.WitnessedHost.{host_kept}
use Rattle.dns_account.proofs.Sends.{sock_send, clock_send, link_send}
use Rattle.dns_account.proofs.hosts.serve_host_over.Goals as goal

pub host_service-requires-send-D : goal.host_service-requires-send-D
host_service-requires-send-D g c κs within = param_send 2 _ (arg_send _ no _ (sock_send (param 2 g.row.D) g.D.AsyncDgramSock c.type_bounds.send-D))

pub host_service-requires-send-C : goal.host_service-requires-send-C
host_service-requires-send-C g c κs within = param_send 3 _ (arg_send _ no _ (clock_send (param 3 g.row.C) g.C.Clock c.type_bounds.send-C))

pub host_service-requires-send-A-Link : goal.host_service-requires-send-A-Link
host_service-requires-send-A-Link g c κs within = param_send 7 _ (arg_send _ no _ (link_send (param 6 g.row.A-Link) g.A.Link.Link c.type_bounds.send-A-Link))

pub returns-clause-kept : goal.returns-clause-kept
returns-clause-kept g c =
    let s = c.host_service in
    host_kept _ _ s.result.1 c.args.count c.args.seat.known s.result.0.known c.args.host.now s.new.host s.ensures.served

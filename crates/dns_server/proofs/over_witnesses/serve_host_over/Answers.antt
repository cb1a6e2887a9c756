use denote.Exit.{no}
use denote.Param.Send.{param_send, arg_send}
use Rattle.dns_account.proofs.Sends.{sock_send, clock_send, link_send}
use Rattle.dns_server.proofs.Hosted.{host_kept_as}
use Rattle.dns_server.proofs.over_witnesses.serve_host_over.Goals as goal

pub serve_host-requires-send-D : goal.serve_host-requires-send-D
serve_host-requires-send-D g c κs within = param_send _ _ (arg_send _ no _ (sock_send _ g.D.AsyncDgramSock c.type_bounds.send-D))

pub serve_host-requires-send-C : goal.serve_host-requires-send-C
serve_host-requires-send-C g c κs within = param_send _ _ (arg_send _ no _ (clock_send _ g.C.Clock c.type_bounds.send-C))

pub serve_host-requires-send-A-Link : goal.serve_host-requires-send-A-Link
serve_host-requires-send-A-Link g c κs within = param_send _ _ (arg_send _ no _ (link_send _ g.A.Link.Link c.type_bounds.send-A-Link))

pub returns-clause-kept : goal.returns-clause-kept
returns-clause-kept g c =
    let s = c.serve_host in
    host_kept_as _ _ c.args.count c.args.seat.known s.result.0.known c.args.host.now s.new.host s.result.1 s.ensures.served

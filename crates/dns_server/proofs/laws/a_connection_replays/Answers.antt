use Rattle.dns_server.proofs.Replayed.{replays}
use Rattle.dns_server.proofs.laws.a_connection_replays.Goals as goal

pub returns : goal.returns
returns c = λ answers settings why client addr look text noted k k' t t' range d s running back served.
    replays answers settings why client addr look text noted k k' t t' (c.clients_are_sent_their_own.ensures.own answers settings client) c.a_trace_reads_back.ensures range d s running back served

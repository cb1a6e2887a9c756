-- Witnesses may go to other threads.
use denote.RattleType.{RattleType}
use denote.Param.Send.{IsSend, sendable}
use denote.Param.SendFields.{declared_send}
use Rattle.dns_io.specs.declared.sock.AsyncDgramSock.{Ghosts}
use Rattle.dns_io.specs.declared.clock.Clock.{Ghosts as ClockGhosts}
use Rattle.dns_io.specs.declared.link.Link.{Ghosts as LinkGhosts}
use Rattle.dns_witness.specs.contracts.witness_sock.WitnessSock as Sock
use Rattle.dns_witness.specs.contracts.witness_clock.WitnessClock as OfClock
use Rattle.dns_witness.specs.contracts.witness.Witness as OfLink

pub sock_send : (T : RattleType) (m : Ghosts T.Denot) → IsSend T → IsSend (Sock.the_row T m)
sock_send T m s = declared_send (Sock.the_type T m) (search (sendable, s), (record { owned = λ d vs. ((λ vss. (tt, ((λ uss. (tt, tt)), tt))), tt); leaving = λ k f vs. tt }, (record { owned = λ d vs. ((λ vss. (tt, ((λ uss. (tt, tt)), tt))), tt); leaving = λ k f vs. tt }, tt)))

pub clock_send : (T : RattleType) (m : ClockGhosts T.Denot) → IsSend T → IsSend (OfClock.the_row T m)
clock_send T m s = declared_send (OfClock.the_type T m) (search (sendable, s), (record { owned = λ d vs. ((λ vss. (tt, ((λ uss. (tt, tt)), tt))), tt); leaving = λ k f vs. tt }, (record { owned = λ d vs. ((λ vss. (tt, ((λ uss. (tt, tt)), tt))), tt); leaving = λ k f vs. tt }, tt)))

pub link_send : (T : RattleType) (m : LinkGhosts T.Denot) → IsSend T → IsSend (OfLink.the_row T m)
link_send T m s = declared_send (OfLink.the_type T m) (search (sendable, s), (record { owned = λ d vs. ((λ vss. (tt, ((λ uss. (tt, tt)), tt))), tt); leaving = λ k f vs. tt }, (record { owned = λ d vs. ((λ vss. (tt, ((λ uss. (tt, tt)), tt))), tt); leaving = λ k f vs. tt }, tt)))

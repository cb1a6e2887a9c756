-- A link without responses may go to another thread if the other link may.
use denote.RattleType.{RattleType}
use denote.Param.Send.{IsSend, sendable}
use denote.Param.SendFields.{declared_send}
use Rattle.dns_io.specs.declared.link.Link.{Ghosts}
use Rattle.dns_query_link.specs.contracts.query_link.QueryLink as OfLink
use Rattle.dns_query_link.proofs.query_reads.QueryReads.TheSendSync.{the_send as reads_send}

pub link_send : (T : RattleType) (m : Ghosts T.Denot) → IsSend T → IsSend (OfLink.the_row T m)
link_send T m s = declared_send (OfLink.the_type T m) (search (sendable, s), (record { owned = λ d vs. ((λ vss. (tt, ((λ uss. (tt, tt)), tt))), tt); leaving = λ k f vs. tt }, (reads_send, (search sendable, tt))))

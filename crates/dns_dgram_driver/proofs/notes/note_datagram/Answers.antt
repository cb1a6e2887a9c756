use Rattle.std.proofs.Common.{ap, sym, ◌∙◌}
use Rattle.dns_events.specs.declared.event.EventKind.TheVariants.{Datagram}
use Rattle.dns_dgram_driver.specs.declared.notes.EventHead.{EventHead}
use Rattle.dns_dgram_driver.proofs.ObservedLaws.{tells_one}
use Rattle.dns_dgram_driver.proofs.EventHeads.{has_octets, octets_are, event_dated_as}
use Rattle.dns_dgram_driver.proofs.notes.note_datagram.Goals as goal

pub noted_octets-requires : goal.noted_octets-requires
noted_octets-requires g c = has_octets c.in_ok-event.event.kind c.args.from c.in_ok-copy.copy c.in_ok-event.ensures.of.1

pub returns-clause-of : goal.returns-clause-of
returns-clause-of g c = (
  ap (λ (s : EventHead). s.client) c.head_of-head.ensures ∙ c.in_ok-event.ensures.of.0,
  octets_are c.in_ok-event.event.kind c.args.from c.in_ok-copy.copy c.noted_octets.result c.in_ok-event.ensures.of.1 c.noted_octets.ensures ∙ c.in_ok-copy.ensures,
)

pub returns-clause-observed : goal.returns-clause-observed
returns-clause-observed g c = tells_one c.in_ok-event.ensures.observed (event_dated_as c.head_of-head.result (Datagram c.args.from c.noted_octets.result) c.head_of-head.ensures
    (c.in_ok-event.ensures.of.1 ∙ ap (Datagram c.args.from) (sym (octets_are c.in_ok-event.event.kind c.args.from c.in_ok-copy.copy c.noted_octets.result c.in_ok-event.ensures.of.1 c.noted_octets.ensures))))

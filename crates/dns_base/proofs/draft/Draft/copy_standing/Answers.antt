use Rattle.dns_base.specs.Built.{Built}
use Rattle.std.proofs.Common.{ap, arith}
use Rattle.dns_base.specs.Replies.{with_questions}
use Rattle.dns_base.specs.Sections.{questions_of}
use Rattle.dns_base.proofs.Copied.{standing_done}
use Rattle.dns_base.proofs.Placed.{starts_all}
use Rattle.dns_base.proofs.draft.Draft.copy_standing.Goals as goal

pub invariant_of-self-2 : goal.invariant_of-self-2
invariant_of-self-2 c =
    let i = c.self.inside in
    let b = c.args.self.now in
    let o = c.put_count.new.octets.items in
    let k = standing_done i.octets.items c.extend_from_slice.new.self.items o c.args.message.now i.limit c.number_at.result c.args.end b c.self.invariant.0 c.self.view_is c.requires.records c.requires.header_alone c.requires.stand c.requires.room
    c.number_at.ensures c.in_ok-extend_from_slice.ensures.items c.put_count.ensures.message c.put_count.ensures.len in
    (k.0.draft, starts_all o i.limit c.args.end (with_questions b (questions_of c.args.message.now).0) c.all-self-inside.result k.0.draft k.0.view k.0.added k.1 c.all-self-inside.ensures)

pub returns-clause-value : goal.returns-clause-value
returns-clause-value c =
    let i = c.self.inside in
    (standing_done i.octets.items c.extend_from_slice.new.self.items c.put_count.new.octets.items c.args.message.now i.limit c.number_at.result c.args.end c.args.self.now c.self.invariant.0 c.self.view_is c.requires.records c.requires.header_alone
    c.requires.stand c.requires.room c.number_at.ensures c.in_ok-extend_from_slice.ensures.items c.put_count.ensures.message c.put_count.ensures.len).0.copied

pub returns-clause-records : goal.returns-clause-records
returns-clause-records c =
    let i = c.self.inside in
    (standing_done i.octets.items c.extend_from_slice.new.self.items c.put_count.new.octets.items c.args.message.now i.limit c.number_at.result c.args.end c.args.self.now c.self.invariant.0 c.self.view_is c.requires.records c.requires.header_alone
    c.requires.stand c.requires.room c.number_at.ensures c.in_ok-extend_from_slice.ensures.items c.put_count.ensures.message c.put_count.ensures.len).0.records

pub all-self-inside-requires : goal.all-self-inside-requires
all-self-inside-requires c = omega (arith, c.requires.room, ap (λ (b : Built). b.limit) c.self.view_is, c.self.invariant.0.limited)

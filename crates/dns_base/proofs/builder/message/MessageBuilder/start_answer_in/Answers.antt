use Rattle.std.proofs.Common.{◌≡◌, refl}
use Rattle.dns_base.specs.Header.{header_of}
use Rattle.dns_base.specs.Built.{Built, empty, with_header}
use Rattle.dns_base.specs.Replies.{answer_header}
use Rattle.dns_base.proofs.Copied.{begun}
use Rattle.dns_base.proofs.builder.message.MessageBuilder.start_answer_in.Goals as goal

pub invariant_of-result : goal.invariant_of-result
invariant_of-result c =
    let e : Built = record { message = empty; limit = 65535 } in
    let s : c.set_answer_header.new.self ≡ with_header e (answer_header e.message.header (header_of c.args.message.now) c.args.rcode) = rw c.in_ok-draft.ensures at c.set_answer_header.ensures in
    (begun e c.args.message.now c.args.rcode c.set_answer_header.new.self c.copy_questions.new.self s c.in_ok-copy_questions.ensures.value (record { answers = refl; authority = refl; additional = refl })).0

pub returns : goal.returns
returns c =
    let e : Built = record { message = empty; limit = 65535 } in
    let s : c.set_answer_header.new.self ≡ with_header e (answer_header e.message.header (header_of c.args.message.now) c.args.rcode) = rw c.in_ok-draft.ensures at c.set_answer_header.ensures in
    let b = begun e c.args.message.now c.args.rcode c.set_answer_header.new.self c.copy_questions.new.self s c.in_ok-copy_questions.ensures.value (record { answers = refl; authority = refl; additional = refl }) in
    (b.1, b.2)

use Rattle.std.proofs.Common.{◌≡◌, subst}
use Rattle.dns_base.specs.Header.{header_of}
use Rattle.dns_base.specs.Built.{Built, NoRecords, with_header}
use Rattle.dns_base.specs.Replies.{answer_header}
use Rattle.dns_base.proofs.Copied.{begun}
use Rattle.dns_base.proofs.builder.message.MessageBuilder.start_answer.Goals as goal

pub invariant_of-result : goal.invariant_of-result
invariant_of-result c =
    let s : c.set_header.new.self ≡ with_header c.args.self (answer_header c.args.self.message.header (header_of c.args.message.now) c.args.rcode) = cc in
    (begun c.args.self c.args.message.now c.args.rcode c.set_header.new.self c.copy_questions.new.self s c.in_ok-copy_questions.ensures.value (subst (λ (b : Built). NoRecords b.message) c.self.view_is c.self.invariant.records)).0

pub returns : goal.returns
returns c =
    let s : c.set_header.new.self ≡ with_header c.args.self (answer_header c.args.self.message.header (header_of c.args.message.now) c.args.rcode) = cc in
    let b = begun c.args.self c.args.message.now c.args.rcode c.set_header.new.self c.copy_questions.new.self s c.in_ok-copy_questions.ensures.value (subst (λ (b : Built). NoRecords b.message) c.self.view_is c.self.invariant.records) in
    (b.1, b.2)

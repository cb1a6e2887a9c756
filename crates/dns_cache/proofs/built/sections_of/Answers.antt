use Rattle.std.proofs.Common.{◌≡◌, ◌-◌, ◌++◌, ap, ◌∙◌, length, take, drop, List, ℕ}
use Rattle.dns_base.specs.Sections.{message_of}
use Rattle.dns_cache.proofs.BuiltLaws.{answers_many, authority_many, theirs_all, theirs_many}
use Rattle.dns_cache.proofs.ReplyLaws.{tail_all}
use Rattle.dns_cache.proofs.built.sections_of.Goals as goal

pub split_at-requires : goal.split_at-requires
split_at-requires c =
    let m = message_of c.args.message.now in
    let all = theirs_all c.args.message.now c.args.start c.args.marks.now c.requires (drop c.args.start c.args.message.now) (λ _. drop c.args.start c.args.message.now) in
    theirs_many m.answers (m.authority ++ m.additional) c.args.marks.now (drop c.args.start c.args.message.now) c.header_counts-counts.result.ancount
    (answers_many c.args.message.now c.args.start c.args.marks.now c.requires c.header_counts-counts.result c.header_counts-counts.ensures) all

pub split_at-requires-2 : goal.split_at-requires-2
split_at-requires-2 c =
    let m = message_of c.args.message.now in
    let n = c.header_counts-counts.result in
    let s : take (length c.as_slice.result.now - c.args.start) (drop c.args.start c.as_slice.result.now) ≡ drop c.args.start c.args.message.now =
    ap (λ (x : List ℕ). take (length x - c.args.start) (drop c.args.start x)) c.as_slice.ensures.value ∙ tail_all c.args.start c.args.message.now in
    let all = theirs_all c.args.message.now c.args.start c.args.marks.now c.requires _ s in
    let first = c.split_at.ensures m.answers (m.authority ++ m.additional) (answers_many c.args.message.now c.args.start c.args.marks.now c.requires n c.header_counts-counts.ensures) all in
    theirs_many m.authority m.additional c.split_at.result.1.marks.now c.split_at.result.1.octets.now n.nscount
    (authority_many c.args.message.now c.args.start c.args.marks.now c.requires n c.header_counts-counts.ensures) first.1

pub returns-clause-answers : goal.returns-clause-answers
returns-clause-answers c =
    let m = message_of c.args.message.now in
    let n = c.header_counts-counts.result in
    let s : take (length c.as_slice.result.now - c.args.start) (drop c.args.start c.as_slice.result.now) ≡ drop c.args.start c.args.message.now =
    ap (λ (x : List ℕ). take (length x - c.args.start) (drop c.args.start x)) c.as_slice.ensures.value ∙ tail_all c.args.start c.args.message.now in
    let all = theirs_all c.args.message.now c.args.start c.args.marks.now c.requires _ s in
    (c.split_at.ensures m.answers (m.authority ++ m.additional) (answers_many c.args.message.now c.args.start c.args.marks.now c.requires n c.header_counts-counts.ensures) all).0

pub returns-clause-authority : goal.returns-clause-authority
returns-clause-authority c =
    let m = message_of c.args.message.now in
    let n = c.header_counts-counts.result in
    let s : take (length c.as_slice.result.now - c.args.start) (drop c.args.start c.as_slice.result.now) ≡ drop c.args.start c.args.message.now =
    ap (λ (x : List ℕ). take (length x - c.args.start) (drop c.args.start x)) c.as_slice.ensures.value ∙ tail_all c.args.start c.args.message.now in
    let all = theirs_all c.args.message.now c.args.start c.args.marks.now c.requires _ s in
    let first = c.split_at.ensures m.answers (m.authority ++ m.additional) (answers_many c.args.message.now c.args.start c.args.marks.now c.requires n c.header_counts-counts.ensures) all in
    (c.split_at-2.ensures m.authority m.additional (authority_many c.args.message.now c.args.start c.args.marks.now c.requires n c.header_counts-counts.ensures) first.1).0

pub returns-clause-additional : goal.returns-clause-additional
returns-clause-additional c =
    let m = message_of c.args.message.now in
    let n = c.header_counts-counts.result in
    let s : take (length c.as_slice.result.now - c.args.start) (drop c.args.start c.as_slice.result.now) ≡ drop c.args.start c.args.message.now =
    ap (λ (x : List ℕ). take (length x - c.args.start) (drop c.args.start x)) c.as_slice.ensures.value ∙ tail_all c.args.start c.args.message.now in
    let all = theirs_all c.args.message.now c.args.start c.args.marks.now c.requires _ s in
    let first = c.split_at.ensures m.answers (m.authority ++ m.additional) (answers_many c.args.message.now c.args.start c.args.marks.now c.requires n c.header_counts-counts.ensures) all in
    (c.split_at-2.ensures m.authority m.additional (authority_many c.args.message.now c.args.start c.args.marks.now c.requires n c.header_counts-counts.ensures) first.1).1

use Rattle.std.proofs.Common.{◌≡◌, ◌≤◌, ℕ, List, length, ap₂, subst, ◌∙◌}
use Rattle.dns_base.specs.Built.{Built}
use Rattle.dns_base.specs.Builds.{Builds}
use Rattle.dns_base.specs.Header.{header_of}
use Rattle.dns_base.specs.Sections.{message_of}
use Rattle.dns_base.specs.Wire.{wire}
use Rattle.dns_cache.specs.Aged.{asked_header}
use Rattle.dns_cache.specs.AgedRecords.{aged_records}
use Rattle.dns_cache.proofs.BuiltLaws.{aged_is, short_sections, theirs_aged, theirs_marked}
use Rattle.dns_cache.proofs.built.aged_built.Goals as goal

pub message_built-requires-clause-answers : goal.message_built-requires-clause-answers
message_built-requires-clause-answers c =
    let k = c.requires.kept in
    let m = message_of c.args.message.now in
    let short : length (wire m) ≤ 65535 = subst (λ (x : List ℕ). length x ≤ 65535) k.whole k.short in
    let s = c.sections_of-sections.result.answers in
    theirs_marked m.answers s.marks.now s.octets.now c.sections_of-sections.ensures.answers k.lawful.answers (short_sections m short).0

pub message_built-requires-clause-authority : goal.message_built-requires-clause-authority
message_built-requires-clause-authority c =
    let k = c.requires.kept in
    let m = message_of c.args.message.now in
    let short : length (wire m) ≤ 65535 = subst (λ (x : List ℕ). length x ≤ 65535) k.whole k.short in
    let s = c.sections_of-sections.result.authority in
    theirs_marked m.authority s.marks.now s.octets.now c.sections_of-sections.ensures.authority k.lawful.authority (short_sections m short).1

pub message_built-requires-clause-additional : goal.message_built-requires-clause-additional
message_built-requires-clause-additional c =
    let k = c.requires.kept in
    let m = message_of c.args.message.now in
    let short : length (wire m) ≤ 65535 = subst (λ (x : List ℕ). length x ≤ 65535) k.whole k.short in
    let s = c.sections_of-sections.result.additional in
    theirs_marked m.additional s.marks.now s.octets.now c.sections_of-sections.ensures.additional k.lawful.additional (short_sections m short).2

pub returns : goal.returns
returns c =
    let k = c.requires.kept in
    let o = c.args.message.now in
    let m = message_of o in
    let age = c.args.age in
    let r = c.sections_of-sections.result in
    let is = c.sections_of-sections.ensures in
    let header : c.asked-header.result ≡ asked_header (header_of o) (header_of c.args.request.now) = c.asked-header.ensures ∙ ap₂ asked_header c.header.ensures c.header-2.ensures in
    subst (λ (b : Built). Builds b c.message_built.result)
    (aged_is o c.args.request.now c.args.question.now age c.asked-header.result
    (aged_records age r.answers.marks.now r.answers.octets.now) (aged_records age r.authority.marks.now r.authority.octets.now) (aged_records age r.additional.marks.now r.additional.octets.now)
    header c.requires.asked
    (theirs_aged m.answers r.answers.marks.now r.answers.octets.now is.answers age k.lawful.answers)
    (theirs_aged m.authority r.authority.marks.now r.authority.octets.now is.authority age k.lawful.authority)
    (theirs_aged m.additional r.additional.marks.now r.additional.octets.now is.additional age k.lawful.additional))
    c.message_built.ensures

use Rattle.std.proofs.Common.{◌≡◌, ℕ, ◌-◌, List, ◌∷◌, ◌++◌, length, take, drop, ap, sym, subst, ◌∙◌}
use Rattle.dns_message.specs.declared.header.Header.{Header}
use Rattle.dns_base.specs.Header.{IsHeader, header_octets, header_of}
use Rattle.dns_base.specs.Sections.{message_of}
use Rattle.dns_base.specs.Wire.{question_octets}
use Rattle.dns_cache.specs.Aged.{asked_header}
use Rattle.dns_cache.specs.Marks.{MarksFit, aged_octets}
use Rattle.dns_cache.proofs.ReplyLaws.{kept_fit, kept_header, octets_aged, tail_all}
use Rattle.dns_cache.proofs.TypedLaws.{aged_lawful}
use Rattle.dns_cache.proofs.aged.octets_of.Goals as goal

pub push_aged-requires : goal.push_aged-requires
push_aged-requires c =
    let s : take (length c.as_slice.result.now - c.args.start) (drop c.args.start c.as_slice.result.now) ≡ drop c.args.start c.args.message.now = ap (λ (x : List ℕ). take (length x - c.args.start) (drop c.args.start x)) c.as_slice.ensures.value ∙ tail_all c.args.start c.args.message.now in
    subst (MarksFit c.args.marks.now) (sym s) (kept_fit c.args.message.now c.args.start c.args.marks.now c.requires.kept)

pub returns-clause-octets : goal.returns-clause-octets
returns-clause-octets c =
    let o = c.args.message.now in
    let q = c.args.question.now in
    let ks = c.args.marks.now in
    let s : take (length c.as_slice.result.now - c.args.start) (drop c.args.start c.as_slice.result.now) ≡ drop c.args.start o = ap (λ (x : List ℕ). take (length x - c.args.start) (drop c.args.start x)) c.as_slice.ensures.value ∙ tail_all c.args.start o in
    c.in_ok-push_aged.ensures
    ∙ (ap (λ (l : List ℕ). c.in_ok-octets.octets.items ++ aged_octets c.args.age ks l) s
    ∙ (ap (λ (l : List ℕ). l ++ aged_octets c.args.age ks (drop c.args.start o)) c.in_ok-octets.ensures.octets
    ∙ (ap (λ (h : Header). (header_octets (asked_header (header_of o) h) ++ (0 ∷ 1 ∷ (take 6 (drop 6 o) ++ question_octets q))) ++ aged_octets c.args.age ks (drop c.args.start o)) c.header.ensures
    ∙ octets_aged o c.args.start ks c.requires.kept c.args.request.now c.args.age q c.requires.asked)))

pub returns-clause-lawful : goal.returns-clause-lawful
returns-clause-lawful c =
    let o = c.args.message.now in
    let h : IsHeader (asked_header (header_of o) (header_of c.args.request.now)) = subst (λ (x : Header). IsHeader (asked_header (header_of o) x)) c.header.ensures c.in_ok-octets.ensures.header in
    aged_lawful (message_of o) c.args.request.now c.args.age c.args.question.now c.requires.kept.lawful (kept_header o c.args.start c.args.marks.now c.requires.kept (header_of c.args.request.now) h) c.in_ok-octets.ensures.named c.requires.asked

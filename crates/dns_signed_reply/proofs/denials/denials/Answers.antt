use Rattle.std.proofs.Common.{◌≡◌, ℕ, [], List, ap, sym, subst, ◌∙◌}
use Rattle.std.specs.List.{flat_map}
use Rattle.dns_message.specs.declared.record.Record.{Record}
use Rattle.dns_route.specs.Routes.{ends_name}
use Rattle.dns_zone_tree.specs.Walks.{EndsAt}
use Rattle.dns_signed_reply.specs.SignedReplies.{denied, nearest, nsec_records_of}
use Rattle.dns_signed_reply.proofs.NearLaws.{denials_all, denials_alone}
use Rattle.dns_signed_reply.proofs.denials.denials.Goals as goal

pub deny_found-requires : goal.deny_found-requires
deny_found-requires c = record {
  inside = ap (λ (n : List (List ℕ)). ends_name n c.args.zone.now.zone.apex) c.requires.named ∙ c.requires.inside;
  ends = subst (λ (t : ℕ). EndsAt c.args.zone.now.zone t c.args.name.now c.args.found.now) (sym (c.to_int-rtype.ensures.value ∙ c.qtype.ensures)) c.requires.ends;
}

pub returns-then-follows : goal.returns-then-follows
returns-then-follows c =
    let s = c.args.zone.now in
    let q = c.args.question.now in
    let t = c.to_int-rtype.result in
    let n = c.args.name.now in
    let mid = c.deny_found.new.into.items in
    let f : mid ≡ nsec_records_of s.zone [] (flat_map (nearest s.nsecs) (denied s.zone t n)) = c.in_ok-deny_found.ensures ∙ ap (λ (l : List Record). nsec_records_of s.zone l (flat_map (nearest s.nsecs) (denied s.zone t n))) c.new-given.ensures.items in
    denials_all s q c.args.answers.now t (c.to_int-rtype.ensures.value ∙ c.qtype.ensures) n c.requires.named mid c.deny_targets.new.into.items f c.in_ok-deny_targets.ensures (sym c.follows.ensures ∙ c.if-follows.true)

pub returns : goal.returns
returns c =
    let s = c.args.zone.now in
    let q = c.args.question.now in
    let t = c.to_int-rtype.result in
    let n = c.args.name.now in
    let mid = c.deny_found.new.into.items in
    let f : mid ≡ nsec_records_of s.zone [] (flat_map (nearest s.nsecs) (denied s.zone t n)) = c.in_ok-deny_found.ensures ∙ ap (λ (l : List Record). nsec_records_of s.zone l (flat_map (nearest s.nsecs) (denied s.zone t n))) c.new-given.ensures.items in
    denials_alone s q c.args.answers.now t (c.to_int-rtype.ensures.value ∙ c.qtype.ensures) n c.requires.named mid f (sym c.follows.ensures ∙ c.if-follows.false)

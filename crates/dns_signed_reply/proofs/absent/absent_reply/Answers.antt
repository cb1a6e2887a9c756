use Rattle.std.proofs.Common.{◌≡◌, ℕ, true, List, ◌∷◌, [], map, ap, sym, subst, ◌∙◌}
use Rattle.std.specs.List.{flat_map}
use Rattle.std.specs.Option.{option_copied}
use Rattle.dns_base.specs.Builds.{Builds, unlimited}
use Rattle.dns_base.specs.Records.{record_of}
use Rattle.dns_route.specs.Routes.{ends_name}
use Rattle.dns_zone.specs.Owned.{ZoneState}
use Rattle.dns_zone.specs.ZoneReply.{ZoneReply}
use Rattle.dns_zone.specs.ZoneTurns.{zone_message}
use Rattle.dns_zone_tree.specs.Wildcards.{wildcard}
use Rattle.dns_denial.specs.Chains.{IsWhole}
use Rattle.dns_denial.specs.Nsecs.{NsecState}
use Rattle.dns_signed_reply.specs.DirectReplies.{AreOwners, IsAbsent, absent_authority, negatives}
use Rattle.dns_signed_reply.specs.PlainReplies.{said}
use Rattle.dns_signed_reply.specs.SignedReplies.{nearest}
use Rattle.dns_signed_reply.proofs.AbsentLaws.{reply_is}
use Rattle.dns_signed_reply.proofs.NearLaws.{missing_answered}
use Rattle.dns_signed_reply.proofs.RoomLaws.{built_of}
use Rattle.dns_signed_reply.proofs.absent.absent_reply.Goals as goal

pub denying-requires : goal.denying-requires
denying-requires c =
    let s = c.args.zone.now in
    let a = c.requires.absent in
    let w = subst (λ (ns : List NsecState). IsWhole s.zone ns) c.chain-whole.ensures.value c.chain-whole.ensures.whole in
    record {
      inside = c.requires.inside;
      answered = missing_answered s.zone c.args.rtype c.args.name.now s.nsecs w a.skipped a.reached;
      missing = a.reached.missing;
    }

pub returns : goal.returns
returns c = λ q room e n.
    let s = c.args.zone.now in
    let z = s.zone in
    let o = c.args.query.now in
    let x = option_copied c.in_ok-owners.owners.name in
    let y = option_copied c.in_ok-owners.owners.wildcard in
    let soa = c.negative-soa.result.now in
    let f : negatives z ≡ soa ∷ [] = sym (ap negatives c.zone-tree.ensures) ∙ c.negative-soa.ensures.value in
    let a = subst (λ (t : ℕ). IsAbsent z t q.qname) (sym e) (subst (λ (k : List (List ℕ)). IsAbsent z c.args.rtype k) (sym n) c.requires.absent) in
    let w : ends_name q.qname z.apex ≡ true = ap (λ (k : List (List ℕ)). ends_name k z.apex) n ∙ c.requires.inside in
    let h = subst (λ (k : List (List ℕ)). AreOwners z (flat_map (nearest s.nsecs) (k ∷ wildcard z k ∷ [])) x y) (sym n) c.in_ok-owners.ensures in
    let p : ZoneReply → ZoneReply = λ r. record r { authority = absent_authority z x y } in
    let g : c.in_ok-authority.authority ≡ map record_of (absent_authority z x y) = c.in_ok-authority.ensures ∙ ap (λ (k : ZoneState). map record_of (absent_authority k x y)) c.zone-tree.ensures in
    let b = built_of o (p (said c.name_error-reply.result)) c.new-none.result c.in_ok-authority.authority c.new-none.result c.built.result
    (c.new-none.ensures ∙ sym (ap (λ (r : ZoneReply). map record_of r.answers) c.name_error-reply.ensures)) g (c.new-none.ensures ∙ sym (ap (λ (r : ZoneReply). map record_of r.additional) c.name_error-reply.ensures)) c.built.ensures in
    subst (λ (r : ZoneReply). Builds (unlimited (zone_message o r)) c.built.result) (ap p c.name_error-reply.ensures ∙ reply_is s q soa f a x y h w room o) b

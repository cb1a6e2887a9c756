use Rattle.std.proofs.Common.{◌≡◌, ℕ, List, ap, ◌∙◌}
use Rattle.dns_signed_reply.specs.SignedReplies.{owned_records}
use Rattle.dns_signed_reply.proofs.NearLaws.{nsec_added}
use Rattle.dns_signed_reply.proofs.denials.add_nsec.Goals as goal

pub returns : goal.returns
returns c =
    let z = c.args.zone.now in
    let n = c.args.nsec.now in
    let f : c.in_ok-found.found.items ≡ owned_records z n.owner 47 = c.in_ok-found.ensures ∙ ap (λ (x : List (List ℕ)). owned_records z x 47) (c.for_ref.ensures.value ∙ c.owner.ensures) in
    nsec_added z n c.args.into.now.items c.as_slice.result.now c.in_ok-found.found.items c.leave_out.new.records.items c.append.new.self.items c.as_slice.ensures.value f c.leave_out.ensures c.in_ok-append.ensures.items

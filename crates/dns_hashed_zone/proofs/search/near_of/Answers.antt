use Rattle.std.proofs.Common.{List, ℕ, ap, get_or, ◌∙◌}
use Rattle.dns_denial.proofs.HashedChoice.{matched_by}
use Rattle.dns_hashed_zone.specs.Searches.{nearest_place}
use Rattle.dns_hashed_zone.proofs.PlaceLaws.{nearest_at}
use Rattle.dns_hashed_zone.proofs.search.near_of.Goals as goal

pub returns-clause-place : goal.returns-clause-place
returns-clause-place c = c.nearest-place.ensures.place ∙ ap (λ (o : List ℕ). nearest_place c.args.nsecs.now o) c.in_ok-hash.ensures

pub returns-clause-matched : goal.returns-clause-matched
returns-clause-matched c =
    let ns = c.args.nsecs.now in
    let o = c.in_ok-hash.hash in
    let n = c.index-nsecs-place.result in
    c.is_of-matched.ensures
    ∙ matched_by c.args.hashing.now ns c.args.name.now n o c.in_ok-hash.ensures
    (nearest_at ns o c.requires.sorted c.requires.some n (c.index-nsecs-place.is ∙ ap (λ (k : ℕ). get_or ns k n) c.nearest-place.ensures.place))

use Rattle.std.proofs.Common.{◌≡◌, ◌∙◌, ℕ, List, None, Some, ap}
use Rattle.std.specs.List.{find}
use Rattle.dns_nsec3_data.specs.Nsec3Data.{is_used}
use Rattle.dns_generation.specs.Signings.{hashed_by, said_by}
use Rattle.dns_generation.proofs.signing.hashed_by.Goals as goal

pub returns-in-Some : goal.returns-in-Some
returns-in-Some c =
    let z = c.args.zone.now in
    let h : Some c.in-Some.resource.now ≡ find (is_used z.apex) z.records =
    c.in-Some.ensures ∙ (ap (λ (a : List (List ℕ)). find (is_used a) c.records.result.now) c.apex.ensures ∙ ap (find (is_used z.apex)) c.records.ensures.value) in
    c.said_by.ensures ∙ (ap said_by c.unknown_octets.ensures ∙ ap hashed_by h)

pub returns-in-None : goal.returns-in-None
returns-in-None c =
    let z = c.args.zone.now in
    let h : None ≡ find (is_used z.apex) z.records =
    c.in-None.ensures ∙ (ap (λ (a : List (List ℕ)). find (is_used a) c.records.result.now) c.apex.ensures ∙ ap (find (is_used z.apex)) c.records.ensures.value) in
    c.said_by-in-None.ensures ∙ ap hashed_by h

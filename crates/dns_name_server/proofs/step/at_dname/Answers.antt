use Rattle.std.proofs.Common.{◌≡◌, ℕ, List, ap, sym, ◌∙◌}
use Rattle.std.specs.Prelude.{Some, None}
use Rattle.dns_message.specs.declared.record.Record.{Record}
use Rattle.dns_zone.specs.Owned.{target}
use Rattle.dns_zone.specs.Places.{at_places}
use Rattle.dns_zone.specs.ZoneReply.{ZoneReply}
use Rattle.dns_zone_tree.specs.Kinds.{kind_places, places_of}
use Rattle.dns_zone_tree.specs.declared.kinds.TypedPlace.{TypedPlace}
use Rattle.dns_zone_tree.proofs.KeptLaws.{if_ok}
use Rattle.dns_name_server.specs.NameServerReplies.{behind_alias, by_dname, by_target}
use Rattle.dns_name_server.specs.Steps.{StepsTo, behind, head_of, wired}
use Rattle.dns_name_server.specs.declared.step.Step.{Step}
use Rattle.dns_name_server.proofs.StepLaws.{dname_head, dname_none}
use Rattle.dns_name_server.proofs.step.at_dname.Goals as goal

pub returns-in-Some : goal.returns-in-Some
returns-in-Some c =
    let z = c.args.zone.now in
    let t = c.args.rtype in
    let n = c.args.name.now in
    let d = c.in-Some.dname.now in
    let rs = at_places z.records (kind_places 39 c.args.kinds.now) in
    let e : Some d ≡ head_of rs = c.in-Some.ensures.value
    ∙ (ap (λ (x : List Record). head_of (at_places x (places_of c.to_int.result c.as_slice.result.now))) c.records.ensures.value
    ∙ (ap (λ (ks : List TypedPlace). head_of (at_places z.records (places_of c.to_int.result ks))) c.as_slice.ensures
    ∙ ap (λ (u : ℕ). head_of (at_places z.records (places_of u c.args.kinds.now.places.items))) c.to_int.ensures.value)) in
    if_ok (λ (s : Step). StepsTo z c.args.given.now c.give_dname.new.given s (λ go. behind_alias d (by_target go t n d (target d.rdata))))
    (λ (s : Step). StepsTo z c.args.given.now c.give_dname.new.given s (λ go. by_dname go t n rs)) c.give_dname.result (c.give_dname.ensures z)
    (λ s g go. g go ∙ ap (λ (r : ZoneReply). behind c.args.given.now (wired r)) (sym (dname_head go t n rs d e)))

pub returns-in-None : goal.returns-in-None
returns-in-None c = λ go.
    let z = c.args.zone.now in
    let rs = at_places z.records (kind_places 39 c.args.kinds.now) in
    let e : None ≡ head_of rs = c.in-None.ensures.value
    ∙ (ap (λ (x : List Record). head_of (at_places x (places_of c.to_int.result c.as_slice.result.now))) c.records.ensures.value
    ∙ (ap (λ (ks : List TypedPlace). head_of (at_places z.records (places_of c.to_int.result ks))) c.as_slice.ensures
    ∙ ap (λ (u : ℕ). head_of (at_places z.records (places_of u c.args.kinds.now.places.items))) c.to_int.ensures.value)) in
    ap (λ (r : ZoneReply). behind c.args.given.now (wired r)) (sym (dname_none go c.args.rtype c.args.name.now rs e))

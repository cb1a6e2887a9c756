use Rattle.std.proofs.Common.{◌≡◌, ◌<◌, ℕ, Bool, List, true, false, refl, ap, length, sym, subst, ◌∙◌}
use Rattle.std.specs.Prelude.{◌&&◌}
use Rattle.std.specs.List.{list_any}
use Rattle.dns_base.specs.Builds.{Builds, unlimited}
use Rattle.dns_zone.specs.Aliases.{followed}
use Rattle.dns_zone.specs.Owned.{is_asked}
use Rattle.dns_zone.specs.Places.{places}
use Rattle.dns_zone.specs.ZoneReply.{ZoneReply, authoritative, follows}
use Rattle.dns_zone.specs.ZoneTurns.{zone_message}
use Rattle.dns_zone.proofs.PlaceLaws.{places_none, places_some}
use Rattle.dns_zone.proofs.ReplyLaws.{reply_alias, reply_denied, reply_found}
use Rattle.dns_zone.proofs.zone.Zone.reply_within.Goals as goal
use Rattle.dns_zone.proofs.zone.Zone.reply_within.Goals.{then-follows+in_default, else-follows}

and_first : (a b : Bool) → a ≡ false → (a && b) ≡ false
and_first true b h = absurd (cc)
and_first false b h = refl

and_second : (a b : Bool) → b ≡ false → (a && b) ≡ false
and_second true b h = h
and_second false b h = refl

pub returns-in-Some : goal.returns-in-Some
returns-in-Some c = λ q e t n kept.
    let z = c.args.self.now in
    let five : c.to_int.result ≡ 5 = c.to_int.ensures.value in
    let p : c.in-Some.aliases.now ≡ places (is_asked q.qname 5) z.records = c.in-Some.ensures.0 ∙ (kept c.to_int.result ∙ ap (λ x. places (is_asked q.qname x) z.records) five) in
    let some : 0 < length (places (is_asked q.qname 5) z.records) = subst (λ (is : List ℕ). 0 < length is) p c.in-Some.ensures.1 in
    let a : list_any (is_asked q.qname 5) z.records ≡ true = places_some (is_asked q.qname 5) z.records some in
    let f : follows q.qtype ≡ true = ap follows t ∙ (sym c.follows.ensures ∙ c.if-follows.true) in
    subst (λ (r : ZoneReply). Builds (unlimited (zone_message c.args.query.now r)) c.followed.result) (sym (reply_alias z q n f a ∙ ap (λ x. authoritative (followed z x 8 q.qname)) t))
    (c.followed.ensures q.qname (record { places = p; some = c.in-Some.ensures.1 }))

pub returns-in-Some-places_in : goal.returns-in-Some-places_in
returns-in-Some-places_in c = λ q e t n kept.
    let z = c.args.self.now in
    let p : c.in-Some-places_in.found.now ≡ places (is_asked q.qname q.qtype) z.records = c.in-Some-places_in.ensures.0 ∙ (kept c.args.rtype ∙ ap (λ x. places (is_asked q.qname x) z.records) (sym t)) in
    let a : list_any (is_asked q.qname q.qtype) z.records ≡ true = places_some (is_asked q.qname q.qtype) z.records (subst (λ (is : List ℕ). 0 < length is) p c.in-Some-places_in.ensures.1) in
    let f : (follows q.qtype && list_any (is_asked q.qname 5) z.records) ≡ false = elim c.if-follows.branch [
      | then-follows+in_default w ↦ and_second (follows q.qtype) (list_any (is_asked q.qname 5) z.records) (places_none (is_asked q.qname 5) z.records (sym (kept w.to_int.result ∙ ap (λ x. places (is_asked q.qname x) z.records) w.to_int.ensures.value) ∙ w.in_default.ensures))
      | else-follows w ↦ and_first (follows q.qtype) (list_any (is_asked q.qname 5) z.records) (ap follows t ∙ (sym c.follows.ensures ∙ w.if-follows.false))
    ]
    in
    subst (λ (r : ZoneReply). Builds (unlimited (zone_message c.args.query.now r)) c.found.result) (sym (reply_found z q n f c.in-Some-places_in.found.now a p)) c.found.ensures

pub returns-in-None : goal.returns-in-None
returns-in-None c = λ q e t n kept.
    let z = c.args.self.now in
    let m : list_any (is_asked q.qname q.qtype) z.records ≡ false = places_none (is_asked q.qname q.qtype) z.records (sym (kept c.args.rtype ∙ ap (λ x. places (is_asked q.qname x) z.records) (sym t)) ∙ c.in-None.ensures) in
    let f : (follows q.qtype && list_any (is_asked q.qname 5) z.records) ≡ false = elim c.if-follows.branch [
      | then-follows+in_default w ↦ and_second (follows q.qtype) (list_any (is_asked q.qname 5) z.records) (places_none (is_asked q.qname 5) z.records (sym (kept w.to_int.result ∙ ap (λ x. places (is_asked q.qname x) z.records) w.to_int.ensures.value) ∙ w.in_default.ensures))
      | else-follows w ↦ and_first (follows q.qtype) (list_any (is_asked q.qname 5) z.records) (ap follows t ∙ (sym c.follows.ensures ∙ w.if-follows.false))
    ]
    in
    subst (λ (r : ZoneReply). Builds (unlimited (zone_message c.args.query.now r)) c.denied.result) (sym (reply_denied z q n f m c.has.result (sym (c.has.ensures q.qname e)))) c.denied.ensures

-- When the reply of a name server is that of a single service.
use Rattle.std.proofs.Common.{◌≡◌, ℕ, Bool, true, false, List, [], ◌∷◌, ◌++◌, refl, ap, sym, ◌∙◌, nat_eq}
use Rattle.std.specs.Prelude.{◌&&◌, not, if◌then◌else◌}
use Rattle.dns_message.specs.declared.question.Question.{Question}
use Rattle.dns_message.specs.declared.record.Record.{Record}
use Rattle.dns_zone.specs.Owned.{ZoneState, target}
use Rattle.dns_zone.specs.Cuts.{cut_records, is_cut_off}
use Rattle.dns_zone.specs.ZoneReply.{ZoneReply, authoritative, follows, referral}
use Rattle.dns_zone_tree.specs.Regions.{Within, BelowCut, asked_region, down, region}
use Rattle.dns_zone_tree.specs.Wildcards.{are_some, had_records}
use Rattle.dns_name_server.specs.NameServerReplies.{behind_alias, by_alias, by_region, found_or_denied, gone_to, is_answered, name_server_reply, reply_from}
use Rattle.dns_name_server.specs.WildReplies.{AreInZone, DirectRepliesAreTheZones, DirectRepliesAreWild, IsDirect, wild_followed, wild_reply}
use Rattle.dns_name_server.proofs.RegionLaws.{region_is}
use Rattle.dns_name_server.proofs.StepLaws.{reply_on}
use Rattle.dns_name_server.proofs.WildLaws.{wildcards_alone}

-- an alias that isn't followed
alias_none : (z : ZoneState) (go : List (List ℕ) → ZoneReply) (t : ℕ) (name : List (List ℕ)) (cs : List Record) → (follows t && are_some cs) ≡ false → by_alias z go t name cs ≡ found_or_denied z t name
alias_none z go t name [] h = refl
alias_none z go t name (c ∷ cs) h = by_test (follows t) h
  where
    by_test : (b : Bool) → (b && true) ≡ false → (if b then behind_alias c (gone_to go (target c.rdata)) else found_or_denied z t name) ≡ found_or_denied z t name
    by_test true e = absurd (cc)
    by_test false e = refl

-- a type other than DS is asked for where the name is
own_region : (z : ZoneState) (t : ℕ) (name : List (List ℕ)) → nat_eq t 43 ≡ false → asked_region z t name ≡ region z name
own_region z t [] h = refl
own_region z t (l ∷ ls) h = ap (λ (b : Bool). down z (not b) (l ∷ ls) ls (region z ls)) h

module _ (z : ZoneState) (q : Question) (within : AreInZone z) (d : IsDirect z q) where
  go : List (List ℕ) → ZoneReply
  go name = reply_from z q.qtype 127 ([] ++ q.qname ∷ []) name

  asked : is_answered z [] q.qname ≡ true
  asked = ap (λ (b : Bool). b && true) d.within

  first : name_server_reply z q ≡ by_region z go q.qtype q.qname (asked_region z q.qtype q.qname)
  unfolding go
  first = reply_on z q.qtype 128 127 [] q.qname refl asked

  reach : asked_region z q.qtype q.qname ≡ (if is_cut_off z q.qname then BelowCut (cut_records z q.qname) else Within)
  reach = own_region z q.qtype q.qname d.no_ds ∙ region_is z q.qname within d.within d.no_dname

  by_reach : (b : Bool) → by_region z go q.qtype q.qname (if b then BelowCut (cut_records z q.qname) else Within) ≡ (if b then referral z (cut_records z q.qname) else found_or_denied z q.qtype q.qname)
  by_reach true = refl
  by_reach false = alias_none z go q.qtype q.qname (had_records z q.qname 5) d.no_alias

  wild_here : wild_reply z q ≡ (if is_cut_off z q.qname then referral z (cut_records z q.qname) else found_or_denied z q.qtype q.qname)
  wild_here = ap (λ (b : Bool). if is_cut_off z q.qname then referral z (cut_records z q.qname) else (if b then authoritative (wild_followed z q.qtype 8 q.qname) else found_or_denied z q.qtype q.qname)) d.no_alias

  direct : name_server_reply z q ≡ wild_reply z q
  direct = first ∙ (ap (by_region z go q.qtype q.qname) reach ∙ (by_reach (is_cut_off z q.qname) ∙ sym wild_here))

pub direct_replies_are_wild : DirectRepliesAreWild
direct_replies_are_wild z q w d = direct z q w d

pub direct_replies_are_the_zones : DirectRepliesAreTheZones
direct_replies_are_the_zones z q w d none = direct z q w d ∙ wildcards_alone z q none

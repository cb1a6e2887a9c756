-- What the names of a chain of aliases give, one after another, and what the chain ends with.
use Rattle.std.specs.Prelude.{ℕ, ◌≡◌, Bool, true, false, ◌||◌, List, [], ◌∷◌, ◌++◌, map, if◌then◌else◌, Option, Some, None}
use Rattle.dns_base.specs.Msg.{Msg, ResourceRecord}
use Rattle.dns_base.specs.Records.{record_of}
use Rattle.dns_message.specs.declared.record.Record.{Record}
use Rattle.dns_zone.specs.Owned.{ZoneState}
use Rattle.dns_zone.specs.Places.{at_places}
use Rattle.dns_zone.specs.ZoneReply.{ZoneReply, authoritative, denied, follows, referral}
use Rattle.dns_zone.specs.ZoneTurns.{zone_begun}
use Rattle.dns_zone_tree.specs.Kinds.{kind_places}
use Rattle.dns_zone_tree.specs.Wildcards.{are_some, given_as}
use Rattle.dns_name_server.specs.NameServerReplies.{too_long}
use Rattle.dns_name_server.specs.declared.step.End.{End}
use Rattle.dns_name_server.specs.declared.step.End.TheVariants.{Own, Nothing, Delegation, Denied, TooLong}
use Rattle.dns_name_server.specs.declared.step.Step.{Step}
use Rattle.dns_name_server.specs.declared.step.Step.TheVariants.{End as Ends, On}

-- a reply whose records are in wire form
pub record WireReply : Type 0 where
  pub aa : Bool
  pub rcode : ℕ
  pub answers : List ResourceRecord
  pub authority : List ResourceRecord
  pub additional : List ResourceRecord

abbrev pub wired : ZoneReply → WireReply
wired r = record {
  aa = r.aa;
  rcode = r.rcode;
  answers = map record_of r.answers;
  authority = map record_of r.authority;
  additional = map record_of r.additional;
}

abbrev pub are_any : List ResourceRecord → Bool
are_any [] = false
are_any (r ∷ rs) = true

-- records in front of the answers that follow from them: then the reply is authoritative
abbrev pub behind : List ResourceRecord → WireReply → WireReply
behind given r = record r { aa = are_any given || r.aa; answers = given ++ r.answers }

-- the message of such a reply to a query's octets
abbrev pub wire_message : List ℕ → WireReply → Msg
wire_message o r = record (zone_begun o r.rcode r.aa) { answers = r.answers; authority = r.authority; additional = r.additional }

abbrev pub head_of : List Record → Option Record
head_of [] = None
head_of (r ∷ rs) = Some r

-- the alias among the CNAME records of a name, if it is followed for a type
abbrev pub followed_alias : ℕ → List Record → Option Record
followed_alias t rs = if follows t then head_of rs else None

-- the records of a name that exists, or that there are none of the type
abbrev pub own_reply : ZoneState → List Record → ZoneReply
own_reply z rs = if are_some rs then authoritative rs else denied z 0

-- a record with another owner, if one is given
abbrev pub owned_by : Option (List (List ℕ)) → Record → Record
owned_by None r = r
owned_by (Some name) r = given_as name r

-- the reply that is an end alone
abbrev pub end_reply : ZoneState → End → ZoneReply
end_reply z (Own m t) = authoritative (at_places z.records (kind_places t m.now))
end_reply z Nothing = authoritative []
end_reply z (Delegation m) = referral z (at_places z.records (kind_places 2 m.now))
end_reply z (Denied there) = denied z (if there then 0 else 3)
end_reply z TooLong = too_long

-- the reply that a step leads to, where go replies for the next name
abbrev pub step_reply : ZoneState → (List (List ℕ) → ZoneReply) → Step → ZoneReply
step_reply z go (Ends e) = end_reply z e
step_reply z go (On name) = go name

-- the records that are given in a step, and what it leads to, are the reply
abbrev pub StepsTo : ZoneState → List ResourceRecord → List ResourceRecord → Step → ((List (List ℕ) → ZoneReply) → ZoneReply) → Type 0
StepsTo z old new s reply = (go : List (List ℕ) → ZoneReply) → behind new (wired (step_reply z go s)) ≡ behind old (wired (reply go))

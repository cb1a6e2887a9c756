-- What is done with a reply.
use Rattle.std.specs.Prelude.{ℕ, ◌≡◌, Bool, true, false, Contains, List, [], ◌∷◌, ◌++◌, Option, Some, None, nat_eq, if◌then◌else◌}
use Rattle.dns_name.specs.declared.address.IpAddr.{IpAddr}
use Rattle.std.specs.NonZero.{non_zero_usize_get}
use Rattle.dns_rate_limit.specs.Limited.{LimitsState, behind_judged, judged, table_of}
use Rattle.dns_rate_limit.specs.declared.limits.Settings.{Settings}
use Rattle.dns_rate_limit.specs.declared.kind.Kind.{Kind}
use Rattle.dns_rate_limit.specs.declared.rate.Verdict.{Verdict}
use Rattle.dns_rate_limit.specs.declared.rate.Verdict.TheVariants.{Whole}
use Rattle.dns_rate_limit.specs.declared.zone_client.ZoneClient.{ZoneClient}

module _ (same : IpAddr → IpAddr → Bool) (same_client : ZoneClient → ZoneClient → Bool) where
  -- what tables say of a reply to a client without a good cookie, if there are any
  abbrev pub verdict_by : Option LimitsState → IpAddr → Kind → ℕ → Verdict
  verdict_by None address kind second = Whole
  verdict_by (Some l) address kind second = judged same same_client l address false kind second

  abbrev pub tables_behind : Option LimitsState → IpAddr → Kind → ℕ → Option LimitsState
  tables_behind None address kind second = None
  tables_behind (Some l) address kind second = Some (behind_judged same same_client l address false kind second)

-- a verdict is what some tables say of a reply: no clause names those that stood under a lock
pub record IsJudged (same : IpAddr → IpAddr → Bool) (same_client : ZoneClient → ZoneClient → Bool) (address : IpAddr) (kind : Kind)
    (second : ℕ) (v : Verdict) : Type 0 where
  pub tables : Option LimitsState
  pub said : v ≡ verdict_by same same_client tables address kind second

-- the tables of settings, which are empty
abbrev pub limits_of : Settings → LimitsState
limits_of s =
    let n = non_zero_usize_get s.capacity in
    record {
      answers = table_of n s.answers;
      referrals = table_of n s.referrals;
      negatives = table_of n s.negatives;
      errors = table_of n s.errors;
      ipv4_bits = s.ipv4_bits;
      ipv6_bits = s.ipv6_bits;
      exempt = s.exempt.items;
    }

-- ---- notes

-- the networks that were noted in a minute
pub record NotedState : Type 0 where
  pub minute : ℕ
  pub networks : List IpAddr

-- those of a minute; at another minute none was noted yet
abbrev pub noted_at : ℕ → NotedState → NotedState
noted_at minute n = if nat_eq n.minute minute then n else record { minute = minute; networks = [] }

-- a network that is noted wasn't before, in this minute, and is then
pub record IsNoted (network : IpAddr) (a b : NotedState) : Type 0 where
  pub first : Contains a.networks network → ⊥
  pub noted : b ≡ record a { networks = a.networks ++ network ∷ [] }

abbrev pub MayNote : IpAddr → NotedState → NotedState → Bool → Type 0
MayNote network a b true = IsNoted network a b
MayNote network a b false = b ≡ a

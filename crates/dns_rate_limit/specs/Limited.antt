-- What is done with a response by the table of its kind. Each kind has a table of its own, of client networks, and negative responses
-- one of networks and zones.
use Rattle.std.specs.Prelude.{ℕ, ◌||◌, Bool, List, [], Option, Some, None, option_map, if◌then◌else◌}
use Rattle.std.specs.Map.{lookup}
use Rattle.lru.specs.LruCache.{lru_cache}
use Rattle.dns_name.specs.declared.address.IpAddr.{IpAddr}
use Rattle.dns_rate_limit.specs.declared.kind.Kind.{Kind}
use Rattle.dns_rate_limit.specs.declared.kind.Kind.TheVariants.{Answer, Referral, Negative, Error}
use Rattle.dns_networks.specs.declared.network.Network.{Network}
use Rattle.dns_rate_limit.specs.declared.rate.Rate.{Rate}
use Rattle.dns_rate_limit.specs.declared.rate.Verdict.{Verdict}
use Rattle.dns_rate_limit.specs.declared.rate.Verdict.TheVariants.{Whole}
use Rattle.dns_rate_limit.specs.declared.zone_client.ZoneClient.{ZoneClient}
use Rattle.dns_rate_limit.specs.Accounts.{charged_from, verdict_by}
use Rattle.dns_networks.specs.Networks.{is_in_any, network_of}
use Rattle.dns_rate_limit.specs.Tables.{LimiterState, behind}

module _ {K : Type 0} (same : K → K → Bool) where
  -- a kind without a table isn't limited
  abbrev pub verdict_in : Option (LimiterState K) → K → ℕ → Verdict
  verdict_in None client second = Whole
  verdict_in (Some l) client second = verdict_by l.rate (charged_from l.rate (lookup (same client) l.accounts.entries) second)

  -- the table after a response
  abbrev pub behind_in : Option (LimiterState K) → K → ℕ → Option (LimiterState K)
  behind_in None client second = None
  behind_in (Some l) client second = Some (record l { accounts = behind same l.rate l.accounts client second })

-- an empty table if there is a rate
abbrev pub table_of : {K : Type 0} → ℕ → Option Rate → Option (LimiterState K)
table_of capacity None = None
table_of capacity (Some r) = Some (record { rate = r; accounts = lru_cache [] capacity })

-- the tables, the prefix lengths of the networks, and the networks that are never limited
pub record LimitsState : Type 0 where
  pub answers : Option (LimiterState IpAddr)
  pub referrals : Option (LimiterState IpAddr)
  pub negatives : Option (LimiterState ZoneClient)
  pub errors : Option (LimiterState IpAddr)
  pub ipv4_bits : ℕ
  pub ipv6_bits : ℕ
  pub exempt : List Network

abbrev pub network_in : LimitsState → IpAddr → IpAddr
network_in l address = network_of l.ipv4_bits l.ipv6_bits address

module _ (same : IpAddr → IpAddr → Bool) (same_client : ZoneClient → ZoneClient → Bool) where
  abbrev pub verdict_of : LimitsState → IpAddr → ℕ → Kind → Verdict
  verdict_of l network second Answer = verdict_in same l.answers network second
  verdict_of l network second Referral = verdict_in same l.referrals network second
  verdict_of l network second (Negative zone) = verdict_in same_client l.negatives (record { network = network; zone = zone }) second
  verdict_of l network second Error = verdict_in same l.errors network second

  abbrev pub charged_with : LimitsState → IpAddr → ℕ → Kind → LimitsState
  charged_with l network second Answer = record l { answers = behind_in same l.answers network second }
  charged_with l network second Referral = record l { referrals = behind_in same l.referrals network second }
  charged_with l network second (Negative zone)
      = record l { negatives = behind_in same_client l.negatives (record { network = network; zone = zone }) second }
  charged_with l network second Error = record l { errors = behind_in same l.errors network second }

  -- a client with a good server cookie, or in an exempt network, is never limited, and no table counts its responses
  abbrev pub is_free : LimitsState → IpAddr → Bool → Bool
  is_free l address has_cookie = has_cookie || is_in_any l.exempt address

  abbrev pub judged : LimitsState → IpAddr → Bool → Kind → ℕ → Verdict
  judged l address has_cookie kind second = if is_free l address has_cookie then Whole else verdict_of l (network_in l address) second kind

  abbrev pub behind_judged : LimitsState → IpAddr → Bool → Kind → ℕ → LimitsState
  behind_judged l address has_cookie kind second
      = if is_free l address has_cookie then l else charged_with l (network_in l address) second kind

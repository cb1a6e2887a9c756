-- The settings that a configuration says.
use Rattle.std.specs.Prelude.{ℕ, ◌≡◌, List, map, max, min, Option, Some, None, option_map, unwrap_or}
use Rattle.std.specs.NonZero.{non_zero_usize_get}
use Rattle.dns_config.specs.declared.prefix.Prefix.{Prefix}
use Rattle.dns_config.specs.declared.rate_limit.RateLimit.{RateLimit}
use Rattle.dns_rate_limit.specs.declared.limits.Settings.{Settings}
use Rattle.dns_networks.specs.declared.network.Network.{Network}
use Rattle.dns_rate_limit.specs.declared.rate.Rate.{Rate}

-- so many a second, 15 seconds of a window, and one of two truncated, if nothing else is said
abbrev pub rate_in : RateLimit → Option ℕ → Option Rate
rate_in r per_second = option_map (λ n. record { per_second = n; window = unwrap_or r.window 15; slip = unwrap_or r.slip 2 }) per_second

abbrev pub exempt_network : Prefix → Network
exempt_network p = record { address = p.address; bits = p.bits }

-- from 1 to 1,000,000, and 20,000 if nothing is said
abbrev pub capacity_of : Option ℕ → ℕ
capacity_of n = max 1 (min (unwrap_or n 20000) 1000000)

pub record IsSettingsOf (r : RateLimit) (s : Settings) : Type 0 where
  pub answers : s.answers ≡ rate_in r r.answers
  pub referrals : s.referrals ≡ rate_in r r.referrals
  pub negatives : s.negatives ≡ rate_in r r.negatives
  pub errors : s.errors ≡ rate_in r r.errors
  pub ipv4_bits : s.ipv4_bits ≡ unwrap_or r.ipv4_bits 24
  pub ipv6_bits : s.ipv6_bits ≡ unwrap_or r.ipv6_bits 56
  pub exempt : s.exempt.items ≡ map exempt_network r.exempt.items
  pub capacity : non_zero_usize_get s.capacity ≡ capacity_of r.networks

-- A table of accounts, each under its client, of which the one that was charged longest ago leaves if there are too many.
use Rattle.std.specs.Prelude.{ℕ, Bool, List, [], ◌∷◌, if◌then◌else◌}
use Rattle.std.specs.Map.{lookup}
use Rattle.lru.specs.LruCache.{LruCache, lru_cache, put_entries}
use Rattle.dns_rate_limit.specs.declared.rate.Rate.{Rate}
use Rattle.dns_rate_limit.specs.declared.rate.Verdict.{Verdict}
use Rattle.dns_rate_limit.specs.declared.account.Account.{Account}
use Rattle.dns_rate_limit.specs.Accounts.{charged_from, verdict_by}

-- what a limiter keeps
pub record LimiterState (K : Type 0) : Type 0 where
  pub rate : Rate
  pub accounts : LruCache K Account

module _ {K : Type 0} (same : K → K → Bool) where
  -- the table after a request of a client at a second
  abbrev pub behind : Rate → LruCache K Account → K → ℕ → LruCache K Account
  behind r c client second = lru_cache (put_entries same c client (charged_from r (lookup (same client) c.entries) second)) c.cap

  -- the table after requests, the newest first
  abbrev pub table : Rate → ℕ → List (K × ℕ) → LruCache K Account
  table r cap [] = lru_cache [] cap
  table r cap (request ∷ earlier) = behind r (table r cap earlier) request.0 request.1

  -- the seconds of a client's own requests
  abbrev pub own : K → List (K × ℕ) → List ℕ
  own client [] = []
  own client (request ∷ earlier) = if same client request.0 then request.1 ∷ own client earlier else own client earlier

  -- what is done with the response to a request after these
  abbrev pub table_verdict : Rate → ℕ → List (K × ℕ) → K → ℕ → Verdict
  table_verdict r cap requests client second = verdict_by r (charged_from r (lookup (same client) (table r cap requests).entries) second)

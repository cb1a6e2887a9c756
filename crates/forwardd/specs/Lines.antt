-- The lines that judging a configuration writes.
use Rattle.std.specs.Prelude.{ℕ, List, ◌++◌, codes, decimal}

-- how many replies the cache keeps, and how many queries are asked of upstreams at once
unfoldable pub limits_text : ℕ → ℕ → List ℕ
limits_text replies queries = codes "cache " ++ (decimal replies ++ (codes ", queries " ++ decimal queries))

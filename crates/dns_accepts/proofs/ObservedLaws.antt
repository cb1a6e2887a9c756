-- What objects tell through several calls.
use Rattle.dns_io.specs.Causes.{Observed}

-- another fact of the same calls
pub tells_map : (now before p q : Type 0) → (p → q) → Observed now before p → Observed now before q
tells_map now before p q f t = record { observed = λ n. let r = t.observed n in (r.0, f r.1) }

-- one call, and then another
pub tells_then : (now mid before p q r : Type 0) → (p → q → r) → Observed mid before p → Observed now mid q → Observed now before r
tells_then now mid before p q r f s t = record { observed = λ n. let y = t.observed n in let x = s.observed y.0 in (x.0, f x.1 y.1) }

-- two objects
pub tells_both : (na nb a b p q r : Type 0) → (p → q → r) → Observed na a p → Observed nb b q → Observed (na × nb) (a × b) r
tells_both na nb a b p q r f s t = record { observed = λ n. let x = s.observed n.0 in let y = t.observed n.1 in ((x.0, y.0), f x.1 y.1) }

-- The words of configurations in range read back.
use Rattle.std.proofs.Common.{◌≡◌, ℕ, ◌+◌, ◌<◌, ◌^◌, true, false, Bool, List, [], ◌∷◌, ◌++◌, Option, Some, None, refl, ap, arith}
use Rattle.std.specs.Prelude.{IfSome, Ok, decimal}
use Rattle.dns_events.specs.Config.{Connection, Dgram, IsBetween, IsBudget, IsConnection, IsDgram, IsResponseSize, IsStream, Stream, in_range, limited_budget, limited_size}
use Rattle.dns_trace.proofs.Decimals.{count_back, decimal_word, num_back, number_or_none_word, size_back}
use Rattle.dns_trace.proofs.Joined.{AreWords, IsWord}
use Rattle.dns_trace.specs.BudgetLine.{budget_values, budgeted}
use Rattle.dns_trace.specs.DgramLine.{dgram_values}
use Rattle.dns_trace.specs.Spelling.{number_or_none, yes_no}
use Rattle.dns_trace.specs.StreamLine.{configured, stream_values, timeouts_of}
use Rattle.dns_trace.specs.Trace.{budget_words, dgram_words, stream_words}
use Rattle.dns_trace.specs.Values.{yes_no_of}
use Rattle.dns_trace.specs.Words.{word_at}
use Rattle.dns_trace.specs.declared.budget_line.Budget.{Budget}

pub yes_no_back : (b : Bool) → yes_no_of (yes_no b) ≡ Ok b
unfolding yes_no_of
yes_no_back true = refl
yes_no_back false = refl

pub yes_no_word : (b : Bool) → IsWord (yes_no b)
yes_no_word true = record { some = omega arith; visible = record { within = refl } }
yes_no_word false = record { some = omega arith; visible = record { within = refl } }

-- a value in its range stays
stays : (low high x : ℕ) → IsBetween low high x → in_range low high x ≡ x
stays low high x h = omega (arith, h.0, h.1)

size_small : (o : Option ℕ) → IsResponseSize o → IfSome o (λ n. n < 65536)
size_small None h = tt
size_small (Some n) h = omega (arith, h.1)

pub size_fits : (o : Option ℕ) → IsResponseSize o → IfSome o (λ n. n < 2 ^ 64)
size_fits None h = tt
size_fits (Some n) h = omega (arith, h.1)

size_stays : (o : Option ℕ) → IsResponseSize o → limited_size o ≡ o
size_stays None h = refl
size_stays (Some n) h = ap (λ (m : ℕ). Some m) (stays 512 4096 n h)

pub count_fits : (o : Option ℕ) → IsBudget o → IfSome o (λ n. n < 2 ^ 64)
count_fits None h = tt
count_fits (Some n) h = omega (arith, h.1)

count_stays : (o : Option ℕ) → IsBudget o → limited_budget o ≡ o
count_stays None h = refl
count_stays (Some n) h = ap (λ (m : ℕ). Some m) (stays 1 1000000 n h)

-- SIZE WRITE reads back, if its two words stand at i
pub dgram_back : (d : Dgram) (ws : List (List ℕ)) (i : ℕ) → IsDgram d
    → word_at ws i ≡ number_or_none d.max_response_size → word_at ws (i + 1) ≡ decimal d.write_timeout → dgram_values ws i ≡ Ok d
unfolding dgram_values
dgram_back d ws i h first second =
    rw (
      first,
      second,
      size_back d.max_response_size (size_small d.max_response_size h.max_response_size),
      num_back d.write_timeout (omega (arith, h.write_timeout.1)),
      size_stays d.max_response_size h.max_response_size,
      stays 1 60000 d.write_timeout h.write_timeout,
    ) refl

-- the configuration of a stream server as its line says it, without a budget
abbrev pub without_budget : Stream → Stream
without_budget s = record s { connection_config = record s.connection_config { response_budget = None; budget_window = 1000 } }

-- a stream server's configuration in range is that of its numbers
configured_back : (s : Stream) → IsStream s
    → configured s.connection_config.idle_timeout s.connection_config.response_write_timeout s.connection_config.max_queued_responses s.max_concurrent_connections s.accept_connections_at_max ≡ without_budget s
configured_back s h =
    rw (
      stays 200 2592000000 s.connection_config.idle_timeout h.connection_config.idle_timeout,
      stays 1 3600000 s.connection_config.response_write_timeout h.connection_config.response_write_timeout,
      stays 1 1024 s.connection_config.max_queued_responses h.connection_config.max_queued_responses,
      stays 1 100000 s.max_concurrent_connections h.max_concurrent_connections,
    ) refl

-- the words of a stream server stand from i on
pub record StreamAt (s : Stream) (ws : List (List ℕ)) (i : ℕ) : Type 0 where
  pub idle : word_at ws i ≡ decimal s.connection_config.idle_timeout
  pub write : word_at ws (i + 1) ≡ decimal s.connection_config.response_write_timeout
  pub queue : word_at ws (i + 2) ≡ decimal s.connection_config.max_queued_responses
  pub limit : word_at ws (i + 3) ≡ decimal s.max_concurrent_connections
  pub accepts : word_at ws (i + 4) ≡ yes_no s.accept_connections_at_max

pub stream_back : (s : Stream) (ws : List (List ℕ)) (i : ℕ) → IsStream s → StreamAt s ws i → stream_values ws i ≡ Ok (without_budget s)
unfolding stream_values timeouts_of
stream_back s ws i h stand =
    let idle = num_back s.connection_config.idle_timeout (omega (arith, h.connection_config.idle_timeout.1)) in
    let write = num_back s.connection_config.response_write_timeout (omega (arith, h.connection_config.response_write_timeout.1)) in
    let queue = num_back s.connection_config.max_queued_responses (omega (arith, h.connection_config.max_queued_responses.1)) in
    let limit = num_back s.max_concurrent_connections (omega (arith, h.max_concurrent_connections.1)) in
    rw (stand.idle, stand.write, stand.queue, stand.limit, stand.accepts, idle, write, queue, limit, yes_no_back s.accept_connections_at_max)
    (ap (λ (c : Stream). Ok c) (configured_back s h))

-- BUDGET WINDOW as it is said
abbrev pub budget_of : Connection → Budget
budget_of c = record { count = c.response_budget; window = c.budget_window }

pub budget_back : (c : Connection) (ws : List (List ℕ)) (i : ℕ) → IsConnection c
    → word_at ws i ≡ number_or_none c.response_budget → word_at ws (i + 1) ≡ decimal c.budget_window → budget_values ws i ≡ Ok (budget_of c)
unfolding budget_values
budget_back c ws i h first second =
    rw (first, second, count_back c.response_budget (count_fits c.response_budget h.response_budget), num_back c.budget_window (omega (arith, h.budget_window.1))) refl

-- with its budget it is whole again
pub budgeted_back : (s : Stream) → IsStream s → budgeted (Some (budget_of s.connection_config)) (without_budget s) ≡ s
budgeted_back s h =
    rw (count_stays s.connection_config.response_budget h.connection_config.response_budget, stays 1 3600000 s.connection_config.budget_window h.connection_config.budget_window) refl

pub dgram_are_words : (d : Dgram) → IsDgram d → AreWords (dgram_words d)
dgram_are_words d h =
    (number_or_none_word d.max_response_size (size_fits d.max_response_size h.max_response_size), (decimal_word d.write_timeout (omega (arith, h.write_timeout.1)), tt))

pub stream_are_words : (s : Stream) → IsStream s → AreWords (stream_words s)
stream_are_words s h = (
  decimal_word s.connection_config.idle_timeout (omega (arith, h.connection_config.idle_timeout.1)),
  (
    decimal_word s.connection_config.response_write_timeout (omega (arith, h.connection_config.response_write_timeout.1)),
    (
      decimal_word s.connection_config.max_queued_responses (omega (arith, h.connection_config.max_queued_responses.1)),
      (decimal_word s.max_concurrent_connections (omega (arith, h.max_concurrent_connections.1)), (yes_no_word s.accept_connections_at_max, tt)),
    ),
  ),
)

pub budget_are_words : (c : Connection) → IsConnection c → AreWords (budget_words c)
budget_are_words c h =
    (number_or_none_word c.response_budget (count_fits c.response_budget h.response_budget), (decimal_word c.budget_window (omega (arith, h.budget_window.1)), tt))

pub words_append : (v w : List (List ℕ)) → AreWords v → AreWords w → AreWords (v ++ w)
words_append [] w first second = second
words_append (x ∷ v) w first second = (first.0, words_append v w first.1 second)

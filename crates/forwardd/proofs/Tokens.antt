-- What the number of something registered stands for is that.
use Rattle.std.proofs.Common.{◌≡◌, ◌<◌, ◌≤◌, ◌∙◌, ℕ, ◌+◌, ◌-◌, ◌*◌, ◌/◌, ◌%◌, true, false, ltb, refl, arith, lt-ltb}
use Rattle.std.proofs.lemmas.Bool.{le-ltb}
use Rattle.forwardd.specs.declared.token.Source.{Source}
use Rattle.forwardd.specs.declared.token.Source.TheVariants.{Datagrams, Connections, Socket, Upstream, Client}
use Rattle.forwardd.specs.Tokens.{IsThere, number_of, source_behind, source_of}

-- the tests of a number of three times something and a rest
socket-behind : (m k : ℕ) → m ≡ 3 * k → source_behind m ≡ Socket k
socket-behind m k e =
    let rest : m % 3 ≡ 0 = omega arith in
    let whole : m / 3 ≡ k = omega arith in
    rw (rest, whole) refl

upstream-behind : (m k : ℕ) → m ≡ 3 * k + 1 → source_behind m ≡ Upstream k
upstream-behind m k e =
    let rest : m % 3 ≡ 1 = omega arith in
    let whole : m / 3 ≡ k = omega arith in
    rw (rest, whole) refl

client-behind : (m k : ℕ) → m ≡ 3 * k + 2 → source_behind m ≡ Client k
client-behind m k e =
    let rest : m % 3 ≡ 2 = omega arith in
    let whole : m / 3 ≡ k = omega arith in
    rw (rest, whole) refl

-- a number that isn't of a listener
behind : (n t : ℕ) → 2 * n ≤ t → source_of n t ≡ source_behind (t - n - n)
behind n t h =
    let first : ltb t n ≡ false = le-ltb t n (omega arith) in
    let second : ltb (t - n) n ≡ false = le-ltb (t - n) n (omega arith) in
    rw (first, second) refl

listed : (n t k : ℕ) → t ≡ n + k → k < n → source_of n t ≡ Connections k
listed n t k e h =
    let first : ltb t n ≡ false = le-ltb t n (omega arith) in
    let rest : t - n ≡ k = omega arith in
    let second : ltb k n ≡ true = lt-ltb k n h in
    rw (first, rest, second) refl

pub stands : (n : ℕ) (s : Source) → IsThere n s → source_of n (number_of n s) ≡ s
stands n (Datagrams k) h = let first : ltb k n ≡ true = lt-ltb k n h in rw first refl
stands n (Connections k) h = listed n (n + k) k refl h
stands n (Socket k) h = behind n (2 * n + 3 * k) (omega arith) ∙ socket-behind (2 * n + 3 * k - n - n) k (omega arith)
stands n (Upstream k) h = behind n (2 * n + 3 * k + 1) (omega arith) ∙ upstream-behind (2 * n + 3 * k + 1 - n - n) k (omega arith)
stands n (Client k) h = behind n (2 * n + 3 * k + 2) (omega arith) ∙ client-behind (2 * n + 3 * k + 2 - n - n) k (omega arith)

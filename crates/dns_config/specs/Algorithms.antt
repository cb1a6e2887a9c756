-- The algorithms of keys by their names (RFC 8945, section 6).
use Rattle.std.specs.Prelude.{ℕ, List, codes, Option, Some, None, if◌then◌else◌}
use Rattle.std.specs.Str.{bytes_eq}
use Rattle.dns_hmac.specs.declared.algorithm.Algorithm.{Algorithm}
use Rattle.dns_hmac.specs.declared.algorithm.Algorithm.TheVariants.{Sha1, Sha256, Sha384, Sha512}

abbrev pub sha2_named : List ℕ → Option Algorithm
sha2_named text =
    if bytes_eq text (codes "hmac-sha256") then Some Sha256 else
    (if bytes_eq text (codes "hmac-sha384") then Some Sha384 else
    (if bytes_eq text (codes "hmac-sha512") then Some Sha512 else None))

abbrev pub algorithm_named : List ℕ → Option Algorithm
algorithm_named text = if bytes_eq text (codes "hmac-sha1") then Some Sha1 else sha2_named text

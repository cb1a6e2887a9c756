-- A text that comes in pieces.
use Rattle.std.proofs.Common.{◌≡◌, ℕ, List, [], ◌∷◌, ◌++◌, Ok, Err, refl}
use Rattle.std.specs.Prelude.{Result}
use Rattle.dns_entries.specs.Entries.{scan_begins}
use Rattle.dns_entries.specs.Reading.{LineRead, ◌>>=◌}
use Rattle.dns_entries.specs.declared.scan.Scan.{Scan}
use Rattle.dns_zone_file.specs.Pieces.{after_piece, finished_reading, reading_begun, reading_of, then_piece, zone_finished}
use Rattle.dns_zone_file.specs.ZoneFile.{ZoneDraft, draft_begun, step, steps, zone_file}

pub pieces : (a b : List ℕ) (x : Scan) (d : ZoneDraft) → (steps x d (a ++ b) >>= λ s. Ok (reading_of s)) ≡ then_piece (steps x d a >>= λ s. Ok (reading_of s)) b
pieces [] b x d = refl
pieces (c ∷ a) b x d =
    elim (step x d c) as (λ r. ((r >>= λ s. steps s.0 s.1 (a ++ b)) >>= λ s. Ok (reading_of s)) ≡ then_piece ((r >>= λ s. steps s.0 s.1 a) >>= λ s. Ok (reading_of s)) b)
    [ Ok s ↦ pieces a b s.0 s.1 | Err e ↦ refl ]

pub whole_text : (origin : List (List ℕ)) (text : List ℕ) → zone_file origin text ≡ finished_reading (after_piece (reading_begun origin) text)
unfolding zone_file zone_finished
whole_text origin text =
    elim (steps (scan_begins 1) (draft_begun origin) text) as (λ r. (r >>= λ s. zone_finished (reading_of s)) ≡ finished_reading (r >>= λ s. Ok (reading_of s)))
    [ Ok s ↦ refl | Err e ↦ refl ]

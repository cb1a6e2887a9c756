-- The records of a transfer that is answered.
use Rattle.std.proofs.Common.{◌≡◌, ◌≤◌, ◌+◌, ℕ, suc, Bool, true, false, List, [], ◌∷◌, ◌++◌, map, length, refl, ap, sym, ◌∙◌, arith, cond}
use Rattle.std.specs.Prelude.{if◌then◌else◌, nat_lt, Option, Some, None}
use Rattle.std.specs.List.{AllByRecursion, filter, position, position_from}
use Rattle.std.proofs.lemmas.Bool.Decides.{nat_tests}
use Rattle.std.proofs.lemmas.Iterator.Adapters.{position_from-zero}
use Rattle.dns_base.specs.Msg.{ResourceRecord}
use Rattle.dns_base.specs.Records.{record_of}
use Rattle.dns_base.specs.Wire.{record_octets}
use Rattle.dns_message.specs.declared.question.Question.{Question}
use Rattle.dns_message.specs.declared.record.Record.{Record}
use Rattle.dns_service.specs.Answer.{Answer}
use Rattle.dns_service.specs.Once.{once}
use Rattle.dns_service.specs.Req.{Req}
use Rattle.dns_transfer.specs.Transfers.{IsSmall, bunched, joined_answers, other_records, record_limit, soa_records, transfer, transfer_records}
use Rattle.dns_transfer.proofs.TransferLaws.{small_transfers_fit, transfers_are_whole}
use Rattle.dns_zone.specs.Owned.{ZoneState}
use Rattle.dns_authority.specs.Authorities.{AsksTransfer, AuthorityState, coded, may_transfer}
use Rattle.dns_zone_tree.specs.Long.{is_long}
use Rattle.dns_authority.specs.SentZones.{TransfersAreTheRecords}
use Rattle.dns_authority.specs.ServedZones.{sent_of}
use Rattle.dns_authority.proofs.AnswerLaws.{transfers_are_answered}
use Rattle.dns_authority.proofs.AskedLaws.{sole_asked}

-- ---- records that aren't long

abbrev IsShort : Record → Type 0
IsShort r = IsSmall (record_of r)

short_by : (n : ℕ) → nat_lt 65000 n ≡ false → n ≤ 65000
short_by n h = grind (arith, nat_tests)

none_step : (b : Bool) (r : Record) (rs : List Record) (i : ℕ) (o : Option ℕ) → is_long r ≡ b → (o ≡ None → AllByRecursion IsShort rs) → cond b (Some i) o ≡ None → AllByRecursion IsShort (r ∷ rs)
none_step true r rs i o e ih h = absurd (cc)
none_step false r rs i o e ih h = (short_by (length (record_octets (record_of r))) e, ih h)

none_long : (i : ℕ) (rs : List Record) → position_from is_long i rs ≡ None → AllByRecursion IsShort rs
none_long i [] h = tt
none_long i (r ∷ rs) h = none_step (is_long r) r rs i (position_from is_long (i + 1) rs) refl (none_long (i + 1) rs) h

all_short : (rs : List Record) → position is_long rs ≡ None → AllByRecursion IsShort rs
all_short rs h = none_long 0 rs (sym (position_from-zero is_long rs) ∙ h)

some_step : (P : Record → Type 0) (b : Bool) (r : Record) (ks : List Record) → P r → AllByRecursion P ks → AllByRecursion P (cond b (r ∷ ks) ks)
some_step P true r ks h g = (h, g)
some_step P false r ks h g = g

all_filtered : (P : Record → Type 0) (p : Record → Bool) (rs : List Record) → AllByRecursion P rs → AllByRecursion P (filter p rs)
all_filtered P p [] h = tt
all_filtered P p (r ∷ rs) h = some_step P (p r) r (filter p rs) h.0 (all_filtered P p rs h.1)

all_then : (P : Record → Type 0) (xs ys : List Record) → AllByRecursion P xs → AllByRecursion P ys → AllByRecursion P (xs ++ ys)
all_then P [] ys h g = g
all_then P (x ∷ xs) ys h g = (h.0, all_then P xs ys h.1 g)

all_small : (rs : List Record) → AllByRecursion IsShort rs → AllByRecursion IsSmall (map record_of rs)
all_small [] h = tt
all_small (r ∷ rs) h = (h.0, all_small rs h.1)

sent_small : (z : ZoneState) → position is_long z.records ≡ None → AllByRecursion IsSmall (transfer_records z)
sent_small z h =
    let k = all_short z.records h in
    let s : AllByRecursion IsShort (soa_records z) = all_filtered IsShort _ z.records k in
    let o : AllByRecursion IsShort (other_records z) = all_filtered IsShort _ z.records k in
    all_small (soa_records z ++ (other_records z ++ soa_records z)) (all_then IsShort (soa_records z) (other_records z ++ soa_records z) s (all_then IsShort (other_records z) (soa_records z) o s))

-- ---- the answers

pub transfers_are_the_records : {Meta : Type 0} → TransfersAreTheRecords Meta
transfers_are_the_records a r q v n h m s few =
    let o = r.octets in
    let z = sent_of v.zone v.signing in
    let d = sole_asked o q h.question in
    let e : joined_answers (transfer z o) n ≡ transfer_records z = transfers_are_whole z o n (small_transfers_fit z o q d.0 d.1 (sent_small z s)) few in
    ap (λ (x : ℕ → Answer). joined_answers x n) (transfers_are_answered a r q v h)
    ∙ (ap (λ (b : Bool). joined_answers (if b then transfer z o else once (coded o 5)) n) m ∙ e)
